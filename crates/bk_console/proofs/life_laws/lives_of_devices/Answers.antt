use Rattle.bk_console.proofs.Living.{EventLaws, empty-lives, live-lasts}
use Rattle.bk_console.proofs.life_laws.lives_of_devices.Goals as goal

pub returns : goal.returns
returns g c =
    let laws : EventLaws = record {
      same = λ number f g w same. c.runs_begin_where_files_stand.ensures.same number w f g same;
      any = c.events_keep_what_stands.ensures.any;
      of_world = c.events_keep_what_stands.ensures.of_world;
      closed = c.events_keep_worlds_sound.ensures.closed;
      empty = c.empty_files_stand.ensures;
    } in
    let lasts = live-lasts g.S.Source.tells g.C.Clock.tells g.D.Device.tells g.D.Device.disk g.met.D.Device.lawful laws in
    record {
      begins = empty-lives laws;
      lasts = lasts;
      lives = λ n number files is. lasts n files _ (empty-lives laws number files is);
    }
