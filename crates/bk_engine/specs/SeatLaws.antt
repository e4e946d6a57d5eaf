-- The current session changes, or its current database, or whether its next backup only starts, in memory alone.
use Rattle.std.proofs.Common.{◌≡◌, ◌∙◌, ℕ, Bool, List, map, Option, None, refl, sym, ap}
use Rattle.bk_archive.specs.MediaLaws.{media-on}
use Rattle.bk_device.specs.Disk.{Disk}
use Rattle.bk_kept.specs.declared.kept.Session.{Session}
use Rattle.bk_kept.specs.Keeps.{session_of}
use Rattle.bk_machine.specs.Acts.{done, readied, seated, turned}
use Rattle.bk_machine.specs.Sound.{IsSound}
use Rattle.bk_machine.specs.World.{World, session_numbered, with_session}
use Rattle.bk_engine.specs.RowLaws.{calm-on}
use Rattle.bk_engine.specs.Rows.{rows_in}
use Rattle.bk_engine.specs.Stands.{Kept, StandsFor}

pub seated-stands : (disk : Disk) (e : Kept) (w : World) (session : ℕ) → StandsFor disk e w → IsSound (done w (seated session)) → StandsFor disk (record e { session = session }) (done w (seated session))
unfolding done rows_in
seated-stands disk e w session is sound = record {
  sound = sound;
  instance = is.instance;
  counter = is.counter;
  session = refl;
  sessions = is.sessions;
  hosted = is.hosted;
  hosts = record { same = is.hosts.same; each = is.hosts.each };
  hosting = is.hosting;
  media = media-on w (done w (seated session)) None disk.files refl (λ path header in_it. refl) is.media;
  calm = calm-on refl is.calm;
  copied = is.copied;
}

pub turned-stands : (disk : Disk) (e : Kept) (w : World) (name : Option (List ℕ)) (ss : List Session) → StandsFor disk e w → map session_of ss ≡ with_session (map session_of e.sessions) (record (session_numbered (map session_of e.sessions) e.session) { current = name }) → IsSound (done w (turned name)) → StandsFor disk (record e { sessions = ss }) (done w (turned name))
unfolding done rows_in
turned-stands disk e w name ss is set sound = record {
  sound = sound;
  instance = is.instance;
  counter = is.counter;
  session = is.session;
  sessions =
      ap (λ ts. with_session ts (record (session_numbered ts w.session) { current = name })) is.sessions
      ∙ ap (λ n. with_session (map session_of e.sessions) (record (session_numbered (map session_of e.sessions) n) { current = name })) is.session
      ∙ sym set;
  hosted = is.hosted;
  hosts = record { same = is.hosts.same; each = is.hosts.each };
  hosting = is.hosting;
  media = media-on w (done w (turned name)) None disk.files refl (λ path header in_it. refl) is.media;
  calm = calm-on refl is.calm;
  copied = is.copied;
}

pub readied-stands : (disk : Disk) (e : Kept) (w : World) (starts : Bool) (ss : List Session) → StandsFor disk e w → map session_of ss ≡ with_session (map session_of e.sessions) (record (session_numbered (map session_of e.sessions) e.session) { starts = starts }) → IsSound (done w (readied starts)) → StandsFor disk (record e { sessions = ss }) (done w (readied starts))
unfolding done rows_in
readied-stands disk e w starts ss is set sound = record {
  sound = sound;
  instance = is.instance;
  counter = is.counter;
  session = is.session;
  sessions =
      ap (λ ts. with_session ts (record (session_numbered ts w.session) { starts = starts })) is.sessions
      ∙ ap (λ n. with_session (map session_of e.sessions) (record (session_numbered (map session_of e.sessions) n) { starts = starts })) is.session
      ∙ sym set;
  hosted = is.hosted;
  hosts = record { same = is.hosts.same; each = is.hosts.each };
  hosting = is.hosting;
  media = media-on w (done w (readied starts)) None disk.files refl (λ path header in_it. refl) is.media;
  calm = calm-on refl is.calm;
  copied = is.copied;
}
