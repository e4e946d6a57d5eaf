-- The GUID of a set is drawn, in memory alone.
use Rattle.std.proofs.Common.{◌+◌, None, refl, ap}
use Rattle.bk_archive.specs.MediaLaws.{media-on}
use Rattle.bk_device.specs.Disk.{Disk}
use Rattle.bk_machine.specs.Acts.{done, set_drawn}
use Rattle.bk_machine.specs.Sound.{IsSound}
use Rattle.bk_machine.specs.World.{World}
use Rattle.bk_engine.specs.RowLaws.{calm-on}
use Rattle.bk_engine.specs.Rows.{rows_in}
use Rattle.bk_engine.specs.Stands.{Kept, StandsFor}

pub drawn-stands : (disk : Disk) (e : Kept) (w : World) → StandsFor disk e w → IsSound (done w set_drawn) → StandsFor disk (record e { drawn = e.drawn + 1 }) (done w set_drawn)
unfolding done rows_in
drawn-stands disk e w is sound = record {
  sound = sound;
  instance = is.instance;
  counter = ap (λ n. n + 1) is.counter;
  session = is.session;
  sessions = is.sessions;
  hosted = is.hosted;
  hosts = record { same = is.hosts.same; each = is.hosts.each };
  hosting = is.hosting;
  media = media-on w (done w set_drawn) None disk.files refl (λ path header in_it. refl) is.media;
  calm = calm-on refl is.calm;
  copied = is.copied;
}
