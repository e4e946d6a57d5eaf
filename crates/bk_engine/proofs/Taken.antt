-- An instance over a device that was read alone.
use Rattle.std.proofs.Common.{ℕ, List, None}
use Rattle.bk_archive.specs.MediaLaws.{media-in}
use Rattle.bk_device.specs.Calls.{ChangesNothing}
use Rattle.bk_device.specs.Compose.{effect_of_nothing, keeps_by_nothing}
use Rattle.bk_device.specs.Disk.{Disk}
use Rattle.bk_machine.specs.World.{World}
use Rattle.bk_stores.specs.Standing.{AreStanding}
use Rattle.bk_stores.specs.Stores.{Kept as KeptStores}
use Rattle.bk_volume.specs.Names.{medium_file}
use Rattle.bk_engine.specs.BesideLaws.{hosting-stays, stores-stand}
use Rattle.bk_engine.specs.CopiedLaws.{copied-nothing}
use Rattle.bk_engine.specs.RowLaws.{calm-nothing}
use Rattle.bk_engine.specs.Stands.{Kept, StandsFor}
use Rattle.bk_engine.specs.Touched.{TouchesOnly}

pub stands-nothing : (a b : Disk) (e : Kept) (w : World) → ChangesNothing a b → StandsFor a e w → StandsFor b e w
stands-nothing a b e w call is = record {
  sound = is.sound;
  instance = is.instance;
  counter = is.counter;
  session = is.session;
  sessions = is.sessions;
  hosted = is.hosted;
  hosts = is.hosts;
  hosting = hosting-stays e.hosting is.hosted (keeps_by_nothing call) is.hosting;
  media = media-in w None a.files b.files (λ path are. call.files (medium_file path)) is.media;
  calm = calm-nothing call is.calm;
  copied = copied-nothing a b is.hosted call is.copied;
}

pub standing-nothing : (a b : Disk) (s : KeptStores) → ChangesNothing a b → AreStanding a s → AreStanding b s
standing-nothing a b s call is = stores-stand s (keeps_by_nothing call) is

pub touches-nothing : {named : List ℕ → Type 0} {a b : Disk} → ChangesNothing a b → TouchesOnly named a b
touches-nothing call = effect_of_nothing (λ image left. tt) call
