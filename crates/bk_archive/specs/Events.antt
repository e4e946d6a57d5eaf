-- What may happen to the files of media and to a world together, between two runs.
use Rattle.std.specs.Prelude.{◌≡◌, ℕ, List, Option, Some, None}
use Rattle.bk_bytes.specs.Field.{AreBytes}
use Rattle.bk_device.specs.Disk.{Files}
use Rattle.bk_machine.specs.Events.{MediumAdded, MediumChanged, MediumRemoved}
use Rattle.bk_machine.specs.World.{World}
use Rattle.bk_volume.specs.Media.{read_medium}
use Rattle.bk_volume.specs.Names.{medium_file}
use Rattle.bk_volume.specs.Stored.{IsSetAt, IsWhole}
use Rattle.bk_archive.specs.Media.{KeepsMedia}
use Rattle.bk_archive.specs.MediumLaws.{SameOthers}

-- a medium is removed: its file is gone
pub record RemovesMedium (before : Files) (old : World) (after : Files) (new : World) : Type 0 where
  pub world : MediumRemoved old new
  pub bytes : AreBytes world.path
  pub gone : after (medium_file world.path) ≡ None
  pub others : SameOthers before world.path after

-- a medium changes: its file reads so, and each set that has its own digest in it was there
pub record ChangesMedium (before : Files) (old : World) (after : Files) (new : World) : Type 0 where
  pub world : MediumChanged old new
  pub bytes : AreBytes world.path
  pub reads : read_medium (after (medium_file world.path)) ≡ Some world.after
  pub sets : (p : ℕ) (blob : List ℕ) → IsSetAt (after (medium_file world.path)) p blob → IsWhole blob → IsSetAt (before (medium_file world.path)) p blob
  pub others : SameOthers before world.path after

-- a medium is added: its file comes from other files, which keep the media of the world in which it stood
pub record AddsMedium (before : Files) (old : World) (after : Files) (new : World) : Type 0 where
  pub world : MediumAdded old new
  pub bytes : AreBytes world.path
  pub making : Option (List ℕ)
  pub files : Files
  pub media : KeepsMedia world.other making files
  pub from_bytes : AreBytes world.stood.0
  pub comes : after (medium_file world.path) ≡ files (medium_file world.stood.0)
  pub others : SameOthers before world.path after
