-- What may happen to the files of an instance and to its world together, between two runs: media and standby files come, change and go. No event touches the files of databases yet.
-- SQL Server: "Media Sets, Media Families, and Backup Sets".
use Rattle.std.specs.Prelude.{◌≡◌, ◌≢◌, ◌⊎◌, ℕ, true, List}
use Rattle.bk_archive.specs.Events as of_media
use Rattle.bk_device.specs.Disk.{Files}
use Rattle.bk_engine.specs.Loading.{Stands}
use Rattle.bk_machine.specs.Events.{StandbyRemoved}
use Rattle.bk_machine.specs.World.{World}
use Rattle.bk_master.specs.Master.{IsNotMade}
use Rattle.bk_volume.specs.Names.{medium_file}

-- a run has ended, or the instance isn't made yet
abbrev pub IsAtRest : Files → World → Type 0
IsAtRest files w = (w.closed ≡ true) ⊎ IsNotMade files

-- files stand for a world, and no run was cut off in it
pub record StandsAtRest (number : ℕ) (files : Files) (w : World) : Type 0 where
  pub stands : Stands number files w
  pub rest : IsAtRest files w

-- all files but that of the medium at a path are as they were
abbrev pub OnlyMedium : List ℕ → Files → Files → Type 0
OnlyMedium path before after = (name : List ℕ) → name ≢ medium_file path → after name ≡ before name

-- a medium is removed
pub record RemovesMedium (before : Files) (old : World) (after : Files) (new : World) : Type 0 where
  pub medium : of_media.RemovesMedium before old after new
  pub others : OnlyMedium medium.world.path before after

-- a standby file is removed: none is stored
pub record RemovesStandby (before : Files) (old : World) (after : Files) (new : World) : Type 0 where
  pub world : StandbyRemoved old new
  pub others : (name : List ℕ) → after name ≡ before name

-- a medium changes
pub record ChangesMedium (before : Files) (old : World) (after : Files) (new : World) : Type 0 where
  pub medium : of_media.ChangesMedium before old after new
  pub others : OnlyMedium medium.world.path before after

-- a medium is added
pub record AddsMedium (before : Files) (old : World) (after : Files) (new : World) : Type 0 where
  pub medium : of_media.AddsMedium before old after new
  pub others : OnlyMedium medium.world.path before after

-- one event
abbrev pub HappensOn : Files → World → Files → World → Type 0
HappensOn before old after new = RemovesMedium before old after new ⊎ (RemovesStandby before old after new ⊎ (ChangesMedium before old after new ⊎ AddsMedium before old after new))

-- any number of events
pub data HappenOn : Files → World → Files → World → Type 0 where
  nothing_more : {files : Files} {w : World} → HappenOn files w files w
  one_more : {before between after : Files} {old mid new : World} → HappensOn before old between mid → HappenOn between mid after new → HappenOn before old after new
