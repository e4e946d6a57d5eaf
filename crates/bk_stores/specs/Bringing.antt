-- A database that is made of a set on a medium, beside others.
-- SQL Server: "Complete Database Restores (Full Recovery Model)".
use Rattle.std.specs.Prelude.{◌≡◌, ◌<◌, ◌^◌, ℕ, List}
use Rattle.bk_device.specs.Calls.{contents}
use Rattle.bk_device.specs.Disk.{Disk}
use Rattle.bk_facts.specs.declared.facts.DataFile.{DataFile}
use Rattle.bk_known.specs.declared.known.Known.{Known}
use Rattle.bk_paged.specs.Names.{paths_of}
use Rattle.bk_recovering.specs.Recovering.{Makes}
use Rattle.bk_store.specs.Told.{Told}
use Rattle.bk_stores.specs.Records.{begun}
use Rattle.bk_stores.specs.Stores.{Kept}
use Rattle.bk_recovering.specs.VolumeStored.{Stored}

-- The set of the medium in the file of this name makes this database with these data files, as a store of the next number.
abbrev pub MakesNext : Disk → Kept → List ℕ → Stored → List DataFile → ℕ → List ℕ → Known → Told → Type 0
MakesNext disk s name stored files checkpoint note known told = Makes (contents (disk.files name)) stored files s.master.record.next checkpoint note known told

-- The store of the next number is named as one that is being made, with these data files.
pub record IsNamed (s then : Kept) (files : List DataFile) : Type 0 where
  pub small : s.master.record.next < 2 ^ 32
  pub put : then.master.record ≡ begun s.master.record (paths_of files)
  pub slots : then.slots ≡ s.slots
