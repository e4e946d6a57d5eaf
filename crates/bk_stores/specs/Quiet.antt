-- Files of an instance in which nothing is to be finished, removed or undone.
use Rattle.std.specs.Prelude.{◌≡◌, ℕ, true, [], None, Some, slice_get}
use Rattle.bk_device.specs.Disk.{Files}
use Rattle.bk_master.specs.declared.record.Entry.{Entry}
use Rattle.bk_master.specs.declared.record.Record.{Record}
use Rattle.bk_master.specs.Master.{HoldsRecord}
use Rattle.bk_reopening.specs.OpeningQuiet.{IsQuiet}

-- The instance is made. Its record names no medium, no set, no copy of a database, and no store as one that is being made or removed, and in each store that it names nothing is to be finished or undone.
pub record AreQuiet (files : Files) : Type 0 where
  pub «record» : Record
  pub is_record : HoldsRecord files «record»
  pub no_medium : «record».own.making ≡ None
  pub no_set : «record».own.staging ≡ None
  pub no_copy : «record».own.copying ≡ []
  pub none : «record».unfinished ≡ []
  pub each : (i : ℕ) (e : Entry) → slice_get «record».databases i ≡ Some e → e.is_stored ≡ true → IsQuiet e.store files
