-- What the layers above may take of files in which nothing is to be finished, removed or undone.
use Rattle.std.proofs.Common.{◌≡◌, ℕ, true, List, Some, subst}
use Rattle.std.specs.Prelude.{slice_get}
use Rattle.bk_device.specs.Calls.{ChangesNothing}
use Rattle.bk_device.specs.Disk.{Disk, Files}
use Rattle.bk_master.specs.declared.record.Entry.{Entry}
use Rattle.bk_master.specs.declared.record.Record.{Record}
use Rattle.bk_master.specs.Laws.{holds_same, master_files, one_record}
use Rattle.bk_master.specs.Master.{IsMaster, Kept as KeptMaster}
use Rattle.bk_reopening.specs.OpeningQuiet.{IsQuiet}
use Rattle.bk_reopening.specs.OpeningQuietLaws.{quiet_same}
use Rattle.bk_stores.specs.Quiet.{AreQuiet}

-- files that read the same are such files too
pub quiet-same : {f g : Files} → ((name : List ℕ) → g name ≡ f name) → AreQuiet f → AreQuiet g
quiet-same same is = record {
  «record» = is.«record»;
  is_record = holds_same (λ name own. same name) is.is_record;
  no_medium = is.no_medium;
  no_set = is.no_set;
  no_copy = is.no_copy;
  none = is.none;
  each = λ i e there stored. quiet_same e.store same (is.each i e there stored);
}

-- so they are where nothing was changed
pub quiet-moved : {a b : Disk} → ChangesNothing a b → AreQuiet a.files → AreQuiet b.files
quiet-moved call is = quiet-same (λ name. call.files name) is

-- the record that stands is theirs
pub quiet-record : {a : Disk} (m : KeptMaster) → IsMaster a m → (is : AreQuiet a.files) → m.record ≡ is.«record»
quiet-record m master is = one_record (master_files master) is.is_record

-- in the store of one of its entries nothing is to be finished or undone
pub quiet-entry : {a : Disk} (m : KeptMaster) (i : ℕ) (e : Entry) → IsMaster a m → AreQuiet a.files → slice_get m.record.databases i ≡ Some e → e.is_stored ≡ true → IsQuiet e.store a.files
quiet-entry m i e master is there stored = is.each i e (subst (λ (r : Record). slice_get r.databases i ≡ Some e) (quiet-record m master is) there) stored
