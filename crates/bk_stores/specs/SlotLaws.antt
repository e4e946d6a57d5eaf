-- What is done to other files leaves the store of an entry, and what a crash leaves of it.
use Rattle.std.proofs.Common.{◌≡◌, ℕ, Bool, true, false, List, [], length, Option, Some, None, refl, inl, inr, sym, ap, subst, arith}
use Rattle.std.proofs.lemmas.List.{take_all}
use Rattle.bk_control.specs.Slots.{control_of}
use Rattle.bk_device.specs.Compose.{durable_kept}
use Rattle.bk_device.specs.Disk.{Disk, Files}
use Rattle.bk_device.specs.Effects.{KeepsFiles, MayLeaveOwn}
use Rattle.bk_facts.specs.declared.facts.DataFile.{DataFile}
use Rattle.bk_gate.specs.Blobs.{sealed}
use Rattle.bk_master.specs.declared.record.Entry.{Entry}
use Rattle.bk_paged.specs.Leaving.{still_holds}
use Rattle.bk_paged.specs.Names.{IsOwn}
use Rattle.bk_paged.specs.Paged.{sealed_count}
use Rattle.bk_segments.specs.FileLaws.{log_same}
use Rattle.bk_segments.specs.Files.{control_file, segment_file}
use Rattle.bk_store.specs.LiftLaws.{leaves-lift}
use Rattle.bk_store.specs.FrontLaws.{shown-log}
use Rattle.bk_store.specs.Store.{IsStore, sealed_in, Kept as KeptStore}
use Rattle.bk_store.specs.Told.{HoldsRecords, LeavesRecords, Told, data_files, files_of, front_of, stood_of}
use Rattle.bk_stores.specs.StoreLaws.{records-same, store-kept}
use Rattle.bk_stores.specs.Stores.{HoldsBy, HoldsEntry, HoldsNote, IsOfEntry, IsOpen, IsSlot, LeavesEntry, files_by, its_files, sealed_by}

-- ---- what files hold

-- files that agree under its names hold the same description
note-same : (db : ℕ) (told : Told) (f g : Files) → ((name : List ℕ) → IsOwn db [] name → g name ≡ f name) → HoldsNote db told f → HoldsNote db told g
note-same db told f g same is = record {
  known = is.known;
  noted = is.noted;
  from = is.from;
  log = is.log;
  log_is = log_same db is.log (ap control_of (same (control_file db) (inl (inl refl)))) (λ n. ap sealed (same (segment_file db n) (inl (inr (n, refl))))) is.log_is;
  same_note = is.same_note;
  none = is.none;
}

by-same : (stored : Bool) (db : ℕ) (told : Told) (f g : Files) → ((name : List ℕ) → IsOwn db (files_by stored told) name → g name ≡ f name) → HoldsBy stored db told f → HoldsBy stored db told g
by-same true db told f g same is = records-same db told f g same is
by-same false db told f g same is = note-same db told f g same is

pub entry-same : (e : Entry) (told : Told) (f g : Files) → ((name : List ℕ) → IsOfEntry e told name → g name ≡ f name) → HoldsEntry e told f → HoldsEntry e told g
entry-same e told f g same is = by-same e.is_stored e.store told f g same is

-- a front with all its records
all-of : (told : Told) → front_of (length told.records) told ≡ told
all-of told = ap (λ (rs : List _). record told { records = rs }) (take_all (length told.records) told.records (omega arith))

-- what files hold, they leave
pub entry-leaves : (e : Entry) (told : Told) (image : Files) → HoldsEntry e told image → LeavesEntry e (length told.records) told image
entry-leaves e told image is = (length told.records, omega arith, subst (λ (t : Told). HoldsEntry e t image) (sym (all-of told)) is)

-- a store's records are those of an entry that is stored
pub entry-stored : (e : Entry) (db least : ℕ) (told : Told) (image : Files) → db ≡ e.store → e.is_stored ≡ true → LeavesRecords db least told image → LeavesEntry e least told image
entry-stored e db least told image number stored leaves =
    let By : Bool → Type 0 = λ b. HoldsBy b e.store (front_of leaves.0 told) image in
    (leaves.0, leaves.1, subst By (sym stored) (subst (λ (n : ℕ). HoldsRecords n (front_of leaves.0 told) image) number leaves.2))

-- ---- a slot

-- the files of an open store are its entry's
open-files : {disk : Disk} (e : Entry) (s : KeptStore) (told : Told) → IsOpen disk e s told → its_files e told ≡ data_files told
open-files e s told is = ap (λ (b : Bool). files_by b told) is.stored

pub open-own : {disk : Disk} (e : Entry) (s : KeptStore) (told : Told) → IsOpen disk e s told → (P : ℕ → List DataFile → Type 0) → P e.store (its_files e told) → P s.paged.log.db (data_files told)
open-own e s told is P here = subst (λ (fs : List DataFile). P s.paged.log.db fs) (open-files e s told is) (subst (λ (n : ℕ). P n (its_files e told)) (sym is.number) here)

open-keeps : {a b : Disk} (e : Entry) (s : KeptStore) (told : Told) → IsOpen a e s told → KeepsFiles (IsOfEntry e told) a b → KeepsFiles (IsOwn s.paged.log.db (data_files told)) a b
open-keeps {a} {b} e s told is keeps = open-own e s told is (λ n fs. KeepsFiles (IsOwn n fs) a b) keeps

-- what is done to other files leaves it
pub slot-kept : {a b : Disk} (e : Entry) (slot : Option KeptStore) (told : Told) → KeepsFiles (IsOfEntry e told) a b → IsSlot a e slot told → IsSlot b e slot told
slot-kept {a} {b} e None told keeps is = record {
  durable = λ name own. durable_kept name own keeps (is.durable name own);
  holds = entry-same e told a.files b.files (λ name own. keeps.same name own) is.holds;
}
slot-kept {a} {b} e (Some s) told keeps is = record {
  number = is.number;
  stored = is.stored;
  fit = is.fit;
  store = store-kept s told (open-keeps e s told is keeps) is.store;
}

-- each crash leaves a front of what a store stands for
store-left : (s : KeptStore) (told : Told) (a : Disk) (image : Files) → IsStore a s told → MayLeaveOwn (IsOwn s.paged.log.db (data_files told)) a image → LeavesRecords s.paged.log.db (sealed_in s) told image
store-left s told a image is mine =
    leaves-lift s.paged.log.db (sealed_count s.paged) s.known told image is.noted (shown-log (files_of told) told.records s.shown is.shows) (omega (arith, is.early))
    (sealed_count s.paged, omega arith, still_holds s.paged (stood_of s.known told) a image is.paged mine)

-- and of its entry, at least what is durable
pub slot-left : (a : Disk) (image : Files) (e : Entry) (slot : Option KeptStore) (told : Told) → IsSlot a e slot told → MayLeaveOwn (IsOfEntry e told) a image → LeavesEntry e (sealed_by slot told) told image
slot-left a image e None told is mine = entry-leaves e told image (entry-same e told a.files image (λ name own. is.durable name own (image name) (mine name own)) is.holds)
slot-left a image e (Some s) told is mine =
    entry-stored e s.paged.log.db (sealed_in s) told image is.number is.stored (store-left s told a image is.store (open-own e s told is (λ n fs. MayLeaveOwn (IsOwn n fs) a image) mine))
