-- A store that is opened.
use Rattle.std.proofs.Common.{◌≡◌, ◌∙◌, ℕ, Bool, true, false, List, length, set, Some, None, refl, sym, ap, subst, arith}
use Rattle.std.specs.Prelude.{slice_get}
use Rattle.bk_device.specs.Disk.{Disk, Files}
use Rattle.bk_device.specs.Effects.{Effect}
use Rattle.bk_facts.specs.declared.facts.DataFile.{DataFile}
use Rattle.bk_master.specs.declared.record.Entry.{Entry}
use Rattle.bk_paged.specs.Names.{AreDurable, IsOwn}
use Rattle.bk_reopening.specs.Reopening.{IsClosed, Recovers, settled}
use Rattle.bk_store.specs.Store.{IsStore, Kept as KeptStore}
use Rattle.bk_store.specs.Told.{Told, data_files}
use Rattle.bk_stores.specs.Beside.{ShareNoFile}
use Rattle.bk_stores.specs.ChangeLaws.{changed-crash, changed-stands}
use Rattle.bk_stores.specs.ListLaws.{got, got-inside}
use Rattle.bk_stores.specs.SlotLaws.{entry-stored}
use Rattle.bk_stores.specs.Standing.{AreUnused}
use Rattle.bk_stores.specs.Stores.{AreStores, HoldsBy, IsAt, IsOfEntry, IsOpen, IsOurs, IsShut, Kept, LeavesStores, files_by, its_files, sealed_at, fixed_of}

its-data : (e : Entry) (told : Told) → e.is_stored ≡ true → its_files e told ≡ data_files told
its-data e told stored = ap (λ (b : Bool). files_by b told) stored

pub shut-closed : (a : Disk) (e : Entry) (told : Told) → e.is_stored ≡ true → IsShut a e told → IsClosed e.store told a
shut-closed a e told stored is = record {
  durable = subst (λ (fs : List DataFile). AreDurable e.store fs a) (its-data e told stored) is.durable;
  holds = subst (λ (b : Bool). HoldsBy b e.store told a.files) stored is.holds;
}

as-entry : (e : Entry) (told : Told) {P : Files → Type 0} {a b : Disk} → e.is_stored ≡ true → Effect (IsOwn e.store (data_files told)) P a b → Effect (IsOfEntry e told) P a b
as-entry e told {P} {a} {b} stored effect = subst (λ (fs : List DataFile). Effect (IsOwn e.store fs) P a b) (sym (its-data e told stored)) effect

pub opened-stands : (s : Kept) (tolds : List Told) (at : ℕ) (e : Entry) (told : Told) (store : KeptStore) {a b : Disk} → AreStores a s tolds → IsAt s.master.record.databases tolds at e told → e.is_stored ≡ true → Recovers e.store told a b → store.paged.log.db ≡ e.store → store.paged.failed ≡ false
    → IsStore b store (settled told) → AreStores b (record s { slots = set s.slots at (Some store) }) (set tolds at (settled told))
opened-stands s tolds at e told store is here stored effect number fit stands =
    changed-stands s tolds at e told (settled told) (Some store) is here refl (as-entry e told stored effect) (record { number = number; stored = stored; fit = fit; store = stands })

pub opened-crash : (s : Kept) (tolds : List Told) (at : ℕ) (e : Entry) (told : Told) {a b : Disk} → AreStores a s tolds → IsAt s.master.record.databases tolds at e told → e.is_stored ≡ true → slice_get s.slots at ≡ Some None → Recovers e.store told a b
    → Effect IsOurs (LeavesStores (fixed_of s.master.record) (sealed_at s tolds) (set tolds at (settled told))) a b
opened-crash s tolds at e told is here stored shut effect =
    changed-crash s tolds at e told (settled told) None is here shut refl (λ image leaves. entry-stored e e.store (length told.records) (settled told) image refl stored leaves) (as-entry e told stored effect)

-- the data files of an open store are those of its database
open-data : {a : Disk} (e : Entry) (store : KeptStore) (told : Told) → IsOpen a e store told → store.paged.facts.files ≡ its_files e told
open-data e store told is = is.store.paged.files ∙ sym (its-data e told is.stored)

-- A database of an instance has a data file with no other open store.
pub opened-unused : (s : Kept) (tolds : List Told) (at : ℕ) (e : Entry) (told : Told) (store : KeptStore) {a b : Disk} → AreStores a s tolds → IsAt s.master.record.databases tolds at e told → e.is_stored ≡ true → slice_get s.slots at ≡ Some None → IsStore b store (settled told) → AreUnused s.slots store.paged.facts.files
opened-unused s tolds at e told store {a} is here stored shut stands = λ i other there.
    let es : List Entry = s.master.record.databases in
    let inside = got-inside s.slots i (Some other) there in
    let t = got tolds i (omega (arith, inside, is.standing.count)) in
    let f = got es i (omega (arith, inside, is.standing.count, is.standing.entries.count)) in
    let open' : IsOpen a f.0 other t.0 = is.standing.stand i f.0 (Some other) t.0 (f.1, t.1) there in
    let differ : at ≡ i → ⊥ = λ same. let both : Some None ≡ Some (Some other) = sym shut ∙ ap (λ (n : ℕ). slice_get s.slots n) same ∙ there in cc in
    let apart : ShareNoFile (its_files e told) (its_files f.0 t.0) = (is.standing.entries.apart at i e f.0 told t.0 differ here (f.1, t.1)).unshared in
    subst (λ (fs : List DataFile). ShareNoFile fs other.paged.facts.files) (its-data e told stored ∙ sym stands.paged.files) (subst (ShareNoFile (its_files e told)) (sym (open-data f.0 other t.0 open')) apart)
