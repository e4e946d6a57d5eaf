-- Stores of which one is copied into a set.
use Rattle.std.proofs.Common.{◌≡◌, ◌≤◌, ◌<◌, ◌^◌, ℕ, false, List, [], length, Option, Some, None, refl, inl, inr, sym, ap, subst, ◌∙◌, arith}
use Rattle.std.specs.Prelude.{set, slice_get}
use Rattle.std.proofs.lemmas.List.{length-set}
use Rattle.bk_copying.specs.Copying.{CopyCrashes, IsAsBefore, IsNamed, IsOfBoth, TouchesBoth}
use Rattle.bk_copying.specs.SetLaws.{both-apart, own-apart as set-apart}
use Rattle.bk_device.specs.Compose.{durable_kept, effect_none, effect_widen, keeps_by_effect}
use Rattle.bk_device.specs.Disk.{Disk, Files}
use Rattle.bk_device.specs.Effects.{Effect, IsName, KeepsFiles}
use Rattle.bk_facts.specs.declared.facts.DataFile.{DataFile}
use Rattle.bk_facts.specs.declared.facts.Facts.{Facts}
use Rattle.bk_master.specs.declared.record.Entry.{Entry}
use Rattle.bk_master.specs.declared.record.Record.{Record}
use Rattle.bk_master.specs.Laws.{master_kept}
use Rattle.bk_master.specs.Master.{IsOwn as IsOfMaster}
use Rattle.bk_paged.specs.Laws.{letter}
use Rattle.bk_paged.specs.Names.{IsOwn}
use Rattle.bk_paged.specs.Paged.{Standing}
use Rattle.bk_segments.specs.Files.{IsOwn as IsOfLog}
use Rattle.bk_store.specs.Store.{IsStore, sealed_in, Kept as KeptStore}
use Rattle.bk_store.specs.Told.{Told, data_files}
use Rattle.bk_stores.specs.Beside.{AreApart}
use Rattle.bk_stores.specs.ChangeLaws.{changed-left}
use Rattle.bk_stores.specs.ListLaws.{got, got-inside, got-one, got-other, got-set, same-place, set-same}
use Rattle.bk_stores.specs.NameLaws.{own-apart}
use Rattle.bk_stores.specs.NumberLaws.{number-small}
use Rattle.bk_stores.specs.SlotLaws.{entry-stored, slot-kept}
use Rattle.bk_stores.specs.StandLaws.{free-apart, master-apart, rest-crash}
use Rattle.bk_stores.specs.Standing.{AreStanding, AreUnused, IsLent, IsStandingAt}
use Rattle.bk_stores.specs.StandingLaws.{given, taken}
use Rattle.bk_stores.specs.StoreLaws.{physical-kept}
use Rattle.bk_stores.specs.Stores.{AreStores, IsAt, IsOpen, IsOurs, IsSlot, Kept, LeavesStores, SlotsStand, files_by, fixed_of, its_files, sealed_at}
use Rattle.bk_volume.specs.Staging.{Staging}
use Rattle.bk_hosting.specs.Copying.{CopyLeavesStores, IsOursOr, TouchesOursOr}
use Rattle.bk_hosting.proofs.Lists.{set-set}
use Rattle.bk_hosting.proofs.StoreSaid.{OpenAt, given-slots, open-at}

-- ---- names

-- no name is one of the instance's and the set's
ours-apart : (into : Staging) → IsNamed into → (name : List ℕ) → IsOurs name → IsName into.name name → ⊥
ours-apart into named name ours is = elim ours [
  | inl master ↦
      let first : letter name ≡ 115 = elim master [ inl made ↦ ap letter made | inr control ↦ ap letter control ] in
      let here : letter name ≡ 116 = ap letter is ∙ named in
      absurd (omega (arith, first, here))
  | inr own ↦ set-apart own.0 own.1 into named name own.2 is
]

both-ours : (db : ℕ) (files : List DataFile) (into : Staging) (name : List ℕ) → IsOfBoth db files into name → IsOursOr into name
both-ours db files into name both = elim both [ inl own ↦ inl (inr (db, files, own)) | inr is ↦ inr is ]

-- what is done to a store and to the set leaves the instance's own files
keeps-master : {P : Files → Type 0} {a b : Disk} (db : ℕ) (files : List DataFile) (into : Staging) → IsNamed into → Effect (IsOfBoth db files into) P a b → KeepsFiles IsOfMaster a b
keeps-master db files into named effect =
    keeps_by_effect (λ name master both. elim both [
      | inl own ↦ master-apart db files name master own
      | inr is ↦ ours-apart into named name (inl master) is
    ]) effect

-- the files of another store
keeps-other : {P : Files → Type 0} {a b : Disk} (db : ℕ) (files : List DataFile) (into : Staging) (other : ℕ) (others : List DataFile) → IsNamed into → AreApart db files other others → Effect (IsOfBoth db files into) P a b → KeepsFiles (IsOwn other others) a b
keeps-other db files into other others named apart effect =
    keeps_by_effect (both-apart db files other others into named (λ name own its. own-apart db files other others apart name own its)) effect

-- and a log that isn't made yet
keeps-free : {P : Files → Type 0} {a b : Disk} (next n db : ℕ) (files : List DataFile) (into : Staging) → IsNamed into → next ≤ n → n < 2 ^ 32 → db < next → Effect (IsOfBoth db files into) P a b → KeepsFiles (IsOfLog n) a b
keeps-free next n db files into named above small below effect =
    keeps_by_effect (λ name log both. elim both [
      | inl own ↦ free-apart next n db files name above small below log own
      | inr is ↦ set-apart n [] into named name (inl log) is
    ]) effect

-- the names of a store's files are those of its entry's
of-entry : {P : Files → Type 0} {a b : Disk} (e : Entry) (store : KeptStore) (told : Told) (into : Staging) → IsOpen a e store told → Effect (IsOfBoth store.paged.log.db (data_files told) into) P a b → Effect (IsOfBoth e.store (its_files e told) into) P a b
of-entry {P} {a} {b} e store told into is effect =
    subst (λ (fs : List DataFile). Effect (IsOfBoth e.store fs into) P a b) (sym (ap (λ (stored : _). files_by stored told) is.stored))
    (subst (λ (n : ℕ). Effect (IsOfBoth n (data_files told) into) P a b) is.number effect)

-- ---- what stands

others-standing : {P : Files → Type 0} {a b : Disk} (s : Kept) (at : ℕ) (store : KeptStore) (into : Staging) → IsNamed into → AreStanding a s → IsLent a s at store → Effect (IsOfBoth store.paged.log.db store.paged.facts.files into) P a b → AreStanding b s
others-standing {a = a} s at store into named is lent effect =
    let r : Record = s.master.record in
    let db : ℕ = store.paged.log.db in
    let files : List DataFile = store.paged.facts.files in
    let its : IsStandingAt a r.databases at store = lent.stands in
    let differs : (i : ℕ) (other : KeptStore) (f : Entry) → slice_get s.slots i ≡ Some (Some other) → slice_get r.databases i ≡ Some f → its.0.store ≡ f.store → ⊥ = λ i other f there here same. elim (same-place at i) [
      | inl one ↦ let both : Some None ≡ Some (Some other) = sym lent.out ∙ ap (λ (n : ℕ). slice_get s.slots n) one ∙ there in cc
      | inr differ ↦ is.numbers.differ at i its.0 f differ its.1 here same
    ] in
    let apart : (i : ℕ) (other : KeptStore) → slice_get s.slots i ≡ Some (Some other) → AreApart db files other.paged.log.db other.paged.facts.files = λ i other there.
    let one = is.stores.each i other there in
    record {
      small = subst (λ (n : ℕ). n < 2 ^ 64) (sym its.2.number) (number-small r at its.0 is.numbers its.1);
      other_small = subst (λ (n : ℕ). n < 2 ^ 64) (sym one.2.number) (number-small r i one.0 is.numbers one.1);
      differ = λ same. differs i other one.0 there one.1 (sym its.2.number ∙ same ∙ one.2.number);
      unshared = lent.unused i other there;
    } in
    record {
      master = master_kept (keeps-master db files into named effect) is.master;
      numbers = is.numbers;
      stores = record {
        each = λ i other there.
            let one = is.stores.each i other there in
            (one.0, one.1, record { number = one.2.number; fit = one.2.fit; standing = physical-kept other.paged (keeps-other db files into other.paged.log.db other.paged.facts.files named (apart i other there) effect) one.2.standing });
        beside = is.stores.beside;
      };
    }

-- the one that was copied is given back
pub copied-standing : (a b : Disk) (s mid new : Kept) (at : ℕ) (store then : KeptStore) (into : Staging) → IsNamed into → AreStanding a s → slice_get s.slots at ≡ Some (Some store) → mid.master ≡ s.master → mid.slots ≡ set s.slots at None → new.master ≡ mid.master
    → new.slots ≡ set mid.slots at (Some then) → TouchesBoth store into a b → Standing b then.paged → IsAsBefore store then → AreStanding b new
copied-standing a b s mid new at store then into named is filled master slots master' slots' touches stands same =
    let lent = taken s mid at store is filled master slots in
    let others : AreStanding b mid = others-standing mid at store into named lent.0 lent.1 touches in
    let its : IsStandingAt a mid.master.record.databases at store = lent.1.stands in
    let kept : IsLent b mid at then = record {
      out = lent.1.out;
      stands = (its.0, its.1, record { number = same.db ∙ its.2.number; fit = same.fit; standing = stands });
      unused = subst (λ (fs : List DataFile). AreUnused mid.slots fs) (sym (ap (λ (f : Facts). f.files) same.facts)) lent.1.unused;
    } in
    given mid new at then others kept master' slots'

-- a store that is as it was
as-it-was : (s : KeptStore) → s.paged.failed ≡ false → IsAsBefore s s
as-it-was s fit = record { fit = fit; db = refl; ends = refl; kept = refl; facts = refl; shown = refl; known = refl; note = refl }

-- and so are the stores
put-back : (s : Kept) (at : ℕ) (store : KeptStore) → slice_get s.slots at ≡ Some (Some store) → set (set s.slots at None) at (Some store) ≡ s.slots
put-back s at store filled = set-set s.slots at None (Some store) ∙ set-same s.slots at (Some store) filled

pub still-standing : (a b : Disk) (s : Kept) (at : ℕ) (store : KeptStore) (into : Staging) → IsNamed into → AreStanding a s → slice_get s.slots at ≡ Some (Some store) → TouchesBoth store into a b → Standing b store.paged → store.paged.failed ≡ false → AreStanding b s
still-standing a b s at store into named is filled touches stands fit =
    copied-standing a b s (record s { slots = set s.slots at None }) s at store store into named is filled refl refl refl (sym (put-back s at store filled)) touches stands (as-it-was store fit)

-- ---- the databases

copied-slots : {P : Files → Type 0} {a b : Disk} (s : Kept) (tolds : List Told) (at : ℕ) (e : Entry) (told : Told) (then : KeptStore) (into : Staging) → IsNamed into → AreStores a s tolds → IsAt s.master.record.databases tolds at e told
    → Effect (IsOfBoth e.store (its_files e told) into) P a b → IsOpen b e then told → SlotsStand b s.master.record.databases (set s.slots at (Some then)) tolds
copied-slots {b = b} s tolds at e told then into named is here effect opened = λ i f slot u there given. elim (same-place at i) [
  | inl one ↦
      let inside : at < length s.slots = let less = got-inside tolds at told here.1 in omega (arith, less, is.standing.count) in
      let is_entry : e ≡ f = got-one s.master.record.databases at e f here.0 (ap (λ (n : ℕ). slice_get s.master.record.databases n) one ∙ there.0) in
      let is_told : told ≡ u = got-one tolds at told u here.1 (ap (λ (n : ℕ). slice_get tolds n) one ∙ there.1) in
      let is_slot : Some then ≡ slot = got-one (set s.slots at (Some then)) at (Some then) slot (got-set s.slots at (Some then) inside) (ap (λ (n : ℕ). slice_get (set s.slots at (Some then)) n) one ∙ given) in
      subst (λ (v : Told). IsSlot b f slot v) is_told (subst (λ (q : Option KeptStore). IsSlot b f q told) is_slot (subst (λ (g : Entry). IsSlot b g (Some then) told) is_entry opened))
  | inr other ↦
      slot-kept f slot u (keeps-other e.store (its_files e told) into f.store (its_files f u) named (is.standing.entries.apart at i e f told u other here there) effect)
      (is.standing.stand i f slot u there (sym (got-other s.slots at i (Some then) other) ∙ given))
]

pub copied-stands : {P : Files → Type 0} (a b : Disk) (s : Kept) (tolds : List Told) (at : ℕ) (told : Told) (store then : KeptStore) (into : Staging) → IsNamed into → AreStores a s tolds → slice_get tolds at ≡ Some told → slice_get s.slots at ≡ Some (Some store)
    → Effect (IsOfBoth store.paged.log.db (data_files told) into) P a b → IsStore b then told → IsAsBefore store then → AreStores b (record s { slots = set s.slots at (Some then) }) tolds
copied-stands {P} a b s tolds at told store then into named is here filled effect stands same =
    let here' : OpenAt a s tolds at told store = open-at a s tolds at told store is here filled in
    let e : Entry = here'.e in
    let touched : Effect (IsOfBoth e.store (its_files e told) into) P a b = of-entry e store told into here'.opened effect in
    record {
      master = master_kept (keeps-master e.store (its_files e told) into named touched) is.master;
      standing = record {
        entries = is.standing.entries;
        count = length-set s.slots at (Some then) ∙ is.standing.count;
        stand = copied-slots s tolds at e told then into named is here'.is_at touched (record { number = same.db ∙ here'.opened.number; stored = here'.opened.stored; fit = same.fit; store = stands });
        free = λ n above small name own.
            durable_kept name own (keeps-free s.master.record.next n e.store (its_files e told) into named above small (is.standing.entries.below at e here'.is_at.0) touched) (is.standing.free n above small name own);
      };
    }

-- as they are once it is given back
pub copied-as : {P : Files → Type 0} (a b : Disk) (s mid new : Kept) (tolds : List Told) (at : ℕ) (told : Told) (store then : KeptStore) (into : Staging) → IsNamed into → AreStores a s tolds → slice_get tolds at ≡ Some told → slice_get s.slots at ≡ Some (Some store) → mid.master ≡ s.master
    → mid.slots ≡ set s.slots at None → new.master ≡ mid.master → new.slots ≡ set mid.slots at (Some then) → Effect (IsOfBoth store.paged.log.db (data_files told) into) P a b → IsStore b then told → IsAsBefore store then → AreStores b new tolds
copied-as a b s mid new tolds at told store then into named is here filled master slots master' slots' effect stands same =
    subst (λ (k : Kept). AreStores b k tolds) (sym (given-slots s mid new at then master slots master' slots')) (copied-stands a b s tolds at told store then into named is here filled effect stands same)

pub still-stands : {P : Files → Type 0} (a b : Disk) (s : Kept) (tolds : List Told) (at : ℕ) (told : Told) (store : KeptStore) (into : Staging) → IsNamed into → AreStores a s tolds → slice_get tolds at ≡ Some told → slice_get s.slots at ≡ Some (Some store)
    → Effect (IsOfBoth store.paged.log.db (data_files told) into) P a b → IsStore b store told → store.paged.failed ≡ false → AreStores b s tolds
still-stands a b s tolds at told store into named is here filled effect stands fit =
    subst (λ (sl : List (Option KeptStore)). AreStores b (record s { slots = sl }) tolds) (set-same s.slots at (Some store) filled)
    (copied-stands a b s tolds at told store store into named is here filled effect stands (as-it-was store fit))

-- the database of a store that is open
pub told-there : (a : Disk) (s : Kept) (tolds : List Told) (at : ℕ) (store : KeptStore) → AreStores a s tolds → slice_get s.slots at ≡ Some (Some store) → (told : Told) × (slice_get tolds at ≡ Some told)
told-there a s tolds at store is filled = got tolds at (let less = got-inside s.slots at (Some store) filled in omega (arith, less, is.standing.count))

-- ---- crashes

pub copied-crash : (a b : Disk) (s : Kept) (tolds : List Told) (at : ℕ) (told : Told) (store : KeptStore) (into : Staging) → IsNamed into → AreStores a s tolds → slice_get tolds at ≡ Some told → slice_get s.slots at ≡ Some (Some store) → CopyCrashes store into told a b
    → CopyLeavesStores s tolds into a b
copied-crash a b s tolds at told store into named is here filled crash =
    let here' : OpenAt a s tolds at told store = open-at a s tolds at told store is here filled in
    let e : Entry = here'.e in
    effect_widen (λ name both. both-ours e.store (its_files e told) into name both)
    (λ image left off. subst (λ (ts : List Told). LeavesStores (fixed_of s.master.record) (sealed_at s tolds) ts image) (set-same tolds at told here)
    (changed-left s tolds at e told told (Some store) image is here'.is_at filled refl (entry-stored e store.paged.log.db (sealed_in store) told image here'.opened.number here'.opened.stored left)
    (λ name out ours. off name (λ both. elim both [ inl own ↦ out own | inr its ↦ ours-apart into named name ours its ]) (inl ours))))
    (of-entry e store told into here'.opened crash)

-- nothing is done
pub rest-stores : (a : Disk) (s : Kept) (tolds : List Told) (into : Staging) → AreStores a s tolds → CopyLeavesStores s tolds into a a
rest-stores a s tolds into is = effect_widen (λ name ours. inl ours) (λ image here left. here) (rest-crash a s tolds is)

-- ---- whatever the files hold

-- nothing was done
pub none-copied : (into : Staging) (a : Disk) → TouchesOursOr into a a
none-copied into a = effect_none a (λ image mine. tt)

-- a store's files and the set's were touched
pub copied-touched : {a b : Disk} (store : KeptStore) (into : Staging) → TouchesBoth store into a b → TouchesOursOr into a b
copied-touched store into effect = effect_widen (λ name both. both-ours store.paged.log.db store.paged.facts.files into name both) (λ image here left. tt) effect
