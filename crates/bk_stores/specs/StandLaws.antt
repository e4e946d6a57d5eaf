-- The stores of an instance when something is done to one of them, or to the instance's record.
use Rattle.std.proofs.Common.{◌≡◌, ◌≤◌, ◌<◌, ◌^◌, ◌⊎◌, ℕ, zero, suc, Bool, true, false, List, [], length, set, Option, Some, refl, inl, inr, sym, ap, subst, ◌∙◌, arith}
use Rattle.std.proofs.lemmas.List.{length-set}
use Rattle.std.specs.Prelude.{slice_get}
use Rattle.bk_device.specs.Compose.{durable_kept, effect_none, effect_weaken, effect_widen, keeps_by_effect}
use Rattle.bk_device.specs.Disk.{Disk, Files}
use Rattle.bk_device.specs.Effects.{Effect, KeepsFiles, MayLeaveOwn}
use Rattle.bk_facts.specs.declared.facts.DataFile.{DataFile}
use Rattle.bk_master.specs.declared.record.Entry.{Entry}
use Rattle.bk_master.specs.declared.record.Record.{Record}
use Rattle.bk_master.specs.Laws.{master_kept, master_left}
use Rattle.bk_master.specs.Master.{HoldsRecord, IsMaster, IsOwn as IsOfMaster, Kept as KeptMaster}
use Rattle.bk_master.specs.Spelling.{KeepsRecord}
use Rattle.bk_paged.specs.Laws.{letter, log_letter, own_letter}
use Rattle.bk_paged.specs.Names.{IsOwn, names_of}
use Rattle.bk_segments.specs.Files.{IsOwn as IsOfLog}
use Rattle.bk_side.specs.Names.{name_of, IsData}
use Rattle.bk_store.specs.Store.{Kept as KeptStore}
use Rattle.bk_store.specs.Told.{Told, data_files}
use Rattle.bk_stores.specs.Beside.{AreApart}
use Rattle.bk_stores.specs.Records.{IsApart}
use Rattle.bk_stores.specs.ListLaws.{got, got-inside, got-none, got-one, got-other, got-set, same-place}
use Rattle.bk_stores.specs.NameLaws.{own-apart}
use Rattle.bk_stores.specs.SlotLaws.{slot-kept, slot-left}
use Rattle.bk_stores.specs.Stores.{AreEntries, AreStores, at_paths, IsAt, IsFree, IsOfEntry, IsOurs, files_by, its_files, Kept, LeavesEntry, LeavesStores, SlotsStand, StandFor, sealed_at, sealed_by, sealed_of, fixed_of, Fixed}

-- ---- names

-- no name is the instance's own and a store's
pub master-apart : (db : ℕ) (files : List DataFile) (name : List ℕ) → IsOfMaster name → IsOwn db files name → ⊥
master-apart db files name master own =
    let first : letter name ≡ 115 = elim master [ inl made ↦ ap letter made | inr control ↦ ap letter control ] in
    elim own [
      | inl log ↦ elim (log_letter db name log) [ inl c ↦ absurd (omega (arith, first, c)) | inr g ↦ absurd (omega (arith, first, g)) ]
      | inr side ↦ elim (own_letter db files name side) [ inl b ↦ absurd (omega (arith, first, b)) | inr p ↦ absurd (omega (arith, first, p)) ]
    ]

-- no name is that of a data file where there is none
pub none-data : (name : List ℕ) → IsData (names_of []) name → ⊥
none-data name its = none its.0 its.1
  where
    none : (file : ℕ) → name_of (names_of []) file ≡ Some name → ⊥
    none zero is = absurd cc
    none (suc i) is = absurd cc

-- a log that isn't made yet, and the files of a database below it
pub free-apart : (next n db : ℕ) (files : List DataFile) (name : List ℕ) → next ≤ n → n < 2 ^ 32 → db < next → IsOfLog n name → IsOwn db files name → ⊥
free-apart next n db files name above small below log own =
    own-apart n [] db files (record {
      small = omega (arith, small);
      other_small = omega (arith, small, above, below);
      differ = λ same. omega (arith, same, above, below);
      unshared = λ name' its other. none-data name' its;
    }) name (inl log) own

-- ---- what is kept

-- what leaves all names of stores leaves those that stand
pub standing-kept : {a b : Disk} (r : Record) (slots : List (Option KeptStore)) (tolds : List Told) → ((db : ℕ) (files : List DataFile) → KeepsFiles (IsOwn db files) a b) → StandFor a r slots tolds → StandFor b r slots tolds
standing-kept r slots tolds keeps is = record {
  entries = is.entries;
  count = is.count;
  stand = λ i e slot t at there. slot-kept e slot t (keeps e.store (its_files e t)) (is.stand i e slot t at there);
  free = λ n above small name own. durable_kept name (inl own) (keeps n []) (is.free n above small name own);
}

pub master-keeps : {P : Files → Type 0} {a b : Disk} → Effect IsOfMaster P a b → (db : ℕ) (files : List DataFile) → KeepsFiles (IsOwn db files) a b
master-keeps effect db files = keeps_by_effect (λ name own master. master-apart db files name master own) effect

-- what is done to the files of a store leaves the instance's record
pub own-keeps-master : {P : Files → Type 0} {a b : Disk} {m : KeptMaster} (db : ℕ) (files : List DataFile) → Effect (IsOwn db files) P a b → IsMaster a m → IsMaster b m
own-keeps-master db files effect is = master_kept (keeps_by_effect (λ name master own. master-apart db files name master own) effect) is

-- and the other stores
pub own-keeps-slots : {P : Files → Type 0} {a b : Disk} (r : Record) (slots : List (Option KeptStore)) (tolds : List Told) (db : ℕ) (files : List DataFile)
    → ((i : ℕ) (e : Entry) (t : Told) → IsAt r.databases tolds i e t → AreApart db files e.store (its_files e t)) → Effect (IsOwn db files) P a b → SlotsStand a r.databases slots tolds → SlotsStand b r.databases slots tolds
own-keeps-slots r slots tolds db files apart effect is = λ i e slot t at there.
    slot-kept e slot t (keeps_by_effect (λ name its own. own-apart db files e.store (its_files e t) (apart i e t at) name own its) effect) (is i e slot t at there)

pub own-keeps-free : {P : Files → Type 0} {a b : Disk} (next db : ℕ) (files : List DataFile) → db < next → Effect (IsOwn db files) P a b → IsFree next a → IsFree next b
own-keeps-free {a = a} {b = b} next db files below effect is = λ n above small name own.
    let keeps : KeepsFiles (IsOfLog n) a b = keeps_by_effect (λ name' log its. free-apart next n db files name' above small below log its) effect in
    durable_kept name own keeps (is n above small name own)

-- ---- entries

-- the same databases under a record that has the same entries, no lower next number, and nothing that is being made or removed
pub entries-rest : (r s : Record) (tolds : List Told) → KeepsRecord s → s.databases ≡ r.databases → r.next ≤ s.next → s.unfinished ≡ [] → AreEntries r tolds → AreEntries s tolds
entries-rest r s tolds keeps same later none is =
    let At : List Entry → ℕ → Entry → Told → Type 0 = λ es i e t. IsAt es tolds i e t in
    record {
      keeps = keeps;
      count = is.count ∙ ap length (sym same);
      under = λ k u there. absurd (got-none k u (ap (λ (us : List _). slice_get us k) (sym none) ∙ there));
      below = λ i e there. let less = is.below i e (ap (λ (es : List Entry). slice_get es i) (sym same) ∙ there) in omega (arith, less, later);
      apart = λ i j e f t u differ at other. is.apart i j e f t u differ (subst (λ (es : List Entry). At es i e t) same at) (subst (λ (es : List Entry). At es j f u) same other);
      aside = λ i k e t u at there. absurd (got-none k u (ap (λ (us : List _). slice_get us k) (sym none) ∙ there));
    }

its-same : (b : Bool) (t u : Told) → data_files t ≡ data_files u → files_by b t ≡ files_by b u
its-same true t u same = same
its-same false t u same = refl

-- one database changes, and keeps its files
pub entries-set : (r : Record) (tolds : List Told) (i : ℕ) (e : Entry) (t new : Told) → IsAt r.databases tolds i e t → data_files new ≡ data_files t → AreEntries r tolds → AreEntries r (set tolds i new)
entries-set r tolds i e t new at same is = record {
  keeps = is.keeps;
  count = length-set tolds i new ∙ is.count;
  below = is.below;
  under = is.under;
  apart = λ j k f g u v differ first second.
      let one = before tolds i t new at.1 same j u first.1 in
      let two = before tolds i t new at.1 same k v second.1 in
      let base = is.apart j k f g one.0 two.0 differ (first.0, one.1) (second.0, two.1) in
      subst (λ (fs : List DataFile). AreApart f.store (its_files f u) g.store fs) (its-same g.is_stored two.0 v two.2) (subst (λ (fs : List DataFile). AreApart f.store fs g.store (its_files g two.0)) (its-same f.is_stored one.0 u one.2) base);
  aside = λ j k f u v first there.
      let one = before tolds i t new at.1 same j u first.1 in
      subst (λ (fs : List DataFile). AreApart v.store (at_paths v.paths) f.store fs) (its-same f.is_stored one.0 u one.2) (is.aside j k f one.0 v (first.0, one.1) there);
}
  where
    -- the database at a place before the change, with the same files
    before : (tolds : List Told) (i : ℕ) (t new : Told) → slice_get tolds i ≡ Some t → data_files new ≡ data_files t → (j : ℕ) (u : Told) → slice_get (set tolds i new) j ≡ Some u → (old : Told) × (slice_get tolds j ≡ Some old) × (data_files old ≡ data_files u)
    before tolds i t new at same j u is = elim (same-place i j) [
      | inl here ↦
          let put : slice_get (set tolds i new) i ≡ Some new = got-set tolds i new (got-inside tolds i t at) in
          let is_new : new ≡ u = got-one (set tolds i new) i new u put (ap (λ (n : ℕ). slice_get (set tolds i new) n) here ∙ is) in
          (t, ap (λ (n : ℕ). slice_get tolds n) (sym here) ∙ at, sym same ∙ ap data_files is_new)
      | inr differ ↦ (u, sym (got-other tolds i j new differ) ∙ is, refl)
    ]

-- ---- what a crash leaves

-- where it leaves of the files of stores what it might have left before, it leaves a front of each database, with what is durable of it
pub slots-left : (a : Disk) (image : Files) (entries : List Entry) (slots : List (Option KeptStore)) (tolds : List Told) → length slots ≡ length tolds → SlotsStand a entries slots tolds → (i : ℕ) (e : Entry) (t : Told) → IsAt entries tolds i e t
    → MayLeaveOwn (IsOfEntry e t) a image → LeavesEntry e (sealed_of (slice_get slots i) (slice_get tolds i)) t image
slots-left a image entries slots tolds count is i e t at mine =
    let inside = got-inside tolds i t at.1 in
    let slot = got slots i (omega (arith, count, inside)) in
    let left : LeavesEntry e (sealed_by slot.0 t) t image = slot-left a image e slot.0 t (is i e slot.0 t at slot.1) mine in
    subst (λ (o : Option (Option KeptStore)). LeavesEntry e (sealed_of o (slice_get tolds i)) t image) (sym slot.1) (subst (λ (o : Option Told). LeavesEntry e (sealed_of (Some slot.0) o) t image) (sym at.1) left)

-- an effect on the instance's record, with what it leaves of the files of stores
pub master-wide : {P : Files → Type 0} {a b : Disk} → Effect IsOfMaster P a b → Effect IsOurs (λ image. P image × ((db : ℕ) (files : List DataFile) → MayLeaveOwn (IsOwn db files) a image)) a b
master-wide effect = effect_widen (λ name own. inl own) (λ image here left. (here, λ db files name own. left name (λ master. master-apart db files name master own) (inr (db, files, own)))) effect

-- an effect on a store's files, with what it leaves of the others
pub own-wide : {P : Files → Type 0} {a b : Disk} (db : ℕ) (files : List DataFile) → Effect (IsOwn db files) P a b → Effect IsOurs (λ image. P image × ((name : List ℕ) → (IsOwn db files name → ⊥) → IsOurs name → a.may name (image name))) a b
own-wide db files effect = effect_widen (λ name own. inr (db, files, own)) (λ image here left. (here, left)) effect

-- where a store's files are touched that is none of the entries', a crash leaves the record and each database
pub own-leaves : (db : ℕ) (files : List DataFile) (a : Disk) (image : Files) (s : Kept) (tolds : List Told) → AreStores a s tolds → ((i : ℕ) (e : Entry) (t : Told) → IsAt s.master.record.databases tolds i e t → AreApart db files e.store (its_files e t))
    → ((name : List ℕ) → (IsOwn db files name → ⊥) → IsOurs name → a.may name (image name)) → LeavesStores (fixed_of s.master.record) (sealed_at s tolds) tolds image
own-leaves db files a image s tolds is apart left = record {
  «record» = s.master.record;
  is_record = master_left image is.master (λ name master. left name (λ own. master-apart db files name master own) (inl master));
  is_fixed = refl;
  entries = is.standing.entries;
  each = λ i e t at. slots-left a image s.master.record.databases s.slots tolds is.standing.count is.standing.stand i e t at
      (λ name own. left name (λ its. own-apart db files e.store (its_files e t) (apart i e t at) name its own) (inr (e.store, its_files e t, own)));
}

-- nothing is done
pub rest-crash : (a : Disk) (s : Kept) (tolds : List Told) → AreStores a s tolds → Effect IsOurs (LeavesStores (fixed_of s.master.record) (sealed_at s tolds) tolds) a a
rest-crash a s tolds is = effect_none a (λ image mine. record {
  «record» = s.master.record;
  is_record = master_left image is.master (λ name master. mine name (inl master));
  is_fixed = refl;
  entries = is.standing.entries;
  each = λ i e t at. slots-left a image s.master.record.databases s.slots tolds is.standing.count is.standing.stand i e t at (λ name own. mine name (inr (e.store, its_files e t, own)));
})

-- ---- another record of the same databases is put

pub put-stands : {P : Files → Type 0} {a b : Disk} (s : Kept) (tolds : List Told) (m : KeptMaster) → AreStores a s tolds → IsMaster b m → Effect IsOfMaster P a b → m.record.databases ≡ s.master.record.databases → s.master.record.next ≤ m.record.next
    → AreEntries m.record tolds → AreStores b (record s { master = m }) tolds
put-stands {a = a} {b = b} s tolds m is master effect same later entries =
    let keeps = standing-kept s.master.record s.slots tolds (master-keeps effect) is.standing in
    record {
      master = master;
      standing = record {
        entries = entries;
        count = is.standing.count;
        stand = subst (λ (es : List Entry). SlotsStand b es s.slots tolds) (sym same) keeps.stand;
        free = λ n above small. keeps.free n (omega (arith, above, later)) small;
      };
    }

-- a crash leaves them with the own part that was, or with that of the other record
pub put-either : {a b : Disk} (s : Kept) (tolds : List Told) (next : Record) → AreStores a s tolds → next.databases ≡ s.master.record.databases → AreEntries next tolds → Effect IsOfMaster (λ image. HoldsRecord image s.master.record ⊎ HoldsRecord image next) a b
    → Effect IsOurs (λ image. LeavesStores (fixed_of s.master.record) (sealed_at s tolds) tolds image ⊎ LeavesStores (fixed_of next) (sealed_at s tolds) tolds image) a b
put-either {a = a} s tolds next is same entries effect =
    let left : (image : Files) → ((db : ℕ) (files : List DataFile) → MayLeaveOwn (IsOwn db files) a image) → (i : ℕ) (e : Entry) (t : Told) → IsAt s.master.record.databases tolds i e t → LeavesEntry e (sealed_at s tolds i) t image =
    λ image mine i e t at. slots-left a image s.master.record.databases s.slots tolds is.standing.count is.standing.stand i e t at (mine e.store (its_files e t)) in
    effect_weaken (λ image here. elim here.0 [
      | inl old ↦ inl (record { «record» = s.master.record; is_record = old; is_fixed = refl; entries = is.standing.entries; each = left image here.1 })
      | inr new ↦ inr (record { «record» = next; is_record = new; is_fixed = refl; entries = entries; each = λ i e t at. left image here.1 i e t (ap (λ (es : List Entry). slice_get es i) (sym same) ∙ at.0, at.1) })
    ]) (master-wide effect)

pub put-crash : {a b : Disk} (s : Kept) (tolds : List Told) (next : Record) → AreStores a s tolds → next.databases ≡ s.master.record.databases → fixed_of next ≡ fixed_of s.master.record → AreEntries next tolds
    → Effect IsOfMaster (λ image. HoldsRecord image s.master.record ⊎ HoldsRecord image next) a b → Effect IsOurs (LeavesStores (fixed_of s.master.record) (sealed_at s tolds) tolds) a b
put-crash s tolds next is same own entries effect =
    effect_weaken (λ image here. elim here [ inl old ↦ old | inr new ↦ subst (λ (o : Fixed). LeavesStores o (sealed_at s tolds) tolds image) own new ]) (put-either s tolds next is same entries effect)

-- ---- something is done to the files of a store that is no entry's

pub own-stands : {P : Files → Type 0} {a b : Disk} (s : Kept) (tolds : List Told) (db : ℕ) (files : List DataFile) → AreStores a s tolds → IsApart s.master.record.databases tolds db files → db < s.master.record.next → Effect (IsOwn db files) P a b → AreStores b s tolds
own-stands s tolds db files is apart below effect = record {
  master = own-keeps-master db files effect is.master;
  standing = record {
    entries = is.standing.entries;
    count = is.standing.count;
    stand = own-keeps-slots s.master.record s.slots tolds db files apart effect is.standing.stand;
    free = own-keeps-free s.master.record.next db files below effect is.standing.free;
  };
}

pub own-crash : {P : Files → Type 0} {a b : Disk} (s : Kept) (tolds : List Told) (db : ℕ) (files : List DataFile) → AreStores a s tolds → IsApart s.master.record.databases tolds db files → Effect (IsOwn db files) P a b → Effect IsOurs (LeavesStores (fixed_of s.master.record) (sealed_at s tolds) tolds) a b
own-crash {a = a} s tolds db files is apart effect = effect_weaken (λ image here. own-leaves db files a image s tolds is apart here.1) (own-wide db files effect)
