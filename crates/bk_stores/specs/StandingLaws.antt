-- What keeps the stores of an instance standing: what is done to one leaves the others so.
use Rattle.std.proofs.Common.{◌≡◌, ◌<◌, ◌^◌, ◌⊎◌, ℕ, false, List, [], ◌∷◌, ◌++◌, length, set, Option, Some, None, refl, inl, inr, sym, ap, subst, ◌∙◌}
use Rattle.std.specs.Prelude.{remove, slice_get}
use Rattle.bk_device.specs.Compose.{keeps_by_effect}
use Rattle.bk_device.specs.Disk.{Disk, Files}
use Rattle.bk_device.specs.Effects.{Effect, KeepsFiles}
use Rattle.bk_facts.specs.declared.facts.DataFile.{DataFile}
use Rattle.bk_master.specs.declared.record.Entry.{Entry}
use Rattle.bk_master.specs.declared.record.Record.{Record}
use Rattle.bk_master.specs.Laws.{master_kept}
use Rattle.bk_master.specs.Master.{IsMaster, IsOwn as IsOfMaster, Kept as KeptMaster}
use Rattle.bk_paged.specs.Names.{IsOwn, names_of, paths_of}
use Rattle.bk_paged.specs.Paged.{Standing, Touches}
use Rattle.bk_side.specs.Names.{IsData}
use Rattle.bk_store.specs.Store.{Kept as KeptStore}
use Rattle.bk_stores.specs.AddLaws.{named-at}
use Rattle.bk_stores.specs.Beside.{AreApart, ShareNoFile}
use Rattle.bk_stores.specs.LessLaws.{got-place, place, place-one, place-other}
use Rattle.bk_stores.specs.ListLaws.{got-before, got-inside, got-last, got-more, got-other, got-set, same-place, set-there}
use Rattle.bk_stores.specs.NameLaws.{own-apart}
use Rattle.bk_stores.specs.NumberLaws.{number-small}
use Rattle.bk_stores.specs.StandLaws.{master-apart, master-keeps, own-keeps-master}
use Rattle.bk_stores.specs.Standing.{AreNumbered, AreShut, AreStanding, AreUnused, IsLent, IsNew, IsStanding, IsStandingAt, Joins, StandBeside}
use Rattle.bk_stores.specs.StoreLaws.{physical-kept}
use Rattle.bk_stores.specs.Stores.{Kept, at_paths}

-- ---- data files

-- files of the same names are unused too
pub unused-named : (slots : List (Option KeptStore)) (files others : List DataFile) → names_of others ≡ names_of files → AreUnused slots files → AreUnused slots others
unused-named slots files others same unused = λ i store there name own. unused i store there name (subst (λ (ns : List (List ℕ)). IsData ns name) same own)

-- a store is open behind a change of one slot that was it before, or is the new one
set-open : (slots : List (Option KeptStore)) (at : ℕ) (slot : Option KeptStore) (i : ℕ) (store : KeptStore) → slice_get (set slots at slot) i ≡ Some (Some store)
    → ((at ≡ i) × (slot ≡ Some store)) ⊎ ((at ≡ i → ⊥) × (slice_get slots i ≡ Some (Some store)))
set-open slots at slot i store there = elim (same-place at i) [
  | inl same ↦ inl (same, set-there slots at slot (Some store) (ap (λ (n : ℕ). slice_get (set slots at slot) n) same ∙ there))
  | inr differ ↦ inr (differ, sym (got-other slots at i slot differ) ∙ there)
]

-- fewer stores use no more
pub unused-without : (slots : List (Option KeptStore)) (at : ℕ) (files : List DataFile) → AreUnused slots files → AreUnused (set slots at None) files
unused-without slots at files unused = λ i store there. elim (set-open slots at None i store there) [
  | inl here ↦ absurd (let none : None ≡ Some store = here.1 in cc)
  | inr other ↦ unused i store other.1
]

-- nor does one that uses none of them
pub unused-with : (slots : List (Option KeptStore)) (at : ℕ) (slot : Option KeptStore) (files : List DataFile) → AreUnused (set slots at None) files → ((store : KeptStore) → slot ≡ Some store → ShareNoFile files store.paged.facts.files) → AreUnused (set slots at slot) files
unused-with slots at slot files unused shares = λ i store there. elim (set-open slots at slot i store there) [
  | inl here ↦ shares store here.1
  | inr other ↦ unused i store (got-other slots at i None other.0 ∙ other.1)
]

-- where the store of a place is left out, what no other one uses is unused
pub unused-less : (slots : List (Option KeptStore)) (at : ℕ) (files : List DataFile) → at < length slots → AreUnused (set slots at None) files → AreUnused (remove slots at) files
unused-less slots at files inside unused = λ i store there.
    unused (place at i) store (got-other slots at (place at i) None (place-other at i) ∙ sym (got-place slots at i inside) ∙ there)

-- no other open store uses the files of one that is open
pub own-unused : {a : Disk} (entries : List Entry) (slots : List (Option KeptStore)) (at : ℕ) (store : KeptStore) → StandBeside a entries slots → slice_get slots at ≡ Some (Some store) → AreUnused (set slots at None) store.paged.facts.files
own-unused entries slots at store is here = λ i other there. elim (set-open slots at None i other there) [
  | inl same ↦ absurd (let none : None ≡ Some other = same.1 in cc)
  | inr open' ↦ is.beside at i store other open'.0 here open'.1
]

-- nor files at the same paths
pub own-paths : {a : Disk} (entries : List Entry) (slots : List (Option KeptStore)) (at : ℕ) (store : KeptStore) → StandBeside a entries slots → slice_get slots at ≡ Some (Some store) → AreUnused (set slots at None) (at_paths (paths_of store.paged.facts.files))
own-paths entries slots at store is here =
    let files : List DataFile = store.paged.facts.files in
    unused-named (set slots at None) files (at_paths (paths_of files)) (named-at (paths_of files)) (own-unused entries slots at store is here)

-- ---- something is done to other files

stands-kept : {a b : Disk} (e : Entry) (store : KeptStore) → KeepsFiles (IsOwn store.paged.log.db store.paged.facts.files) a b → IsStanding a e store → IsStanding b e store
stands-kept e store keeps is = record { number = is.number; fit = is.fit; standing = physical-kept store.paged keeps is.standing }

-- what leaves the files of each open store leaves them standing
stores-kept : {a b : Disk} (entries : List Entry) (slots : List (Option KeptStore)) → ((i : ℕ) (store : KeptStore) → slice_get slots i ≡ Some (Some store) → KeepsFiles (IsOwn store.paged.log.db store.paged.facts.files) a b) → StandBeside a entries slots → StandBeside b entries slots
stores-kept entries slots keeps is = record {
  each = λ i store there. let one = is.each i store there in (one.0, one.1, stands-kept one.0 store (keeps i store there) one.2);
  beside = is.beside;
}

-- what is done to the instance's own files
master-beside : {P : Files → Type 0} {a b : Disk} (entries : List Entry) (slots : List (Option KeptStore)) → Effect IsOfMaster P a b → StandBeside a entries slots → StandBeside b entries slots
master-beside entries slots effect is = stores-kept entries slots (λ i store there. master-keeps effect store.paged.log.db store.paged.facts.files) is

-- an open store is apart from the files of a number that isn't its entry's, where it has none of the data files
open-apart : {a : Disk} (s : Kept) (db : ℕ) (files : List DataFile) (i : ℕ) (store : KeptStore) → AreStanding a s → db < 2 ^ 64 → ((e : Entry) → slice_get s.master.record.databases i ≡ Some e → db ≡ e.store → ⊥) → AreUnused s.slots files → slice_get s.slots i ≡ Some (Some store)
    → AreApart db files store.paged.log.db store.paged.facts.files
open-apart s db files i store is small new unused there =
    let one = is.stores.each i store there in
    record {
      small = small;
      other_small = subst (λ (n : ℕ). n < 2 ^ 64) (sym one.2.number) (number-small s.master.record i one.0 is.numbers one.1);
      differ = λ same. new one.0 one.1 (same ∙ one.2.number);
      unshared = unused i store there;
    }

-- What is done to the files of a store leaves the open ones standing that have other numbers and none of its files.
other-standing : {P : Files → Type 0} {a b : Disk} (s : Kept) (db : ℕ) (files : List DataFile) → AreStanding a s → db < 2 ^ 64 → ((i : ℕ) (e : Entry) (store : KeptStore) → slice_get s.slots i ≡ Some (Some store) → slice_get s.master.record.databases i ≡ Some e → db ≡ e.store → ⊥)
    → AreUnused s.slots files → Effect (IsOwn db files) P a b → AreStanding b s
other-standing s db files is small new unused effect = record {
  master = own-keeps-master db files effect is.master;
  numbers = is.numbers;
  stores = stores-kept s.master.record.databases s.slots
      (λ i store there. keeps_by_effect
      (λ name its own. own-apart db files store.paged.log.db store.paged.facts.files (open-apart s db files i store is small (λ e at. new i e store there at) unused there) name own its) effect) is.stores;
}

-- So does what is done to the files of a number that is no entry's, with data files of two lists.
pub both-standing : {P : Files → Type 0} {a b : Disk} (s : Kept) (db : ℕ) (files others : List DataFile) → AreStanding a s → db < 2 ^ 64 → IsNew s.master.record.databases db → AreUnused s.slots files → AreUnused s.slots others → Effect (λ name. IsOwn db files name ⊎ IsOwn db others name) P a b → AreStanding b s
both-standing s db files others is small new first second effect = record {
  master = master_kept (keeps_by_effect (λ name master own. elim own [ inl one ↦ master-apart db files name master one | inr two ↦ master-apart db others name master two ]) effect) is.master;
  numbers = is.numbers;
  stores = stores-kept s.master.record.databases s.slots
      (λ i store there. keeps_by_effect (λ name its own. elim own [
        | inl one ↦ own-apart db files store.paged.log.db store.paged.facts.files (open-apart s db files i store is small (λ e at. new i e at) first there) name one its
        | inr two ↦ own-apart db others store.paged.log.db store.paged.facts.files (open-apart s db others i store is small (λ e at. new i e at) second there) name two its
      ]) effect) is.stores;
}

-- What is done to the files of a store that is no entry's leaves them standing.
pub aside-standing : {P : Files → Type 0} {a b : Disk} (s : Kept) (db : ℕ) (files : List DataFile) → AreStanding a s → db < 2 ^ 64 → IsNew s.master.record.databases db → AreUnused s.slots files → Effect (IsOwn db files) P a b → AreStanding b s
aside-standing s db files is small new unused effect = other-standing s db files is small (λ i e store there at. new i e at) unused effect

-- So does what is done to those of the store of a place where none is open.
pub out-standing : {P : Files → Type 0} {a b : Disk} (s : Kept) (at : ℕ) (e : Entry) (db : ℕ) (files : List DataFile) → AreStanding a s → slice_get s.slots at ≡ Some None → slice_get s.master.record.databases at ≡ Some e → db ≡ e.store → AreUnused s.slots files → Effect (IsOwn db files) P a b → AreStanding b s
out-standing {a = a} {b = b} s at e db files is out here number unused effect =
    let r : Record = s.master.record in
    other-standing s db files is (subst (λ (n : ℕ). n < 2 ^ 64) (sym number) (number-small r at e is.numbers here))
    (λ i f store there its same. elim (same-place at i) [
      | inl one ↦ let both : Some None ≡ Some (Some store) = sym out ∙ ap (λ (n : ℕ). slice_get s.slots n) one ∙ there in cc
      | inr differ ↦ is.numbers.differ at i e f differ here its (sym number ∙ same)
    ]) unused effect

-- ---- the instance's record is put

-- It is another one, under which these open stores stand.
pub put-standing : {P : Files → Type 0} {a b : Disk} (m : KeptMaster) (r : Record) (slots : List (Option KeptStore)) → m.record ≡ r → IsMaster b m → Effect IsOfMaster P a b → AreNumbered r → StandBeside a r.databases slots → AreStanding b (record { master = m; slots = slots })
put-standing {b = b} m r slots same master effect numbers stores = record {
  master = master;
  numbers = subst AreNumbered (sym same) numbers;
  stores = subst (λ (n : Record). StandBeside b n.databases slots) (sym same) (master-beside r.databases slots effect stores);
}

-- ---- slots

-- where no store is open, all do
pub shut-beside : {a : Disk} (entries : List Entry) (slots : List (Option KeptStore)) → AreShut slots → StandBeside a entries slots
shut-beside entries slots none = record {
  each = λ i store there. absurd (none i store there);
  beside = λ i j store other differ there. absurd (none i store there);
}

-- one more
pub more-beside : {a : Disk} (entries : List Entry) (slots : List (Option KeptStore)) (x : Entry) (slot : Option KeptStore) → length slots ≡ length entries → Joins a entries slots x slot → StandBeside a entries slots → StandBeside a (entries ++ x ∷ []) (slots ++ slot ∷ [])
more-beside {a} entries slots x slot count joins is = record {
  each = λ i store there. elim (got-more slots slot (Some store) i there) [
    | inl old ↦ let one = is.each i store old in (one.0, got-before entries (x ∷ []) i one.0 one.1, one.2)
    | inr last ↦ (x, ap (λ (n : ℕ). slice_get (entries ++ x ∷ []) n) (last.0 ∙ count) ∙ got-last entries x, joins.stands store last.1)
  ];
  beside = λ i j store other differ first second. elim (got-more slots slot (Some store) i first) [
    | inl one ↦ elim (got-more slots slot (Some other) j second) [
      | inl two ↦ is.beside i j store other differ one two
      | inr last ↦ λ name own its. joins.unused other last.1 i store one name its own
    ]
    | inr last ↦ elim (got-more slots slot (Some other) j second) [
      | inl two ↦ joins.unused store last.1 j other two
      | inr end' ↦ absurd (differ (last.0 ∙ sym end'.0))
    ]
  ];
}

-- one less
pub less-beside : {a : Disk} (entries : List Entry) (slots : List (Option KeptStore)) (at : ℕ) → at < length entries → at < length slots → StandBeside a entries slots → StandBeside a (remove entries at) (remove slots at)
less-beside entries slots at inside filled is = record {
  each = λ i store there.
      let one = is.each (place at i) store (sym (got-place slots at i filled) ∙ there) in
      (one.0, got-place entries at i inside ∙ one.1, one.2);
  beside = λ i j store other differ first second.
      is.beside (place at i) (place at j) store other (λ same. differ (place-one at i j same)) (sym (got-place slots at i filled) ∙ first) (sym (got-place slots at j filled) ∙ second);
}

-- another one in a place, where the entries stay elsewhere
placed-beside : {a : Disk} (entries fresh : List Entry) (slots : List (Option KeptStore)) (at : ℕ) (x : Entry) (slot : Option KeptStore) → slice_get fresh at ≡ Some x → ((i : ℕ) → (at ≡ i → ⊥) → slice_get fresh i ≡ slice_get entries i)
    → ((store : KeptStore) → slot ≡ Some store → IsStanding a x store) → ((store : KeptStore) → slot ≡ Some store → AreUnused (set slots at None) store.paged.facts.files) → StandBeside a entries slots → StandBeside a fresh (set slots at slot)
placed-beside {a} entries fresh slots at x slot here others stands unused is = record {
  each = λ i store there. elim (set-open slots at slot i store there) [
    | inl one ↦ (x, ap (λ (n : ℕ). slice_get fresh n) (sym one.0) ∙ here, stands store one.1)
    | inr other ↦ let old = is.each i store other.1 in (old.0, others i other.0 ∙ old.1, old.2)
  ];
  beside = λ i j store other differ first second. elim (set-open slots at slot i store first) [
    | inl one ↦ elim (set-open slots at slot j other second) [
      | inl two ↦ absurd (differ (sym one.0 ∙ two.0))
      | inr two ↦ unused store one.1 j other (got-other slots at j None two.0 ∙ two.1)
    ]
    | inr one ↦ elim (set-open slots at slot j other second) [
      | inl two ↦ λ name own its. unused other two.1 i store (got-other slots at i None one.0 ∙ one.1) name its own
      | inr two ↦ is.beside i j store other differ one.1 two.1
    ]
  ];
}

pub swapped-beside : {a : Disk} (entries : List Entry) (slots : List (Option KeptStore)) (at : ℕ) (x : Entry) (slot : Option KeptStore) → at < length entries → Joins a entries (set slots at None) x slot → StandBeside a entries slots → StandBeside a (set entries at x) (set slots at slot)
swapped-beside entries slots at x slot inside joins is = placed-beside entries (set entries at x) slots at x slot (got-set entries at x inside) (λ i differ. got-other entries at i x differ) joins.stands joins.unused is

-- ---- a store is lent out, and given back

taken-standing : {a : Disk} (s : Kept) (at : ℕ) → AreStanding a s → AreStanding a (record s { slots = set s.slots at None })
taken-standing s at is = record {
  master = is.master;
  numbers = is.numbers;
  stores = record {
    each = λ i store there. elim (set-open s.slots at None i store there) [
      | inl here ↦ absurd (let none : None ≡ Some store = here.1 in cc)
      | inr other ↦ is.stores.each i store other.1
    ];
    beside = λ i j store other differ first second. elim (set-open s.slots at None i store first) [
      | inl here ↦ absurd (let none : None ≡ Some store = here.1 in cc)
      | inr one ↦ elim (set-open s.slots at None j other second) [
        | inl here ↦ absurd (let none : None ≡ Some other = here.1 in cc)
        | inr two ↦ is.stores.beside i j store other differ one.1 two.1
      ]
    ];
  };
}

-- these stores, told by their parts
by-parts : {a : Disk} (then : Kept) (m : KeptMaster) (slots : List (Option KeptStore)) → then.master ≡ m → then.slots ≡ slots → AreStanding a (record { master = m; slots = slots }) → AreStanding a then
by-parts {a} then m slots master same is = subst (λ (n : KeptMaster). AreStanding a (record { master = n; slots = then.slots })) (sym master) (subst (λ (sl : List (Option KeptStore)). AreStanding a (record { master = m; slots = sl })) (sym same) is)

-- A store is taken out: the others stand, and it may be given back.
pub taken : {a : Disk} (s then : Kept) (at : ℕ) (store : KeptStore) → AreStanding a s → slice_get s.slots at ≡ Some (Some store) → then.master ≡ s.master → then.slots ≡ set s.slots at None → AreStanding a then × IsLent a then at store
taken {a} s then at store is here master slots =
    let es : KeptMaster → List Entry = λ m. m.record.databases in
    let its : IsStandingAt a s.master.record.databases at store = is.stores.each at store here in (
      by-parts then s.master (set s.slots at None) master slots (taken-standing s at is),
      record {
        out = ap (λ (sl : List (Option KeptStore)). slice_get sl at) slots ∙ got-set s.slots at None (got-inside s.slots at (Some store) here);
        stands = subst (λ (m : KeptMaster). IsStandingAt a (es m) at store) (sym master) its;
        unused = subst (λ (sl : List (Option KeptStore)). AreUnused sl store.paged.facts.files) (sym slots) (own-unused s.master.record.databases s.slots at store is.stores here);
      },
    )

given-standing : {a : Disk} (s : Kept) (at : ℕ) (store : KeptStore) → AreStanding a s → IsLent a s at store → AreStanding a (record s { slots = set s.slots at (Some store) })
given-standing {a} s at store is lent =
    let es : List Entry = s.master.record.databases in
    let its : IsStandingAt a es at store = lent.stands in
    let same : (other : KeptStore) → Some store ≡ Some other → store ≡ other = λ other is'. cc in
    record {
      master = is.master;
      numbers = is.numbers;
      stores = placed-beside es es s.slots at its.0 (Some store) its.1 (λ i differ. refl)
          (λ other is'. subst (IsStanding a its.0) (same other is') its.2)
          (λ other is'. subst (λ (o : KeptStore). AreUnused (set s.slots at None) o.paged.facts.files) (same other is') (unused-without s.slots at store.paged.facts.files lent.unused))
          is.stores;
    }

-- What was lent is given back.
pub given : {a : Disk} (s then : Kept) (at : ℕ) (store : KeptStore) → AreStanding a s → IsLent a s at store → then.master ≡ s.master → then.slots ≡ set s.slots at (Some store) → AreStanding a then
given s then at store is lent master slots = by-parts then s.master (set s.slots at (Some store)) master slots (given-standing s at store is lent)

-- A call on a store that is lent out, which touched its own files alone and left it standing with its number and its data files, leaves the others standing, and it may be given back.
pub lent-called : {a b : Disk} (s : Kept) (at : ℕ) (store then : KeptStore) → AreStanding a s → IsLent a s at store → Touches store.paged a b → Standing b then.paged → then.paged.failed ≡ false → then.paged.log.db ≡ store.paged.log.db → then.paged.facts.files ≡ store.paged.facts.files
    → AreStanding b s × IsLent b s at then
lent-called {a} {b} s at store then is lent touches stands fit number files =
    let its : IsStandingAt a s.master.record.databases at store = lent.stands in (
      out-standing s at its.0 store.paged.log.db store.paged.facts.files is lent.out its.1 its.2.number lent.unused touches,
      record {
        out = lent.out;
        stands = (its.0, its.1, record { number = number ∙ its.2.number; fit = fit; standing = stands });
        unused = subst (λ (fs : List DataFile). AreUnused s.slots fs) (sym files) lent.unused;
      },
    )

-- A store that is opened, which touched its own files alone, is one more of those that stand.
pub opened-standing : {a b : Disk} (s : Kept) (at : ℕ) (e : Entry) (store : KeptStore) → AreStanding a s → slice_get s.slots at ≡ Some None → slice_get s.master.record.databases at ≡ Some e → IsStanding b e store → AreUnused s.slots store.paged.facts.files → Touches store.paged a b
    → AreStanding b (record s { slots = set s.slots at (Some store) })
opened-standing s at e store is out here stands unused touches =
    given-standing s at store (out-standing s at e store.paged.log.db store.paged.facts.files is out here stands.number unused touches) (record { out = out; stands = (e, here, stands); unused = unused })
