-- One database more, and one less.
use Rattle.std.proofs.Common.{◌≡◌, ◌<◌, ◌^◌, ◌+◌, ◌⊎◌, ℕ, List, [], ◌∷◌, ◌++◌, length, map, Option, refl, inl, inr, sym, ap, subst, ◌∙◌, arith}
use Rattle.std.proofs.lemmas.List.{length-append}
use Rattle.bk_device.specs.Disk.{Disk}
use Rattle.bk_facts.specs.declared.facts.DataFile.{DataFile}
use Rattle.bk_master.specs.declared.record.Entry.{Entry}
use Rattle.bk_master.specs.declared.record.Record.{Record}
use Rattle.bk_master.specs.declared.record.Unfinished.{Unfinished}
use Rattle.bk_master.specs.Spelling.{KeepsOwn, KeepsRecord}
use Rattle.bk_paged.specs.Names.{names_of}
use Rattle.bk_side.specs.Names.{IsData, data_file}
use Rattle.bk_store.specs.Store.{Kept as KeptStore}
use Rattle.bk_store.specs.Told.{Told}
use Rattle.bk_stores.specs.Beside.{AreApart}
use Rattle.bk_stores.specs.ListLaws.{got-inside, got-more, got-none, got-only}
use Rattle.bk_stores.specs.Records.{AreSmall, IsApart, SharesNone, begun, rested, unfinished_at}
use Rattle.bk_stores.specs.Stores.{AreEntries, IsAt, IsSlot, SlotsStand, at_paths, its_files}

pub apart-swap : (db : ℕ) (files : List DataFile) (other : ℕ) (others : List DataFile) → AreApart db files other others → AreApart other others db files
apart-swap db files other others are = record {
  small = are.other_small;
  other_small = are.small;
  differ = λ same. are.differ (sym same);
  unshared = λ name its own. are.unshared name own its;
}

-- ---- a store is named as one that is being made

-- it shares no name with one that is there
pub fresh-apart : (r : Record) (tolds : List Told) (files : List DataFile) → r.next < 2 ^ 32 → AreEntries r tolds → SharesNone r.databases tolds files → IsApart r.databases tolds r.next files
fresh-apart r tolds files small is shares = λ i e t at.
    let below = is.below i e at.0 in
    record {
      small = omega (arith, small);
      other_small = omega (arith, small, below);
      differ = λ same. omega (arith, same, below);
      unshared = shares i e t at;
    }

pub begun-keeps : (r : Record) (paths : List (List ℕ)) → AreSmall paths → KeepsRecord r → KeepsRecord (begun r paths)
begun-keeps r paths small is = record { own = is.own; few = is.few; one = omega arith; small = ((small.few, small.short), tt) }

pub begun-entries : (r : Record) (tolds : List Told) (paths : List (List ℕ)) → r.next < 2 ^ 32 → AreSmall paths → AreEntries r tolds → SharesNone r.databases tolds (at_paths paths) → AreEntries (begun r paths) tolds
begun-entries r tolds paths small short is shares = record {
  keeps = begun-keeps r paths short is.keeps;
  count = is.count;
  below = λ i e there. let less = is.below i e there in omega (arith, less);
  under = λ k u there. subst (λ (v : Unfinished). v.store < r.next + 1) (got-only (unfinished_at r.next paths) k u there) (omega arith);
  apart = is.apart;
  aside = λ i k e t u at there. subst (λ (v : Unfinished). AreApart v.store (at_paths v.paths) e.store (its_files e t)) (got-only (unfinished_at r.next paths) k u there) (fresh-apart r tolds (at_paths paths) small is shares i e t at);
}

-- ---- a database more

-- an entry of a list with one more is one of the list, or that one
pub at-more : (entries : List Entry) (tolds : List Told) (x : Entry) (new : Told) (i : ℕ) (e : Entry) (t : Told) → length tolds ≡ length entries → IsAt (entries ++ x ∷ []) (tolds ++ new ∷ []) i e t
    → IsAt entries tolds i e t ⊎ ((i ≡ length entries) × (x ≡ e) × (new ≡ t))
at-more entries tolds x new i e t count at = elim (got-more entries x e i at.0) [
  | inl there ↦ elim (got-more tolds new t i at.1) [
    | inl told ↦ inl (there, told)
    | inr last ↦ let inside = got-inside entries i e there in absurd (omega (arith, inside, last.0, count))
  ]
  | inr last ↦ elim (got-more tolds new t i at.1) [
    | inl told ↦ let inside = got-inside tolds i t told in absurd (omega (arith, inside, last.0, count))
    | inr end' ↦ inr (last.0, last.1, end'.1)
  ]
]

pub added-keeps : (r : Record) (x : Entry) → length r.databases < 16 → KeepsOwn r.own → KeepsRecord (rested r (r.databases ++ x ∷ []))
added-keeps r x few own = record { own = own; few = omega (arith, few, length-append r.databases (x ∷ [])); one = omega arith; small = tt }

pub added-entries : (r : Record) (tolds : List Told) (x : Entry) (new : Told) → x.store < r.next → length r.databases < 16 → AreEntries r tolds → IsApart r.databases tolds x.store (its_files x new) → AreEntries (rested r (r.databases ++ x ∷ [])) (tolds ++ new ∷ [])
added-entries r tolds x new below few is apart = record {
  keeps = added-keeps r x few is.keeps.own;
  count = length-append tolds (new ∷ []) ∙ ap (λ (m : ℕ). m + 1) is.count ∙ sym (length-append r.databases (x ∷ []));
  below = λ i e there. elim (got-more r.databases x e i there) [
    | inl old ↦ is.below i e old
    | inr last ↦ subst (λ (f : Entry). f.store < r.next) last.1 below
  ];
  under = λ k u there. absurd (got-none k u there);
  apart = λ i j e f t u differ first second. elim (at-more r.databases tolds x new i e t is.count first) [
    | inl one ↦ elim (at-more r.databases tolds x new j f u is.count second) [
      | inl two ↦ is.apart i j e f t u differ one two
      | inr last ↦
          let base : AreApart e.store (its_files e t) x.store (its_files x new) = apart-swap x.store (its_files x new) e.store (its_files e t) (apart i e t one) in
          subst (λ (v : Told). AreApart e.store (its_files e t) f.store (its_files f v)) last.2 (subst (λ (g : Entry). AreApart e.store (its_files e t) g.store (its_files g new)) last.1 base)
    ]
    | inr last ↦ elim (at-more r.databases tolds x new j f u is.count second) [
      | inl two ↦
          let base : AreApart x.store (its_files x new) f.store (its_files f u) = apart j f u two in
          subst (λ (v : Told). AreApart e.store (its_files e v) f.store (its_files f u)) last.2 (subst (λ (g : Entry). AreApart g.store (its_files g new) f.store (its_files f u)) last.1 base)
      | inr other ↦ absurd (differ (last.0 ∙ sym other.0))
    ]
  ];
  aside = λ i k e t u at there. absurd (got-none k u there);
}

pub added-slots : (a : Disk) (entries : List Entry) (slots : List (Option KeptStore)) (tolds : List Told) (x : Entry) (slot : Option KeptStore) (new : Told) → length tolds ≡ length entries → length slots ≡ length tolds → SlotsStand a entries slots tolds → IsSlot a x slot new
    → SlotsStand a (entries ++ x ∷ []) (slots ++ slot ∷ []) (tolds ++ new ∷ [])
added-slots a entries slots tolds x slot new count same stand its = λ i e s t at there. elim (at-more entries tolds x new i e t count at) [
  | inl one ↦ elim (got-more slots slot s i there) [
    | inl old ↦ stand i e s t one old
    | inr last ↦ let inside = got-inside tolds i t one.1 in absurd (omega (arith, inside, last.0, same))
  ]
  | inr last ↦ elim (got-more slots slot s i there) [
    | inl old ↦ let inside = got-inside slots i s old in absurd (omega (arith, inside, last.0, same, count))
    | inr end' ↦ subst (λ (v : Told). IsSlot a e s v) last.2 (subst (λ (p : Option KeptStore). IsSlot a e p new) end'.1 (subst (λ (f : Entry). IsSlot a f slot new) last.1 its))
  ]
]

-- ---- names by paths

-- the names of data files at some paths
pub named-at : (paths : List (List ℕ)) → names_of (at_paths paths) ≡ map data_file paths
named-at [] = refl
named-at (p ∷ paths) = ap (λ (ns : List (List ℕ)). data_file p ∷ ns) (named-at paths)

-- files of the same names are apart from the same
pub apart-named : (db : ℕ) (files others : List DataFile) (other : ℕ) (its : List DataFile) → names_of others ≡ names_of files → AreApart db files other its → AreApart db others other its
apart-named db files others other its same are = record {
  small = are.small;
  other_small = are.other_small;
  differ = are.differ;
  unshared = λ name own. are.unshared name (subst (λ (ns : List (List ℕ)). IsData ns name) same own);
}
