-- The numbers of stores in the records that are put.
use Rattle.std.proofs.Common.{◌≡◌, ◌<◌, ◌^◌, ◌+◌, ◌⊎◌, ℕ, List, [], ◌∷◌, ◌++◌, length, set, Some, inl, inr, sym, ap, subst, ◌∙◌, arith}
use Rattle.std.specs.Prelude.{remove, slice_get}
use Rattle.bk_master.specs.declared.record.Entry.{Entry}
use Rattle.bk_master.specs.declared.record.Record.{Record}
use Rattle.bk_master.specs.declared.record.Unfinished.{Unfinished}
use Rattle.bk_stores.specs.LessLaws.{got-place, place, place-one, place-other}
use Rattle.bk_stores.specs.ListLaws.{got-inside, got-more, got-none, got-only, got-other, same-place, set-there}
use Rattle.bk_stores.specs.Records.{begun, left_out, rested, swapped, unfinished_at}
use Rattle.bk_stores.specs.Standing.{AreDifferent, AreNumbered, IsNew, LieUnder}

-- what lies below the next number has few digits
pub number-small : (r : Record) (i : ℕ) (e : Entry) → AreNumbered r → slice_get r.databases i ≡ Some e → e.store < 2 ^ 64
number-small r i e is there = let less = is.below i e there in omega (arith, less, is.small)

-- the next number is new
pub next-new : (r : Record) → AreNumbered r → IsNew r.databases r.next
next-new r is = λ i e there same. let less = is.below i e there in absurd (omega (arith, less, same))

-- and still is once it names a store that is being made
pub begun-new : (r s : Record) (paths : List (List ℕ)) → s ≡ begun r paths → AreNumbered r → IsNew s.databases r.next
begun-new r s paths same is = subst (λ (x : Record). IsNew x.databases r.next) (sym same) (next-new r is)

-- one store alone is being made or removed
one-under : (n next : ℕ) (paths : List (List ℕ)) → n < next → LieUnder (unfinished_at n paths ∷ []) next
one-under n next paths less = λ k u there. subst (λ (v : Unfinished). v.store < next) (got-only (unfinished_at n paths) k u there) less

none-under : (next : ℕ) → LieUnder [] next
none-under next = λ k u there. absurd (got-none k u there)

pub begun-numbers : (r : Record) (paths : List (List ℕ)) → r.next + 1 < 2 ^ 32 → AreNumbered r → AreNumbered (begun r paths)
begun-numbers r paths small is = record {
  small = small;
  below = λ i e there. let less = is.below i e there in omega (arith, less);
  under = one-under r.next (r.next + 1) paths (omega arith);
  differ = is.differ;
}

pub rested-numbers : (r : Record) → AreNumbered r → AreNumbered (rested r r.databases)
rested-numbers r is = record { small = is.small; below = is.below; under = none-under r.next; differ = is.differ }

-- ---- one more

more-different : (entries : List Entry) (x : Entry) → IsNew entries x.store → AreDifferent entries → AreDifferent (entries ++ x ∷ [])
more-different entries x new are = λ i j e f differ first second same. elim (got-more entries x e i first) [
  | inl one ↦ elim (got-more entries x f j second) [
    | inl two ↦ are i j e f differ one two same
    | inr last ↦ new i e one (ap (λ (g : Entry). g.store) last.1 ∙ sym same)
  ]
  | inr last ↦ elim (got-more entries x f j second) [
    | inl two ↦ new j f two (ap (λ (g : Entry). g.store) last.1 ∙ same)
    | inr other ↦ differ (last.0 ∙ sym other.0)
  ]
]

pub added-numbers : (r : Record) (x : Entry) → x.store < r.next → IsNew r.databases x.store → AreNumbered r → AreNumbered (rested r (r.databases ++ x ∷ []))
added-numbers r x below new is = record {
  small = is.small;
  below = λ i e there. elim (got-more r.databases x e i there) [
    | inl old ↦ is.below i e old
    | inr last ↦ subst (λ (g : Entry). g.store < r.next) last.1 below
  ];
  under = none-under r.next;
  differ = more-different r.databases x new is.differ;
}

-- ---- one less

-- the number of an entry is new among the others
pub less-new : (entries : List Entry) (at : ℕ) (e : Entry) → slice_get entries at ≡ Some e → AreDifferent entries → IsNew (remove entries at) e.store
less-new entries at e here are = λ i f there same. are at (place at i) e f (place-other at i) here (sym (got-place entries at i (got-inside entries at e here)) ∙ there) same

pub left-numbers : (r : Record) (at : ℕ) (e : Entry) (paths : List (List ℕ)) → slice_get r.databases at ≡ Some e → AreNumbered r → AreNumbered (left_out r at e.store paths)
left-numbers r at e paths here is =
    let inside : at < length r.databases = got-inside r.databases at e here in
    record {
      small = is.small;
      below = λ i f there. is.below (place at i) f (sym (got-place r.databases at i inside) ∙ there);
      under = one-under e.store r.next paths (is.below at e here);
      differ = λ i j f g differ first second. is.differ (place at i) (place at j) f g (λ same. differ (place-one at i j same)) (sym (got-place r.databases at i inside) ∙ first) (sym (got-place r.databases at j inside) ∙ second);
    }

-- ---- one in another's place

-- an entry behind it is the new one, or another
set-entry : (entries : List Entry) (at : ℕ) (x : Entry) (i : ℕ) (f : Entry) → slice_get (set entries at x) i ≡ Some f → ((at ≡ i) × (x ≡ f)) ⊎ ((at ≡ i → ⊥) × (slice_get entries i ≡ Some f))
set-entry entries at x i f there = elim (same-place at i) [
  | inl same ↦ inl (same, set-there entries at x f (ap (λ (n : ℕ). slice_get (set entries at x) n) same ∙ there))
  | inr differ ↦ inr (differ, sym (got-other entries at i x differ) ∙ there)
]

-- the number of the one that was is new behind it
pub swapped-new : (entries : List Entry) (at : ℕ) (e x : Entry) → slice_get entries at ≡ Some e → IsNew entries x.store → AreDifferent entries → IsNew (set entries at x) e.store
swapped-new entries at e x here new are = λ i f there same. elim (set-entry entries at x i f there) [
  | inl one ↦ new at e here (ap (λ (g : Entry). g.store) one.1 ∙ sym same)
  | inr other ↦ are at i e f other.0 here other.1 same
]

swapped-different : (entries : List Entry) (at : ℕ) (x : Entry) → IsNew entries x.store → AreDifferent entries → AreDifferent (set entries at x)
swapped-different entries at x new are = λ i j f g differ first second same. elim (set-entry entries at x i f first) [
  | inl one ↦ elim (set-entry entries at x j g second) [
    | inl two ↦ differ (sym one.0 ∙ two.0)
    | inr other ↦ new j g other.1 (ap (λ (h : Entry). h.store) one.1 ∙ same)
  ]
  | inr one ↦ elim (set-entry entries at x j g second) [
    | inl two ↦ new i f one.1 (ap (λ (h : Entry). h.store) two.1 ∙ sym same)
    | inr other ↦ are i j f g differ one.1 other.1 same
  ]
]

pub swapped-numbers : (r : Record) (at : ℕ) (e x : Entry) (paths : List (List ℕ)) → slice_get r.databases at ≡ Some e → x.store < r.next → IsNew r.databases x.store → AreNumbered r → AreNumbered (swapped r at x e.store paths)
swapped-numbers r at e x paths here below new is = record {
  small = is.small;
  below = λ i f there. elim (set-entry r.databases at x i f there) [
    | inl one ↦ subst (λ (g : Entry). g.store < r.next) one.1 below
    | inr other ↦ is.below i f other.1
  ];
  under = one-under e.store r.next paths (is.below at e here);
  differ = swapped-different r.databases at x new is.differ;
}
