-- Another store is put in the place of a database's.
use Rattle.std.proofs.Common.{◌≡◌, ◌<◌, ◌⊎◌, ℕ, List, length, set, Option, Some, inl, inr, sym, ap, subst, ◌∙◌, arith}
use Rattle.std.proofs.lemmas.List.{length-set}
use Rattle.std.specs.Prelude.{slice_get}
use Rattle.bk_device.specs.Disk.{Disk}
use Rattle.bk_master.specs.declared.record.Entry.{Entry}
use Rattle.bk_master.specs.declared.record.Record.{Record}
use Rattle.bk_master.specs.declared.record.Unfinished.{Unfinished}
use Rattle.bk_master.specs.Spelling.{KeepsRecord}
use Rattle.bk_paged.specs.Names.{names_of}
use Rattle.bk_store.specs.Store.{Kept as KeptStore}
use Rattle.bk_store.specs.Told.{Told}
use Rattle.bk_stores.specs.AddLaws.{apart-named, apart-swap}
use Rattle.bk_stores.specs.Beside.{AreApart}
use Rattle.bk_stores.specs.ListLaws.{got-inside, got-one, got-only, got-other, got-set, same-place}
use Rattle.bk_stores.specs.Records.{AreSmall, IsApartBut, swapped, unfinished_at}
use Rattle.bk_stores.specs.Stores.{AreEntries, IsAt, IsSlot, SlotsStand, at_paths, its_files}

-- an entry behind it is the new one, or another
pub at-swapped : (entries : List Entry) (tolds : List Told) (at : ℕ) (e x : Entry) (t new : Told) → IsAt entries tolds at e t → (i : ℕ) (f : Entry) (u : Told) → IsAt (set entries at x) (set tolds at new) i f u
    → ((at ≡ i) × (x ≡ f) × (new ≡ u)) ⊎ ((at ≡ i → ⊥) × IsAt entries tolds i f u)
at-swapped entries tolds at e x t new here i f u is = elim (same-place at i) [
  | inl same ↦
      let entry : slice_get (set entries at x) at ≡ Some x = got-set entries at x (got-inside entries at e here.0) in
      let told : slice_get (set tolds at new) at ≡ Some new = got-set tolds at new (got-inside tolds at t here.1) in
      inl (
        same,
        got-one (set entries at x) at x f entry (ap (λ (n : ℕ). slice_get (set entries at x) n) same ∙ is.0),
        got-one (set tolds at new) at new u told (ap (λ (n : ℕ). slice_get (set tolds at new) n) same ∙ is.1),
      )
  | inr differ ↦ inr (differ, (sym (got-other entries at i x differ) ∙ is.0, sym (got-other tolds at i new differ) ∙ is.1))
]

pub swapped-keeps : (r : Record) (at : ℕ) (x : Entry) (store : ℕ) (paths : List (List ℕ)) → AreSmall paths → KeepsRecord r → KeepsRecord (swapped r at x store paths)
swapped-keeps r at x store paths short is = record {
  own = is.own;
  few = let size = length-set r.databases at x in let few = is.few in omega (arith, size, few);
  one = omega arith;
  small = ((short.few, short.short), tt);
}

pub swapped-entries : (r : Record) (tolds : List Told) (at : ℕ) (e x : Entry) (t new : Told) (paths : List (List ℕ)) → AreSmall paths → names_of (at_paths paths) ≡ names_of (its_files e t) → IsAt r.databases tolds at e t → x.store < r.next
    → IsApartBut r.databases tolds at x.store (its_files x new) → AreApart e.store (its_files e t) x.store (its_files x new) → AreEntries r tolds → AreEntries (swapped r at x e.store paths) (set tolds at new)
swapped-entries r tolds at e x t new paths short names here below apart aside is = record {
  keeps = swapped-keeps r at x e.store paths short is.keeps;
  count = length-set tolds at new ∙ is.count ∙ sym (length-set r.databases at x);
  below = λ i f there. elim (same-place at i) [
    | inl same ↦
        let entry : slice_get (set r.databases at x) at ≡ Some x = got-set r.databases at x (got-inside r.databases at e here.0) in
        subst (λ (g : Entry). g.store < r.next) (got-one (set r.databases at x) at x f entry (ap (λ (n : ℕ). slice_get (set r.databases at x) n) same ∙ there)) below
    | inr differ ↦ is.below i f (sym (got-other r.databases at i x differ) ∙ there)
  ];
  under = λ k u there. subst (λ (v : Unfinished). v.store < r.next) (got-only (unfinished_at e.store paths) k u there) (is.below at e here.0);
  apart = λ i j f g u v differ first second. elim (at-swapped r.databases tolds at e x t new here i f u first) [
    | inl one ↦ elim (at-swapped r.databases tolds at e x t new here j g v second) [
      | inl two ↦ absurd (differ (sym one.0 ∙ two.0))
      | inr other ↦
          let base : AreApart x.store (its_files x new) g.store (its_files g v) = apart j g v other.0 other.1 in
          subst (λ (w : Told). AreApart f.store (its_files f w) g.store (its_files g v)) one.2 (subst (λ (h : Entry). AreApart h.store (its_files h new) g.store (its_files g v)) one.1 base)
    ]
    | inr one ↦ elim (at-swapped r.databases tolds at e x t new here j g v second) [
      | inl two ↦
          let base : AreApart f.store (its_files f u) x.store (its_files x new) = apart-swap x.store (its_files x new) f.store (its_files f u) (apart i f u one.0 one.1) in
          subst (λ (w : Told). AreApart f.store (its_files f u) g.store (its_files g w)) two.2 (subst (λ (h : Entry). AreApart f.store (its_files f u) h.store (its_files h new)) two.1 base)
      | inr other ↦ is.apart i j f g u v differ one.1 other.1
    ]
  ];
  aside = λ i k f u v first there.
      let base : AreApart e.store (at_paths paths) f.store (its_files f u) = elim (at-swapped r.databases tolds at e x t new here i f u first) [
        | inl one ↦
            let its : AreApart e.store (at_paths paths) x.store (its_files x new) = apart-named e.store (its_files e t) (at_paths paths) x.store (its_files x new) names aside in
            subst (λ (w : Told). AreApart e.store (at_paths paths) f.store (its_files f w)) one.2 (subst (λ (h : Entry). AreApart e.store (at_paths paths) h.store (its_files h new)) one.1 its)
        | inr one ↦ apart-named e.store (its_files e t) (at_paths paths) f.store (its_files f u) names (is.apart at i e f t u one.0 here one.1)
      ] in
      subst (λ (w : Unfinished). AreApart w.store (at_paths w.paths) f.store (its_files f u)) (got-only (unfinished_at e.store paths) k v there) base;
}

pub swapped-slots : (a : Disk) (entries : List Entry) (slots : List (Option KeptStore)) (tolds : List Told) (at : ℕ) (e x : Entry) (t new : Told) (slot : Option KeptStore) → IsAt entries tolds at e t → length slots ≡ length tolds → SlotsStand a entries slots tolds → IsSlot a x slot new
    → SlotsStand a (set entries at x) (set slots at slot) (set tolds at new)
swapped-slots a entries slots tolds at e x t new slot here count stand its = λ i f p u there given. elim (at-swapped entries tolds at e x t new here i f u there) [
  | inl one ↦
      let inside : at < length slots = let less = got-inside tolds at t here.1 in omega (arith, less, count) in
      let is_slot : slot ≡ p = got-one (set slots at slot) at slot p (got-set slots at slot inside) (ap (λ (n : ℕ). slice_get (set slots at slot) n) one.0 ∙ given) in
      subst (λ (v : Told). IsSlot a f p v) one.2 (subst (λ (q : Option KeptStore). IsSlot a f q new) is_slot (subst (λ (g : Entry). IsSlot a g slot new) one.1 its))
  | inr other ↦ stand i f p u other.1 (sym (got-other slots at i slot other.0) ∙ given)
]
