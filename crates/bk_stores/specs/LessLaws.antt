-- One database less.
use Rattle.std.proofs.Common.{◌≡◌, ◌<◌, ◌+◌, ℕ, zero, suc, List, [], ◌∷◌, length, Option, refl, sym, ap, subst, ◌∙◌, arith}
use Rattle.std.specs.Prelude.{remove, slice_get}
use Rattle.bk_device.specs.Disk.{Disk}
use Rattle.bk_master.specs.declared.record.Entry.{Entry}
use Rattle.bk_master.specs.declared.record.Record.{Record}
use Rattle.bk_master.specs.declared.record.Unfinished.{Unfinished}
use Rattle.bk_master.specs.Spelling.{KeepsRecord}
use Rattle.bk_paged.specs.Names.{names_of}
use Rattle.bk_store.specs.Store.{Kept as KeptStore}
use Rattle.bk_store.specs.Told.{Told}
use Rattle.bk_stores.specs.AddLaws.{apart-named}
use Rattle.bk_stores.specs.Beside.{AreApart}
use Rattle.bk_stores.specs.ListLaws.{got-inside, got-only}
use Rattle.bk_stores.specs.Records.{AreSmall, left_out, unfinished_at}
use Rattle.bk_stores.specs.Stores.{AreEntries, IsAt, SlotsStand, at_paths, its_files}

-- ---- places in a list without an element

-- the place that an element had before the one at a place was removed
abbrev pub place : ℕ → ℕ → ℕ
place zero i = suc i
place (suc at) zero = zero
place (suc at) (suc i) = suc (place at i)

pub got-place : {X : Type 0} (xs : List X) (at i : ℕ) → at < length xs → slice_get (remove xs at) i ≡ slice_get xs (place at i)
got-place [] at i inside = absurd (omega (arith, inside))
got-place (x ∷ xs) zero i inside = refl
got-place (x ∷ xs) (suc at) zero inside = refl
got-place (x ∷ xs) (suc at) (suc i) inside = got-place xs at i (omega (arith, inside))

pub place-one : (at i j : ℕ) → place at i ≡ place at j → i ≡ j
place-one zero i j same = omega (arith, same)
place-one (suc at) zero zero same = refl
place-one (suc at) zero (suc j) same = absurd (omega (arith, same))
place-one (suc at) (suc i) zero same = absurd (omega (arith, same))
place-one (suc at) (suc i) (suc j) same = ap suc (place-one at i j (omega (arith, same)))

pub place-other : (at i : ℕ) → at ≡ place at i → ⊥
place-other zero i same = omega (arith, same)
place-other (suc at) zero same = omega (arith, same)
place-other (suc at) (suc i) same = place-other at i (omega (arith, same))

pub length-less : {X : Type 0} (xs : List X) (at : ℕ) → at < length xs → length (remove xs at) + 1 ≡ length xs
length-less [] at inside = absurd (omega (arith, inside))
length-less (x ∷ xs) zero inside = omega arith
length-less (x ∷ xs) (suc at) inside = let rest = length-less xs at (omega (arith, inside)) in omega (arith, rest)

-- lists of one length are so behind it
pub length-less-same : {X Y : Type 0} (xs : List X) (ys : List Y) (at : ℕ) → at < length xs → length xs ≡ length ys → length (remove xs at) ≡ length (remove ys at)
length-less-same xs ys at inside same = let one = length-less xs at inside in let other = length-less ys at (omega (arith, inside, same)) in omega (arith, one, other, same)

-- ---- entries

-- an entry of the rest is one of all
at-less : (entries : List Entry) (tolds : List Told) (at i : ℕ) (e : Entry) (t : Told) → at < length entries → at < length tolds → IsAt (remove entries at) (remove tolds at) i e t → IsAt entries tolds (place at i) e t
at-less entries tolds at i e t inside within is = (sym (got-place entries at i inside) ∙ is.0, sym (got-place tolds at i within) ∙ is.1)

pub less-keeps : (r : Record) (at store : ℕ) (paths : List (List ℕ)) → AreSmall paths → at < length r.databases → KeepsRecord r → KeepsRecord (left_out r at store paths)
less-keeps r at store paths short inside is = record {
  own = is.own;
  few = let size = length-less r.databases at inside in let few = is.few in omega (arith, size, few);
  one = omega arith;
  small = ((short.few, short.short), tt);
}

pub less-entries : (r : Record) (tolds : List Told) (at : ℕ) (e : Entry) (t : Told) (paths : List (List ℕ)) → AreSmall paths → names_of (at_paths paths) ≡ names_of (its_files e t) → IsAt r.databases tolds at e t → AreEntries r tolds
    → AreEntries (left_out r at e.store paths) (remove tolds at)
less-entries r tolds at e t paths short names here is =
    let inside : at < length r.databases = got-inside r.databases at e here.0 in
    let within : at < length tolds = got-inside tolds at t here.1 in
    record {
      keeps = less-keeps r at e.store paths short inside is.keeps;
      count = length-less-same tolds r.databases at within is.count;
      below = λ i f there. is.below (place at i) f (sym (got-place r.databases at i inside) ∙ there);
      under = λ k u there. subst (λ (v : Unfinished). v.store < r.next) (got-only (unfinished_at e.store paths) k u there) (is.below at e here.0);
      apart = λ i j f g u v differ first second. is.apart (place at i) (place at j) f g u v (λ same. differ (place-one at i j same)) (at-less r.databases tolds at i f u inside within first) (at-less r.databases tolds at j g v inside within second);
      aside = λ i k f u v first there.
          let base : AreApart e.store (its_files e t) f.store (its_files f u) = is.apart at (place at i) e f t u (place-other at i) here (at-less r.databases tolds at i f u inside within first) in
          subst (λ (w : Unfinished). AreApart w.store (at_paths w.paths) f.store (its_files f u)) (got-only (unfinished_at e.store paths) k v there) (apart-named e.store (its_files e t) (at_paths paths) f.store (its_files f u) names base);
    }

pub less-slots : (a : Disk) (entries : List Entry) (slots : List (Option KeptStore)) (tolds : List Told) (at : ℕ) → at < length entries → at < length slots → at < length tolds → SlotsStand a entries slots tolds → SlotsStand a (remove entries at) (remove slots at) (remove tolds at)
less-slots a entries slots tolds at inside filled within stand = λ i e slot t is there. stand (place at i) e slot t (at-less entries tolds at i e t inside within is) (sym (got-place slots at i filled) ∙ there)
