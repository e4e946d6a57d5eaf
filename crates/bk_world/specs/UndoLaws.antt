-- A write that is undone.
use Rattle.std.proofs.Common.{◌≡◌, ◌<◌, Bool, true, not, ◌&&◌, List, [], ◌∷◌, ◌++◌, refl, ap, arith, ◌∙◌}
use Rattle.std.specs.Prelude.{◌==◌}
use Rattle.std.specs.List.{filter, AllByRecursion}
use Rattle.std.proofs.lemmas.Bool.Decides.{nat_tests}
use Rattle.std.proofs.lemmas.List.Elements.{filter-append}
use Rattle.bk_world.specs.Pending.{Pending, PendingRise}
use Rattle.bk_lemmas.specs.Lists.{all_mapped, all_middle, filter_every}

rise-below : (front : List Pending) (w : Pending) (back : List Pending) → PendingRise (front ++ w ∷ back) → AllByRecursion (λ v. v.lsn < w.lsn) front
rise-below [] w back rise = tt
rise-below (v ∷ front) w back rise = (all_middle (λ x. v.lsn < x.lsn) front w back rise.0, rise-below front w back rise.1)

rise-above : (front : List Pending) (w : Pending) (back : List Pending) → PendingRise (front ++ w ∷ back) → AllByRecursion (λ v. w.lsn < v.lsn) back
rise-above [] w back rise = rise.0
rise-above (v ∷ front) w back rise = rise-above front w back rise.1

-- a write that is undone is pending no more
pub filter-undone : (front : List Pending) (w : Pending) (back : List Pending) → PendingRise (front ++ w ∷ back) → filter (λ v. not (v.begin == w.begin && v.lsn == w.lsn)) (front ++ w ∷ back) ≡ front ++ back
filter-undone front w back rise =
    let own : (w.begin == w.begin && w.lsn == w.lsn) ≡ true = grind (arith, nat_tests) in
    let its : Pending → Bool = λ v. not (v.begin == w.begin && v.lsn == w.lsn) in
    let gone : filter its (w ∷ back) ≡ filter its back = rw own refl in
    filter-append its front (w ∷ back)
    ∙ ap (λ vs. vs ++ filter its (w ∷ back)) (filter_every its front (all_mapped (λ v. v.lsn < w.lsn) (λ v. its v ≡ true) (λ v lt. grind (arith, nat_tests, lt)) front (rise-below front w back rise)))
    ∙ ap (λ vs. front ++ vs) (gone ∙ filter_every its back (all_mapped (λ v. w.lsn < v.lsn) (λ v. its v ≡ true) (λ v lt. grind (arith, nat_tests, lt)) back (rise-above front w back rise)))
