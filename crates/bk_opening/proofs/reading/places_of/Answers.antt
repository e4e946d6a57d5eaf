use Rattle.std.proofs.Common.{◌≡◌, ◌+◌, ℕ, length, sym, subst, arith}
use Rattle.bk_opening.specs.Opening.{ArePlaces}
use Rattle.bk_opening.proofs.Places.{places_none}
use Rattle.bk_opening.proofs.reading.places_of.Goals as goal

pub loop-i-init : goal.loop-i-init
loop-i-init c = subst (ArePlaces c.args.files.now 1 0) (sym c.new-places.ensures.items) (places_none c.args.files.now)

pub add_places-requires : goal.add_places-requires
add_places-requires c = subst (λ (n : ℕ). ArePlaces c.args.files.now n 0 c.loop-i.places.items) (sym c.in-Ok.ensures.1) c.loop-i.invariant

pub loop-i-preserved : goal.loop-i-preserved
loop-i-preserved c = subst (λ (n : ℕ). ArePlaces c.args.files.now (n + 1) 0 c.add_places.new.places.items) c.in-Ok.ensures.1 c.in_ok-add_places.ensures

pub returns-clause-places : goal.returns-clause-places
returns-clause-places c =
    let last : c.loop-i.i ≡ length c.args.files.now = omega arith in
    subst (λ (n : ℕ). ArePlaces c.args.files.now (n + 1) 0 c.loop-i.places.items) last c.loop-i.invariant
