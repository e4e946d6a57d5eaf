use Rattle.std.proofs.Common.{◌+◌}
use Rattle.bk_opening.specs.Opening.{ArePlaces}
use Rattle.bk_opening.proofs.reading.places_of.Given as goal

abbrev pub invariant-loop-i : goal.invariant-loop-i
invariant-loop-i l = ArePlaces l.files (l.i + 1) 0 l.places.items
