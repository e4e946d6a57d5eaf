use Rattle.bk_opening.specs.Opening.{ArePlaces}
use Rattle.bk_opening.proofs.reading.add_places.Given as goal

abbrev pub invariant-loop-page : goal.invariant-loop-page
invariant-loop-page l = ArePlaces l.files l.file l.page l.places.items
