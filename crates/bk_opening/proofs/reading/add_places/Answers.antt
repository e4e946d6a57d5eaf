use Rattle.std.proofs.Common.{◌+◌, sym, subst, arith}
use Rattle.bk_opening.specs.Opening.{ArePlaces}
use Rattle.bk_opening.proofs.Places.{places_more, places_next}
use Rattle.bk_opening.proofs.reading.add_places.Goals as goal

pub loop-page-preserved : goal.loop-page-preserved
loop-page-preserved c =
    subst (ArePlaces c.args.files.now c.args.file (c.loop-page.page + 1)) (sym c.in_ok-push.ensures.items)
    (places_more c.args.files.now c.args.file c.loop-page.page c.loop-page.places.items c.loop-page.invariant (omega (arith, c.pages_in-page-end.ensures)))

pub returns : goal.returns
returns c = places_next c.args.files.now c.args.file c.loop-page.page c.loop-page.places.items c.loop-page.invariant (omega (arith, c.pages_in-page-end.ensures))
