use Rattle.std.proofs.Common.{◌≡◌, ◌+◌, List, length, Some, refl, sym, subst, arith}
use Rattle.std.proofs.lemmas.Option.{slice_get_read}
use Rattle.std.specs.Prelude.{slice_get}
use Rattle.bk_kept.specs.declared.kept.Database.{Database}
use Rattle.bk_engine.specs.Viewing.{IsEndOf, IsSeenAs}
use Rattle.bk_engine.proofs.Viewed.{SoFar, so_far-all, so_far-more, zip-got, zip-length}
use Rattle.bk_engine.proofs.viewing.views_of.Goals as goal

pub view_of-requires-clause-inside : goal.view_of-requires-clause-inside
view_of-requires-clause-inside c =
    let same : length c.args.hosting.now.states ≡ length c.args.ends.now = zip-length IsEndOf c.args.hosting.now.states c.args.ends.now c.requires.ends in
    let less = c.loop-at-test.true in
    omega (arith, same, less)

pub view_of-requires-clause-ends : goal.view_of-requires-clause-ends
view_of-requires-clause-ends c = λ st there.
    let here : slice_get c.args.ends.now c.loop-at.at ≡ Some c.index-ends-at.result = slice_get_read c.args.ends.now (length c.args.ends.now) c.loop-at.at c.index-ends-at.result refl c.loop-at-test.true c.index-ends-at.is in
    zip-got IsEndOf c.args.hosting.now.states c.args.ends.now c.loop-at.at st c.index-ends-at.result c.requires.ends there here

pub loop-at-preserved : goal.loop-at-preserved
loop-at-preserved c = λ hosted memory.
    subst (λ (views : List Database). SoFar IsSeenAs hosted views (c.loop-at.at + 1)) (sym c.in_ok-push.ensures.items)
    (so_far-more IsSeenAs hosted c.loop-at.views.items c.loop-at.at c.in_ok-view_of.field-0 (c.loop-at.invariant hosted memory) (λ h there. c.in_ok-view_of.ensures hosted h memory there))

pub returns : goal.returns
returns c = λ hosted memory.
    let same : length c.args.hosting.now.states ≡ length c.args.ends.now = zip-length IsEndOf c.args.hosting.now.states c.args.ends.now c.requires.ends in
    let count = memory.described.count in
    let past = c.loop-at-test.false in
    let low = c.loop-at.auto.at-end in
    so_far-all IsSeenAs hosted c.loop-at.views.items c.loop-at.at (c.loop-at.invariant hosted memory) (omega (arith, same, count, past, low))
