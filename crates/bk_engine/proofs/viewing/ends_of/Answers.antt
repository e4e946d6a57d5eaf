use Rattle.std.proofs.Common.{◌≡◌, ◌+◌, List, length, sym, subst, arith}
use Rattle.bk_hosting.specs.declared.hosting.State.{State}
use Rattle.bk_shown.specs.declared.shown.Shown.{Shown}
use Rattle.bk_stores.specs.ListLaws.{got-one}
use Rattle.bk_engine.specs.Viewing.{IsEndOf}
use Rattle.bk_engine.proofs.Viewed.{SoFar, so_far-all, so_far-more}
use Rattle.bk_engine.proofs.viewing.ends_of.Goals as goal

pub loop-at-preserved : goal.loop-at-preserved
loop-at-preserved c =
    subst (λ (ends : List Shown). SoFar IsEndOf c.args.hosting.now.states ends (c.loop-at.at + 1)) (sym c.in_ok-push.ensures.items)
    (so_far-more IsEndOf c.args.hosting.now.states c.loop-at.ends.items c.loop-at.at c.in_ok-end_of.field-0 c.loop-at.invariant
    (λ st there. subst (λ (x : State). IsEndOf x c.in_ok-end_of.field-0) (got-one c.args.hosting.now.states c.loop-at.at c.state.result.now st c.state.ensures there) c.in_ok-end_of.ensures))

pub returns : goal.returns
returns c =
    let all : length c.args.hosting.now.states ≡ c.loop-at.at = let counted = c.count-at-end.ensures in let past = c.loop-at-test.false in let low = c.loop-at.auto.at-end in omega (arith, counted, past, low) in
    so_far-all IsEndOf c.args.hosting.now.states c.loop-at.ends.items c.loop-at.at c.loop-at.invariant all
