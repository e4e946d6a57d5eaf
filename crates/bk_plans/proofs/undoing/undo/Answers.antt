use Rattle.std.proofs.Common.{◌≡◌, List, length, subst, arith}
use Rattle.bk_plans.specs.Undoing.{Undoes}
use Rattle.bk_plans.proofs.Undone.{all-ones, one-more}
use Rattle.bk_plans.proofs.undoing.undo.Goals as goal
use Rattle.bk_world.specs.Pending.{Pending}

pub loop-i-preserved : goal.loop-i-preserved
loop-i-preserved c =
    let ws = c.args.written.now in
    let write = c.index-written-last.result in
    record {
      undoes = subst (λ (ps : List Pending). Undoes c.args.first ps c.undo_one.new.said) (one-more c.args.only ws c.loop-i.i write write c.loop-i-test.true c.index-written-last.is)
          (c.in_ok-undo_one.ensures.undoes c.args.first _ c.loop-i.invariant.undoes);
      next = omega (arith, c.in_ok-undo_one.ensures.next, c.loop-i.invariant.next);
      keep = c.in_ok-undo_one.ensures.keep c.loop-i.invariant.keep;
    }

pub returns-clause-undoes : goal.returns-clause-undoes
returns-clause-undoes c =
    let all : c.loop-i.i ≡ length c.args.written.now = omega (arith, c.loop-i-test.false, c.loop-i.auto.i-end) in
    subst (λ (ps : List Pending). Undoes c.args.first ps c.loop-i.said) (all-ones c.args.only c.args.written.now c.loop-i.i all) c.loop-i.invariant.undoes
