use Rattle.std.proofs.Common.{◌≡◌, ◌∙◌, sym, ap, suc, get_or, take, add-one}
use Rattle.std.proofs.Math.Seq.{take-suc}
use Rattle.bk_ids.specs.declared.path.Branch.{Branch}
use Rattle.bk_ids.specs.Path.{branch_at}
use Rattle.bk_ids.specs.Laws.{branch_at-started, branch_at-not_started}
use Rattle.bk_ids.proofs.path.branch_of.Goals.{then-branch-n, else-branch-n}
use Rattle.bk_ids.proofs.path.branch_of.Goals as goal

pub loop-branch-preserved : goal.loop-branch-preserved
loop-branch-preserved c =
    let none : Branch = record { guid = record { high = 0; low = 0 }; start = 0 } in
    let i = c.loop-branch.branch-index in
    let b : Branch = get_or c.args.path.now i none in
    let more = take-suc c.args.path.now i none c.loop-branch-test.true in
    rw (add-one, more) (elim c.if-branch-n.branch [
      | then-branch-n w ↦ w.found-is ∙ sym (branch_at-started (take i c.args.path.now) b c.args.n w.if-branch-n.true)
      | else-branch-n w ↦ w.found-is ∙ c.loop-branch.invariant ∙ sym (branch_at-not_started (take i c.args.path.now) b c.args.n w.if-branch-n.false)
    ])
