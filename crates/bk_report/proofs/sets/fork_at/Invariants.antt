use Rattle.std.proofs.Common.{◌≡◌, drop}
use Rattle.bk_report.specs.Sets.{branch_from, fork_at}
use Rattle.bk_report.proofs.sets.fork_at.Given as goal

abbrev pub invariant-loop-branch : goal.invariant-loop-branch
invariant-loop-branch l = branch_from l.found (drop l.branch-index l.path) l.n ≡ fork_at l.path l.n
