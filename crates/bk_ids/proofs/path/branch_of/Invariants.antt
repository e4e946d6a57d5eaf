use Rattle.std.proofs.Common.{◌≡◌, take}
use Rattle.bk_ids.specs.Path.{branch_at}
use Rattle.bk_ids.proofs.path.branch_of.Given as goal

abbrev pub invariant-loop-branch : goal.invariant-loop-branch
invariant-loop-branch l = l.found ≡ branch_at (take l.branch-index l.path) l.n
