use Rattle.std.proofs.Common.{◌≡◌, ◌+◌, length, take}
use Rattle.std.specs.List.{sum_by}
use Rattle.bk_new_plans.proofs.new_files.have_more.Given as goal

abbrev pub invariant-loop-group : goal.invariant-loop-group
invariant-loop-group l = l.left + sum_by (λ g. length g.files) (take l.group-index l.groups) ≡ l.most
