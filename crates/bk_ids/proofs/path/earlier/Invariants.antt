use Rattle.std.proofs.Common.{◌≡◌, ◌≢◌, ◌<◌, ◌≤◌, ◌⊎◌, take}
use Rattle.std.specs.List.{AllByRecursion}
use Rattle.bk_ids.specs.Path.{branch_at}
use Rattle.bk_ids.proofs.path.earlier.Given as goal

abbrev pub invariant-loop-branch : goal.invariant-loop-branch
invariant-loop-branch l = record {
  lower : (l.found ≡ l.least) ⊎ (0 < l.found) × (l.found < l.least) × (branch_at l.path l.found ≢ branch_at l.other l.found);
  within : l.found ≤ l.least;
  tried : AllByRecursion (λ b. 0 < b.start → b.start < l.found → branch_at l.path b.start ≡ branch_at l.other b.start) (take l.branch-index l.starts);
}
