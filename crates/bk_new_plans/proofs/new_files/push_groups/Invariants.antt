use Rattle.std.proofs.Common.{◌≡◌, ◌≤◌, ◌+◌, ◌++◌, length, map, drop}
use Rattle.std.specs.List.{sum_by}
use Rattle.bk_machine.specs.statements.CreateDatabase.{files_of}
use Rattle.bk_new_plans.specs.NewFiles.{capped}
use Rattle.bk_new_plans.proofs.new_files.push_groups.Given as goal

abbrev pub invariant-loop-i : goal.invariant-loop-i
invariant-loop-i l = record {
  so_far : l.files.items ++ map capped (files_of (length l.files.items + 1) (l.i + 1) (drop l.i l.groups)) ≡ l.fn.files.items ++ map capped (files_of (length l.fn.files.items + 1) 1 l.groups);
  few : length l.files.items + sum_by (λ g. length g.files) (drop l.i l.groups) ≤ 16;
}
