use Rattle.std.proofs.Common.{◌≡◌, ◌+◌, ◌++◌, length, map, drop}
use Rattle.bk_machine.specs.statements.CreateDatabase.{files_in}
use Rattle.bk_new_plans.specs.NewFiles.{capped}
use Rattle.bk_new_plans.proofs.new_files.push_files.Given as goal

abbrev pub invariant-loop-file : goal.invariant-loop-file
invariant-loop-file l = record {
  so_far : l.files.items ++ map capped (files_in (length l.files.items + 1) l.group (drop l.file-index l.asked)) ≡ l.fn.files.items ++ map capped (files_in (length l.fn.files.items + 1) l.group l.asked);
  count : length l.files.items ≡ length l.fn.files.items + l.file-index;
}
