use Rattle.std.proofs.Common.{◌≡◌, drop}
use Rattle.bk_machine.specs.statements.CreateDatabase.{same_path}
use Rattle.bk_new_plans.proofs.new_storage.same_path.Given as goal

abbrev pub invariant-loop-i : goal.invariant-loop-i
invariant-loop-i l = same_path (drop l.i l.files) ≡ same_path l.files
