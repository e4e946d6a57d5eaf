use Rattle.std.proofs.Common.{◌≡◌, drop}
use Rattle.bk_ids.specs.Name.{same_name}
use Rattle.bk_machine.specs.statements.CreateDatabase.{repeated}
use Rattle.bk_new_plans.proofs.new_storage.same_group.Given as goal

abbrev pub invariant-loop-i : goal.invariant-loop-i
invariant-loop-i l = repeated same_name (drop l.i l.groups) ≡ repeated same_name l.groups
