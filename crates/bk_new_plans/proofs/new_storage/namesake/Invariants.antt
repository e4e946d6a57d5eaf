use Rattle.std.proofs.Common.{◌≡◌, drop}
use Rattle.bk_machine.specs.statements.CreateDatabase.{namesake}
use Rattle.bk_new_plans.proofs.new_storage.namesake.Given as goal

abbrev pub invariant-loop-i : goal.invariant-loop-i
invariant-loop-i l = namesake (drop l.i l.files) ≡ namesake l.files
