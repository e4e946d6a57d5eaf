use Rattle.std.proofs.Common.{◌≡◌, ◌+◌, ◌-◌, ◌++◌}
use Rattle.bk_machine.specs.statements.Backup as backup
use Rattle.bk_media_plans.proofs.jobs.push_extents.Given as goal

abbrev pub invariant-loop-i : goal.invariant-loop-i
invariant-loop-i l = l.extents.items ++ backup.extents_from l.file (l.i + 1) (l.count - l.i) ≡ l.fn.extents.items ++ backup.extents_from l.file 1 l.count
