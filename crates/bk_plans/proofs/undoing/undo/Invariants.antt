use Rattle.std.proofs.Common.{◌≤◌, ◌+◌}
use Rattle.bk_acts.specs.Conditions.{KeepRecords}
use Rattle.bk_plans.specs.Undoing.{Undoes}
use Rattle.bk_plans.proofs.Undone.{last_ones}
use Rattle.bk_plans.proofs.undoing.undo.Given as goal

abbrev pub invariant-loop-i : goal.invariant-loop-i
invariant-loop-i l = record {
  undoes : Undoes l.first (last_ones l.only l.written l.i) l.said;
  next : l.said.next ≤ l.first + l.i;
  keep : KeepRecords l.said.records.items;
}
