use Rattle.std.proofs.Common.{◌≤◌, ◌-◌, List, [], None, length, drop}
use Rattle.bk_ids.specs.declared.record.Rec.{Rec}
use Rattle.bk_record.specs.Log.{IsLog}
use Rattle.bk_undo.specs.OpenPart.{ReadTo}
use Rattle.bk_undo.proofs.closing.open_part.Given as goal

abbrev pub invariant-records : goal.invariant-records
invariant-records l = record {
  inside : l.at ≤ length l.log;
  closed_inside : l.closed ≤ length l.log;
  so_far : (records : List Rec) → IsLog l.log records None → ReadTo l.fn.below records l.begun.items (drop l.at l.log);
  behind : (records : List Rec) → IsLog l.log records None → ReadTo l.fn.below records [] (drop l.closed l.log);
}

abbrev pub decreases-records : goal.decreases-records
decreases-records l = length l.log - l.at
