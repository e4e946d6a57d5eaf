use Rattle.std.proofs.Common.{List, None}
use Rattle.bk_ids.specs.declared.record.Rec.{Rec}
use Rattle.bk_record.specs.Log.{IsLog}
use Rattle.bk_body.proofs.Logs.{Later}
use Rattle.bk_body.proofs.log.is_log_of.Given as goal

abbrev pub invariant-loop-record : goal.invariant-loop-record
invariant-loop-record l = record {
  can : (goal.iterator-loop-record).can_next l.record-iterator;
  finite : (goal.iterator-loop-record).is_finite l.record-iterator;
  kept : (records : List Rec) → IsLog l.log records None → Later l.header l.tables records l.next l.all.items l.record-iterator.bytes;
}
