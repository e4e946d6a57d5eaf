use Rattle.std.proofs.Common.{List}
use Rattle.bk_ids.specs.declared.record.Rec.{Rec}
use Rattle.bk_record.specs.WalkLaws.{Walked}
use Rattle.bk_record.proofs.check.check_log.Given as goal

abbrev pub invariant-loop-record : goal.invariant-loop-record
invariant-loop-record l = record {
  can : (goal.iterator-loop-record).can_next l.record-iterator;
  finite : (goal.iterator-loop-record).is_finite l.record-iterator;
  walked : (records : List Rec) × Walked l.bytes records l.record-iterator;
}
