use Rattle.bk_segments.specs.BatchLaws.{Counted}
use Rattle.bk_segments.proofs.walk.walk_blob.Given as goal

abbrev pub invariant-loop-record : goal.invariant-loop-record
invariant-loop-record l = record {
  can : (goal.iterator-loop-record).can_next l.record-iterator;
  finite : (goal.iterator-loop-record).is_finite l.record-iterator;
  counted : Counted l.from l.bytes l.at l.record-iterator;
}
