use Rattle.std.proofs.Common.{List}
use Rattle.bk_ids.specs.declared.record.Rec.{Rec}
use Rattle.bk_record.specs.WalkLaws.{Walked}
use Rattle.bk_redo.specs.Redo.{records_between}
use Rattle.bk_redo.specs.CellWrites.{IsListOf}
use Rattle.bk_redo.proofs.writes.list_part.Given as goal

abbrev pub invariant-loop-record : goal.invariant-loop-record
invariant-loop-record l = record {
  can : (goal.iterator-loop-record).can_next l.record-iterator;
  finite : (goal.iterator-loop-record).is_finite l.record-iterator;
  walked : (records : List Rec) × Walked l.log records l.record-iterator × IsListOf l.wanted.places.now (records_between l.wanted.from l.wanted.to records) l.writes.items;
}
