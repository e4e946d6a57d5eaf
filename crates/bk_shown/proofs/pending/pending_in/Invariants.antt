use Rattle.std.proofs.Common.{List, map, None}
use Rattle.bk_record.specs.Log.{IsLog}
use Rattle.bk_undo.specs.Spelled.{spelled}
use Rattle.bk_world.specs.declared.database.FileSpec.{FileSpec}
use Rattle.bk_world.specs.Records.{Logged}
use Rattle.bk_shown.specs.Shown.{ArePlaced}
use Rattle.bk_shown.proofs.Noted.{NotedSoFar}
use Rattle.bk_shown.proofs.pending.pending_in.Given as goal

abbrev pub invariant-loop-record : goal.invariant-loop-record
invariant-loop-record l = record {
  can : (goal.iterator-loop-record).can_next l.record-iterator;
  finite : (goal.iterator-loop-record).is_finite l.record-iterator;
  noted : (files : List FileSpec) (before from : List Logged) → ArePlaced files before from → IsLog l.fn.log (map spelled from) None → NotedSoFar files before from l.record-iterator.bytes l.writes.items;
}
