use Rattle.std.proofs.Common.{◌≡◌, List, None, length}
use Rattle.bk_ids.specs.declared.record.Rec.{Rec}
use Rattle.bk_record.specs.Log.{IsLog}
use Rattle.bk_record.specs.Records.{records_from}
use Rattle.bk_record.proofs.records.rest_from.Given as goal

abbrev pub invariant-loop-record : goal.invariant-loop-record
invariant-loop-record l = (records : List Rec) → IsLog l.fn.log records None → (later : List Rec) × ((records_from l.lsn records ≡ records_from l.lsn later) × IsLog l.rest later None)

abbrev pub decreases-loop-record : goal.decreases-loop-record
decreases-loop-record l = length l.rest
