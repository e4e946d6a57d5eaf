use Rattle.std.proofs.Common.{Err, Result, ap}
use Rattle.bk_redo.specs.declared.error.RedoError.{RedoError}
use Rattle.bk_opening.proofs.Undoing.{not_bad}
use Rattle.bk_opening.proofs.reading.redo_frames.Goals as goal

pub returns-in-Err-BadRecord-clause-foreign : goal.returns-in-Err-BadRecord-clause-foreign
returns-in-Err-BadRecord-clause-foreign g c is records log =
    let bad = (c.in-Err-BadRecord.ensures.bad c.in-Err-BadRecord.field-0-0).0 (ap (λ (e : RedoError). let r : Result (Unit {0}) RedoError = Err e in r) c.in-Err-BadRecord.field-0-is) in
    not_bad c.args.log.now records bad.0 c.in-Err-BadRecord.field-0-0 log bad.1
