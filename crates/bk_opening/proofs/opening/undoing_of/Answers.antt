use Rattle.std.proofs.Common.{◌∙◌, ap}
use Rattle.bk_undo.specs.Losers.{compensation}
use Rattle.bk_opening.proofs.Undoing.{not_bad, one_list}
use Rattle.bk_opening.proofs.opening.undoing_of.Goals as goal

pub returns-in-Ok-clause-undoing : goal.returns-in-Ok-clause-undoing
returns-in-Ok-clause-undoing c held log =
    let part = c.in_ok-part.ensures held log in
    let found = c.in-Ok.ensures.compensation in
    found.2 ∙ ap (compensation c.args.below) (one_list c.in_ok-part.part.now part.left found.0 part.log found.1) ∙ part.same

pub returns-in-Err-BadRecord-clause-foreign : goal.returns-in-Err-BadRecord-clause-foreign
returns-in-Err-BadRecord-clause-foreign c is held log =
    let part = c.in_ok-part.ensures held log in
    let bad = rw c.in-Err-BadRecord.field-0-is at c.in-Err-BadRecord.ensures.cause in
    not_bad c.in_ok-part.part.now part.left bad.0 c.in-Err-BadRecord.field-0-0 part.log bad.1
