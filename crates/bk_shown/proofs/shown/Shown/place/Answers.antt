use Rattle.std.proofs.Common.{sym}
use Rattle.bk_shown.proofs.FreeCells.{answer}
use Rattle.bk_shown.proofs.shown.Shown.place.Goals as goal

pub returns : goal.returns
returns c = answer c.args.self.now c.args.table c.in_ok-group.field-0 c.free_cell.result (sym c.in_ok-group.ensures) c.free_cell.ensures
