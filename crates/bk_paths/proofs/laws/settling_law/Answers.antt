use Rattle.std.specs.Prelude.{reverse}
use Rattle.bk_undo.specs.Losers.{pending, records_below}
use Rattle.bk_paths.specs.Paths.{end_of}
use Rattle.bk_paths.proofs.Machines.{keeps_opened, settled_spelled}
use Rattle.bk_paths.proofs.Settling.{Undo, kept_is_enough, nothing_pends, settled_again, settled_path, settling_keeps_open, undo_fills_nothing}
use Rattle.bk_paths.proofs.laws.settling_law.Goals as goal

pub returns : goal.returns
returns c =
    let undo : Undo = record { rest = c.undo_law.ensures.rest; closing = c.undo_law.ensures.closing; held = c.undo_law.ensures.held; spelled = c.undoing_law.ensures.spelled } in
    record {
      nothing_pends = nothing_pends undo;
      path = settled_path undo;
      fills = λ records at. undo_fills_nothing (end_of records) (reverse (pending (records_below (end_of records) records))) at;
      again = settled_again undo;
      enough = kept_is_enough undo;
      keeps = settling_keeps_open undo;
      machine = settled_spelled;
      opened = keeps_opened;
    }
