use Rattle.bk_undo.proofs.KeptTied.{begins, settled, gives_place, ends_place}
use Rattle.bk_undo.proofs.Loads.{kept}
use Rattle.bk_undo.proofs.StillPending.{still_pending}
use Rattle.bk_undo.proofs.cells.cells_law.Goals as goal

pub returns : goal.returns
returns c = record { begins = begins; kept = kept; given = gives_place; ended = ends_place; pending = still_pending; settled = settled }
