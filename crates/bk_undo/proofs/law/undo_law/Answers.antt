use Rattle.bk_undo.proofs.Endings.{closing_leaves, ends_leave}
use Rattle.bk_undo.proofs.Held.{held_part}
use Rattle.bk_undo.proofs.Rests.{rest_part}
use Rattle.bk_undo.proofs.law.undo_law.Goals as goal

pub returns : goal.returns
returns c = record { rest = rest_part; ends = ends_leave; closing = closing_leaves; held = held_part }
