use Rattle.bk_redo.proofs.SliceLaws.{redone_by-ranges, slices_join}
use Rattle.bk_redo.proofs.law.slice_law.Goals as goal

pub returns : goal.returns
returns c = record { ranges = redone_by-ranges; slices = slices_join }
