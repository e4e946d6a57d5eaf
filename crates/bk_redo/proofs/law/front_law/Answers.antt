use Rattle.bk_redo.proofs.SliceLaws.{as_of-front, as_of-below, as_of-untouched, as_of-more, redone_by-untouched}
use Rattle.bk_redo.proofs.law.front_law.Goals as goal

pub returns : goal.returns
returns c = record {
  front = as_of-front;
  below = as_of-below;
  untouched = as_of-untouched;
  more = as_of-more;
  redone = redone_by-untouched;
}
