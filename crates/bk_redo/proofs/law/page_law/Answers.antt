use Rattle.bk_redo.proofs.PageLaws.{redone_is_as_of}
use Rattle.bk_redo.proofs.Fresh.{page_of-fresh_page}
use Rattle.bk_redo.proofs.law.page_law.Goals as goal

pub returns : goal.returns
returns c = record { redone = redone_is_as_of; fresh = page_of-fresh_page }
