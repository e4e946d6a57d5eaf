use Rattle.bk_page.specs.Laws.{with_cell-writes, with_lsn-writes, sealed-seals, fresh_page-fresh}
use Rattle.bk_page.proofs.law.page_law.Goals as goal

pub returns : goal.returns
returns c = record { cell = with_cell-writes; lsn = with_lsn-writes; sealed = sealed-seals; fresh = fresh_page-fresh }
