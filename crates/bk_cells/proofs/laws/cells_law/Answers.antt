use Rattle.bk_cells.proofs.Pages.{cells_are_on_pages}
use Rattle.bk_cells.proofs.laws.cells_law.Goals as goal

pub returns : goal.returns
returns c = cells_are_on_pages
