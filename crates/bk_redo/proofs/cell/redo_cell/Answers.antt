use Rattle.std.proofs.Common.{List, ℕ, ap, ◌∙◌, sym, subst, arith}
use Rattle.bk_page.specs.Page.{with_lsn}
use Rattle.bk_redo.specs.PageStates.{page_of}
use Rattle.bk_redo.specs.Frames.{Becomes, cell_redone}
use Rattle.bk_redo.specs.CellLaws.{becomes_redone}
use Rattle.bk_redo.proofs.cell.redo_cell.Goals as goal

pub returns : goal.returns
returns c =
    let old = c.args.page.now in
    let new = c.set_page_lsn.ensures ∙ ap (λ (bytes : List ℕ). with_lsn bytes c.args.lsn) c.write_cell.ensures in
    subst (Becomes old (cell_redone c.args.slot c.args.image.now c.args.lsn (page_of old))) (sym new)
    (becomes_redone old c.args.image.now c.args.slot c.args.lsn c.told-page c.told-image c.requires (omega arith) (omega (arith, c.page_lsn.ensures)))
