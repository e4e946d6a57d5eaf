use Rattle.std.proofs.Common.{◌+◌, ◌-◌, ◌*◌, ◌∙◌, drop, arith}
use Rattle.std.proofs.lemmas.List.{take-take}
use Rattle.bk_page.proofs.cells.cell_image.Goals as goal

pub returns : goal.returns
returns c =
    let start = 96 + 128 * c.args.slot in
    let image = rw c.start_of-start.ensures at c.in-Some.ensures.cases.same in
    image ∙ take-take 128 (8192 - start) (drop start c.args.page.now) (omega arith)
