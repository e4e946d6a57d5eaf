use Rattle.bk_bytes.specs.CellView.{row_of}
use Rattle.bk_reopening.proofs.Pages.{slot-same, slot-spelled, slot-text}
use Rattle.bk_reopening.proofs.cells.add_slot.Goals as goal

pub returns-in_default-clause-foreign : goal.returns-in_default-clause-foreign
returns-in_default-clause-foreign c = λ is cells holds. slot-spelled cells c.args.place c.args.bytes.now c.get.result holds c.get.ensures.is c.get.ensures.below c.in_default.ensures

pub returns-clause-foreign : goal.returns-clause-foreign
returns-clause-foreign c = λ is cells holds. c.add_cell.ensures.foreign is (slot-text cells c.args.place c.args.bytes.now c.get.result (row_of c.in-Some.cell) holds c.get.ensures.is c.get.ensures.below c.in-Some.ensures)

pub returns-clause-found : goal.returns-clause-found
returns-clause-found c = λ cells files holds found.
    c.add_cell.ensures.found cells files (slot-same cells c.args.place c.args.bytes.now c.get.result (row_of c.in-Some.cell) holds c.get.ensures.is c.get.ensures.below c.in-Some.ensures) found
