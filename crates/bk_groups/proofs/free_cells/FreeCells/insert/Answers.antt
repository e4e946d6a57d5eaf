use Rattle.bk_groups.proofs.BitLemmas.{IsIndex-set}
use Rattle.bk_groups.proofs.free_cells.FreeCells.insert.Goals as goal

pub invariant_of-self : goal.invariant_of-self
invariant_of-self c = IsIndex-set _ _ _ _ c.args.cell c.self.invariant c.set_bit.ensures c.set_bit-2.ensures
