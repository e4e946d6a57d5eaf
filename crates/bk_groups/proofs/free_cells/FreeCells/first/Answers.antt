use Rattle.std.proofs.Common.{◌+◌, ◌*◌, arith}
use Rattle.bk_groups.proofs.BitLemmas.{IsIndex-found, within_list}
use Rattle.bk_groups.proofs.free_cells.FreeCells.first.Goals as goal

pub index-requires : goal.index-requires
index-requires c =
    let set = rw c.deref-bits-items.ensures.value at c.lowest_bit.ensures.set in
    let words = c.self.inside.words.items in
    let some = IsIndex-found words c.self.inside.marks.items c.loop-i.i c.lowest_bit.result c.self.invariant c.lowest_bit.ensures.low set in
    let within = within_list words (64 * c.loop-i.i + c.lowest_bit.result) some in
    omega (arith, within, c.self.inside.words.ok)
