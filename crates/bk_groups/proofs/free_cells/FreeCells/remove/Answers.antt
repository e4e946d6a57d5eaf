use Rattle.std.proofs.Common.{◌/◌, ◌<◌, length, sym, ap, ◌∙◌, arith}
use Rattle.std.proofs.lemmas.List.{get_or_read}
use Rattle.bk_groups.specs.Bits.{bit_of}
use Rattle.bk_groups.proofs.BitLemmas.{IsIndex-close, IsIndex-clear}
use Rattle.bk_groups.proofs.free_cells.FreeCells.remove.Goals as goal

pub invariant_of-self : goal.invariant_of-self
invariant_of-self c =
    let words = c.clear_bit.new.words.items in
    let inside : c.args.cell / 64 < length words = omega (arith, c.clear_bit.new.words.ok, c.requires.room, ap length c.self.view_is, c.clear_bit.ensures.len) in
    let word = get_or_read words (c.args.cell / 64) c.index.result.now inside c.index.ensures 0 in
    IsIndex-close _ _ _ _ c.args.cell c.self.invariant c.clear_bit.ensures (sym word ∙ c.if-index-eq0.true) c.clear_bit-then-index-eq0.ensures

pub invariant_of-self-else-index-eq0 : goal.invariant_of-self-else-index-eq0
invariant_of-self-else-index-eq0 c =
    let words = c.clear_bit.new.words.items in
    let inside : c.args.cell / 64 < length words = omega (arith, c.clear_bit.new.words.ok, c.requires.room, ap length c.self.view_is, c.clear_bit.ensures.len) in
    let word = get_or_read words (c.args.cell / 64) c.index.result.now inside c.index.ensures 0 in
    let free = ap (λ l. bit_of l c.args.cell) c.self.view_is ∙ c.requires.free in
    IsIndex-clear _ _ _ c.args.cell c.self.invariant free c.clear_bit.ensures (λ none. c.if-index-eq0.false (word ∙ none))
