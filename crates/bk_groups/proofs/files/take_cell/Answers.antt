use Rattle.std.proofs.Common.{◌≡◌, ◌-◌, sym, ap, subst, ◌∙◌, arith}
use Rattle.std.proofs.lemmas.List.{get_or_read}
use Rattle.bk_groups.specs.FileSpace.{FileSpace, HoldsCell, WritesBit, free_bit}
use Rattle.bk_groups.specs.Sound.{no_space}
use Rattle.bk_groups.proofs.Spaces.{has_file, space_at, HoldsCell-from, WritesPlace-set}
use Rattle.bk_groups.proofs.files.take_cell.Goals as goal

pub index_mut-requires : goal.index_mut-requires
index_mut-requires c = omega (arith, c.from.ensures, has_file c.args.files.now.items c.args.at.now.file c.requires.cell.has_file, c.args.files.now.ok)

pub take-requires : goal.take-requires
take-requires c =
    let files = c.args.files.now.items in
    let inside = has_file files c.args.at.now.file c.requires.cell.has_file in
    let read = rw c.from.ensures at c.index_mut.ensures.value in
    let is : c.index_mut.result.now ≡ space_at files c.args.at.now.file = get_or_read files (c.args.at.now.file - 1) c.index_mut.result.now inside read no_space in
    record {
      cell = subst (λ (s : FileSpace). HoldsCell s c.args.at.now.page c.args.at.now.slot) (sym is) (HoldsCell-from files c.args.at.now c.requires.cell);
      free = ap (λ (s : FileSpace). free_bit s c.args.at.now.page c.args.at.now.slot) is ∙ c.requires.free;
    }

pub returns : goal.returns
returns c =
    let files = c.args.files.now.items in
    let inside = has_file files c.args.at.now.file c.requires.cell.has_file in
    let read = rw c.from.ensures at c.index_mut.ensures.value in
    let is : c.index_mut.result.now ≡ space_at files c.args.at.now.file = get_or_read files (c.args.at.now.file - 1) c.index_mut.result.now inside read no_space in
    rw c.from.ensures (WritesPlace-set files c.args.at.now c.take.new.self 0 c.requires.cell
    (subst (λ (s : FileSpace). WritesBit s c.take.new.self c.args.at.now.page c.args.at.now.slot 0) is c.take.ensures))
