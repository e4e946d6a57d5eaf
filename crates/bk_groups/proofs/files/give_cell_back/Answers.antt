use Rattle.std.proofs.Common.{◌≡◌, ◌-◌, sym, subst, arith}
use Rattle.std.proofs.lemmas.List.{get_or_read}
use Rattle.bk_groups.specs.FileSpace.{FileSpace, HoldsCell, WritesBit}
use Rattle.bk_groups.specs.Sound.{no_space}
use Rattle.bk_groups.proofs.Spaces.{has_file, space_at, HoldsCell-from, WritesPlace-set}
use Rattle.bk_groups.proofs.files.give_cell_back.Goals as goal

pub index_mut-requires : goal.index_mut-requires
index_mut-requires c = omega (arith, c.from.ensures, has_file c.args.files.now.items c.args.at.now.file c.requires.has_file, c.args.files.now.ok)

pub give_back-requires : goal.give_back-requires
give_back-requires c =
    let files = c.args.files.now.items in
    let inside = has_file files c.args.at.now.file c.requires.has_file in
    let read = rw c.from.ensures at c.index_mut.ensures.value in
    let is : c.index_mut.result.now ≡ space_at files c.args.at.now.file = get_or_read files (c.args.at.now.file - 1) c.index_mut.result.now inside read no_space in
    subst (λ (s : FileSpace). HoldsCell s c.args.at.now.page c.args.at.now.slot) (sym is) (HoldsCell-from files c.args.at.now c.requires)

pub returns : goal.returns
returns c =
    let files = c.args.files.now.items in
    let inside = has_file files c.args.at.now.file c.requires.has_file in
    let read = rw c.from.ensures at c.index_mut.ensures.value in
    let is : c.index_mut.result.now ≡ space_at files c.args.at.now.file = get_or_read files (c.args.at.now.file - 1) c.index_mut.result.now inside read no_space in
    rw c.from.ensures (WritesPlace-set files c.args.at.now c.give_back.new.self 1 c.requires
    (subst (λ (s : FileSpace). WritesBit s c.give_back.new.self c.args.at.now.page c.args.at.now.slot 1) is c.give_back.ensures))
