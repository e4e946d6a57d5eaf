use Rattle.std.proofs.Common.{◌≡◌, ◌*◌, ◌/◌, ◌<◌, length, arith}
use Rattle.std.specs.Prelude.{slice_index}
use Rattle.std.proofs.lemmas.List.{get_or_read}
use Rattle.bk_groups.proofs.BitLemmas.{sets_bit}
use Rattle.bk_groups.proofs.free_cells.set_bit.Goals as goal

pub returns : goal.returns
returns c =
    let words = c.args.words.now.items in
    let within : c.args.i < 64 * length words = omega (arith, c.args.words.now.ok) in
    let inside : c.args.i / 64 < length words = omega arith in
    let word : c.index_mut.result.now ≡ slice_index words (c.args.i / 64) =
    get_or_read words (c.args.i / 64) c.index_mut.result.now inside c.index_mut.ensures.value 0 in
    rw word (sets_bit words c.args.i within)
