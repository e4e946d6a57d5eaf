use Rattle.std.proofs.Common.{◌<◌, w64, arith}
use Rattle.std.proofs.lemmas.Nat.Bits.{bit_at-trailing_zeros}
use Rattle.bk_groups.proofs.free_cells.lowest_bit.Goals as goal

pub returns : goal.returns
returns c =
    let some : 0 < c.args.bits = omega arith in
    let lowest = bit_at-trailing_zeros w64 c.args.bits some c.ranges.bits.fits in
    record { low = lowest.0; set = lowest.1 }
