-- What the code writes of a cell.
use Rattle.std.proofs.Common.{◌≡◌, ℕ, ◌+◌, ◌-◌, List, ◌∷◌, length, drop, replicate, Some, refl, arith}
use Rattle.std.proofs.lemmas.List.{drop-replicate}
use borrow.Rule.Slice.PartMut.{put_mid}
use Rattle.bk_bytes.specs.Field.{bytes_of, with_field}
use Rattle.bk_bytes.specs.Cell.{cell_bytes}

-- a cell's image, written field by field over zeros
pub image_written : (table key : ℕ) (value two four eight copied : List ℕ)
    → two ≡ with_field (1 ∷ replicate 127 0) 2 (bytes_of 2 (length value))
    → four ≡ with_field two 4 (bytes_of 4 table)
    → eight ≡ with_field four 8 (bytes_of 8 key)
    → copied ≡ value
    → put_mid 16 (16 + length value - 16) eight copied ≡ cell_bytes (Some (record { table = table; key = key; value = value }))
unfolding bytes_of
image_written table key value two four eight copied e2 e4 e8 same =
    let size : 16 + length value - 16 ≡ length value = omega arith in
    let zeros_left : List ℕ = replicate 112 0 in
    let tail : drop (length value) zeros_left ≡ replicate (112 - length value) 0 = drop-replicate (length value) 112 0 in
    rw (size, same, e8, e4, e2, tail) refl
