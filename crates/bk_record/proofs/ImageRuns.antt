-- The image of a cell is read where its bytes are a cell's.
use Rattle.std.proofs.Common.{◌≡◌, ℕ, ◌≤◌, true, false, ltb, List, length, take, drop, Some, None, refl, ap, arith}
use Rattle.std.specs.Prelude.{is_some}
use Rattle.std.proofs.lemmas.Bool.{le-ltb}
use Rattle.std.proofs.lemmas.List.{length-take}
use Rattle.bk_bytes.specs.Field.{AreBytes}
use Rattle.bk_bytes.specs.Cell.{IsCell, cell_form}
use Rattle.bk_bytes.specs.CodecLaws.{AreBytes-take}
use Rattle.bk_bytes.specs.CellLaws.{is_some-cell, is_some-no_cell}
use Rattle.bk_record.specs.Reading.{image_form}

pub image_read : (bytes image : List ℕ) → 128 ≤ length bytes → image ≡ take 128 bytes → IsCell image → image_form.reading bytes ≡ Some (record { bytes = image }, drop 128 bytes)
unfolding image_form
image_read bytes image long is found =
    let wide : ltb (length bytes) 128 ≡ false = le-ltb _ _ long in
    let test : is_some (cell_form.reading (take 128 bytes)) ≡ true = rw (← is) (is_some-cell image found) in
    rw (wide, test, is) refl

pub image_unread : (bytes image : List ℕ) → AreBytes bytes → 128 ≤ length bytes → image ≡ take 128 bytes → ¬ IsCell image → image_form.reading bytes ≡ None
unfolding image_form
image_unread bytes image fits long is other =
    let wide : ltb (length bytes) 128 ≡ false = le-ltb _ _ long in
    let len : length image ≡ 128 = omega (arith, ap length is, length-take 128 bytes) in
    let front : AreBytes image = rw is (AreBytes-take 128 bytes fits) in
    let test : is_some (cell_form.reading (take 128 bytes)) ≡ false = rw (← is) (is_some-no_cell image front len other) in
    rw (wide, test) refl
