-- A cell has one spelling of 128 bytes.
use Rattle.std.proofs.Common.{◌≡◌, ℕ, zero, suc, ◌-◌, ◌≤◌, Bool, true, false, cond, leb, List, [], ◌++◌, length, replicate, Option, Some, None, refl, sym, ap, subst, ◌∙◌, append_assoc, arith, lit<}
use Rattle.std.specs.Prelude.{is_some}
use Rattle.std.proofs.lemmas.Bool.{leb-true, le-leb}
use Rattle.std.proofs.lemmas.List.{length-append, length-replicate, append-nil, nil_from_length}
use Rattle.std.proofs.lemmas.Option.{same_Some}
use Rattle.bk_bytes.specs.Field.{AreBytes, bytes_of}
use Rattle.bk_bytes.specs.Codec.{IsCodec, number, run, zeros, followed}
use Rattle.bk_bytes.specs.Cell.{Row, IsCellValue, IsCell, IsFree, IsUsed, cell_bytes, cell_kind, fields_of_row, free_form, used_form, form_of_state, cell_form}
use Rattle.bk_bytes.specs.CodecLaws.{number-IsCodec, run-IsCodec, zeros-IsCodec, followed-IsCodec, converted-IsCodec, tagged-IsCodec, nothing-IsCodec, guard_true}

free_form-IsCodec : IsCodec (Option Row) free_form
unfolding free_form
free_form-IsCodec = converted-IsCodec (zeros 127) (λ x. Some None) (λ cell. tt) IsFree (zeros-IsCodec 127) (record { takes = free_takes; gives = free_gives })
  where
    free_takes : (x : Unit {0}) (y : Option Row) → Unit {0} → Some None ≡ Some y → (tt ≡ x) × IsFree y
    free_takes x y fits e = let same : None ≡ y = same_Some None y e in (refl, subst IsFree same tt)

    free_gives : (y : Option Row) → IsFree y → (Some None ≡ Some y) × Unit {0}
    free_gives None h = (refl, tt)
    free_gives (Some row) h = absurd h

used_form-IsCodec : IsCodec (Option Row) used_form
unfolding used_form
used_form-IsCodec =
    converted-IsCodec
    (followed (zeros 1) (λ _. followed (number 2) (λ size. followed (number 4) (λ _. followed (number 8) (λ _. followed (run size) (λ _. zeros (112 - size)))))))
    (λ x. cond (leb x.1.0 112) (Some (Some (record { table = x.1.1.0; key = x.1.1.1.0; value = x.1.1.1.1.0 }))) None)
    fields_of_row
    IsUsed
    (followed-IsCodec _ _ (zeros-IsCodec 1) (λ _. followed-IsCodec _ _ (number-IsCodec 2) (λ size. followed-IsCodec _ _ (number-IsCodec 4) (λ _. followed-IsCodec _ _ (number-IsCodec 8) (λ _. followed-IsCodec _ _ (run-IsCodec size) (λ _. zeros-IsCodec (112 - size)))))))
    (record {
      takes = λ x y fits e.
          let g = guard_true (leb x.1.0 112) (Some (record { table = x.1.1.0; key = x.1.1.1.0; value = x.1.1.1.1.0 })) y e in
          let len : length x.1.1.1.1.0 ≡ x.1.0 = fits.1.1.1.1.0 in
          let small : x.1.0 ≤ 112 = leb-true _ _ g.0 in
          let row : Row = record { table = x.1.1.0; key = x.1.1.1.0; value = x.1.1.1.1.0 } in
          let back : fields_of_row (Some row) ≡ x = ap (λ (k : ℕ). (tt, (k, (x.1.1.0, (x.1.1.1.0, (x.1.1.1.1.0, tt)))))) len in
          subst (λ (z : Option Row). (fields_of_row z ≡ x) × IsUsed z) g.1 (back, record { table = fits.1.1.0; key = fits.1.1.1.0; value = omega arith });
      gives = used_gives;
    })
  where
    used_gives : (y : Option Row) → IsUsed y → (cond (leb (fields_of_row y).1.0 112) (Some (Some (record { table = (fields_of_row y).1.1.0; key = (fields_of_row y).1.1.1.0; value = (fields_of_row y).1.1.1.1.0 }))) None ≡ Some y)
        × (followed (zeros 1) (λ _. followed (number 2) (λ size. followed (number 4) (λ _. followed (number 8) (λ _. followed (run size) (λ _. zeros (112 - size))))))).Fits (fields_of_row y)
    used_gives None h = absurd h
    used_gives (Some row) h =
        let small : leb (length row.value) 112 ≡ true = le-leb _ _ h.value in
        (rw small refl, (tt, (omega (arith, h.value), (h.table, (h.key, (refl, tt))))))

form_of_state-IsCodec : (k : ℕ) → IsCodec (Option Row) (form_of_state k)
form_of_state-IsCodec zero = free_form-IsCodec
form_of_state-IsCodec (suc zero) = used_form-IsCodec
form_of_state-IsCodec (suc (suc k)) = nothing-IsCodec

form_of_state-kind : (k : ℕ) (cell : Option Row) → (form_of_state k).Fits cell → cell_kind cell ≡ k
unfolding free_form used_form
form_of_state-kind zero None h = refl
form_of_state-kind zero (Some row) h = absurd h
form_of_state-kind (suc zero) None h = absurd h
form_of_state-kind (suc zero) (Some row) h = refl
form_of_state-kind (suc (suc k)) cell h = absurd h

pub cell_form-IsCodec : IsCodec (Option Row) cell_form
unfolding cell_form
cell_form-IsCodec = tagged-IsCodec 1 cell_kind form_of_state form_of_state-IsCodec form_of_state-kind

-- the cells that are spelled are those that fit
pub cell_form-Fits : (cell : Option Row) → IsCellValue cell → cell_form.Fits cell
unfolding cell_form free_form used_form
cell_form-Fits None h = (lit< tt, tt)
cell_form-Fits (Some row) h = (lit< tt, h)

pub cell_form-fits : (cell : Option Row) → cell_form.Fits cell → IsCellValue cell
unfolding cell_form free_form used_form
cell_form-fits None h = tt
cell_form-fits (Some row) h = h.1

-- its spelling is the cell's bytes
pub cell_form-spelling : (cell : Option Row) → cell_form.spelling cell ≡ cell_bytes cell
unfolding cell_form free_form used_form bytes_of
cell_form-spelling None = refl
cell_form-spelling (Some row) = simp append_assoc

-- there are 128 bytes
pub length-cell_bytes : (cell : Option Row) → IsCellValue cell → length (cell_bytes cell) ≡ 128
unfolding bytes_of
length-cell_bytes None h = refl
length-cell_bytes (Some row) h = omega (arith, length-append row.value (replicate (112 - length row.value) 0), length-replicate {A = ℕ} (112 - length row.value) 0, h.value)

-- a cell that is read from 128 bytes is their cell
pub cell_read : (image : List ℕ) (cell : Option Row) (rest : List ℕ) → AreBytes image → length image ≡ 128 → cell_form.reading image ≡ Some (cell, rest)
    → IsCellValue cell × (image ≡ cell_bytes cell)
cell_read image cell rest fits len read =
    let a = cell_form-IsCodec.takes image cell rest fits read in
    let h = cell_form-fits cell a.1 in
    let whole : image ≡ cell_bytes cell ++ rest = a.0 ∙ ap (λ (s : List ℕ). s ++ rest) (cell_form-spelling cell) in
    let none : rest ≡ [] = nil_from_length rest (omega (arith, ap length whole, length-append (cell_bytes cell) rest, length-cell_bytes cell h)) in
    (h, whole ∙ ap (λ (r : List ℕ). cell_bytes cell ++ r) none ∙ append-nil (cell_bytes cell))

-- bytes of which no cell is read are no cell's
pub cell_unread : (image : List ℕ) → cell_form.reading image ≡ None → ¬ IsCell image
cell_unread image none found =
    let given = cell_form-IsCodec.gives found.0 [] (cell_form-Fits found.0 found.1.0) in
    let same : cell_form.spelling found.0 ++ [] ≡ image = append-nil (cell_form.spelling found.0) ∙ cell_form-spelling found.0 ∙ sym found.1.1 in
    let met : cell_form.reading (cell_form.spelling found.0 ++ []) ≡ None = ap cell_form.reading same ∙ none in
    cc

-- the test that a cell passes
pub is_some-cell : (image : List ℕ) → IsCell image → is_some (cell_form.reading image) ≡ true
is_some-cell image found =
    let given = cell_form-IsCodec.gives found.0 [] (cell_form-Fits found.0 found.1.0) in
    let same : cell_form.spelling found.0 ++ [] ≡ image = append-nil (cell_form.spelling found.0) ∙ cell_form-spelling found.0 ∙ sym found.1.1 in
    ap (λ (bytes : List ℕ). is_some (cell_form.reading bytes)) (sym same) ∙ ap (λ (o : Option (Option Row × List ℕ)). is_some o) given

-- what passes the test is a cell
pub is_cell-from_some : (image : List ℕ) → AreBytes image → length image ≡ 128 → is_some (cell_form.reading image) ≡ true → IsCell image
is_cell-from_some image fits len test = from_reading (cell_form.reading image) refl
  where
    from_reading : (read : Option (Option Row × List ℕ)) → cell_form.reading image ≡ read → IsCell image
    from_reading None e = let broken : is_some (cell_form.reading image) ≡ false = ap (λ (o : Option (Option Row × List ℕ)). is_some o) e in absurd cc
    from_reading (Some x) e = let a = cell_read image x.0 x.1 fits len e in (x.0, (a.0, a.1))

-- what is no cell fails the test
pub is_some-no_cell : (image : List ℕ) → AreBytes image → length image ≡ 128 → ¬ IsCell image → is_some (cell_form.reading image) ≡ false
is_some-no_cell image fits len other = from_test (is_some (cell_form.reading image)) refl
  where
    from_test : (b : Bool) → is_some (cell_form.reading image) ≡ b → is_some (cell_form.reading image) ≡ false
    from_test true e = absurd (other (is_cell-from_some image fits len e))
    from_test false e = e
