-- The 128 bytes of a cell: a page and a log record spell it alike.
use Rattle.std.specs.Prelude.{◌≡◌, ℕ, zero, suc, ◌-◌, ◌^◌, ◌<◌, ◌≤◌, List, [], ◌++◌, length, replicate, Option, Some, None, nat_le, if◌then◌else◌}
use Rattle.bk_bytes.specs.Field.{bytes_of}
use Rattle.bk_bytes.specs.Codec.{Codec, number, run, zeros, followed, converted, tagged, nothing}

-- what a used cell holds
pub record Row : Type 0 where
  pub table : ℕ
  pub key : ℕ
  pub value : List ℕ

-- the bytes of a cell: zeros alone where it is free; else 1, a zero byte, the value's length, the table, the key,
-- and the value, filled up with zeros
abbrev pub cell_bytes : Option Row → List ℕ
cell_bytes None = replicate 128 0
cell_bytes (Some row) =
    bytes_of 1 1 ++ replicate 1 0 ++ bytes_of 2 (length row.value) ++ bytes_of 4 row.table ++ bytes_of 8 row.key ++ row.value
    ++ replicate (112 - length row.value) 0

-- what fits into a cell
pub record FitsCell (row : Row) : Type 0 where
  pub table : row.table < 2 ^ 32
  pub key : row.key < 2 ^ 64
  pub value : length row.value ≤ 112

-- which cells have a spelling
abbrev pub IsCellValue : Option Row → Type 0
IsCellValue None = Unit {0}
IsCellValue (Some row) = FitsCell row

-- the bytes are a cell's
abbrev pub IsCell : List ℕ → Type 0
IsCell image = (cell : Option Row) × (IsCellValue cell × (image ≡ cell_bytes cell))

-- a cell that isn't free has kind 1
abbrev pub cell_kind : Option Row → ℕ
cell_kind None = 0
cell_kind (Some row) = 1

abbrev pub IsFree : Option Row → Type 0
IsFree None = Unit {0}
IsFree (Some row) = ⊥

-- the rest of a free cell
unfoldable pub free_form : Codec (Option Row)
free_form = converted (zeros 127) (λ x. Some None) (λ cell. tt) IsFree

abbrev pub IsUsed : Option Row → Type 0
IsUsed None = ⊥
IsUsed (Some row) = FitsCell row

-- the fields of a used cell, in their order
abbrev pub fields_of_row : Option Row → Unit {0} × (ℕ × (ℕ × (ℕ × (List ℕ × Unit {0}))))
fields_of_row None = (tt, (0, (0, (0, ([], tt)))))
fields_of_row (Some row) = (tt, (length row.value, (row.table, (row.key, (row.value, tt)))))

-- the rest of a used cell
unfoldable pub used_form : Codec (Option Row)
used_form = converted
    (followed (zeros 1) (λ _. followed (number 2) (λ size. followed (number 4) (λ _. followed (number 8) (λ _. followed (run size) (λ _. zeros (112 - size)))))))
    (λ x. if nat_le x.1.0 112 then Some (Some (record { table = x.1.1.0; key = x.1.1.1.0; value = x.1.1.1.1.0 })) else None)
    fields_of_row
    IsUsed

-- the rest of a cell, by its state
abbrev pub form_of_state : ℕ → Codec (Option Row)
form_of_state zero = free_form
form_of_state (suc zero) = used_form
form_of_state (suc (suc k)) = nothing

-- a cell
unfoldable pub cell_form : Codec (Option Row)
cell_form = tagged 1 cell_kind form_of_state
