-- What a `Cell` says, without where its value lies in memory.
use Rattle.std.specs.Prelude.{◌≤◌, length, Option, Some, None}
use Rattle.bk_bytes.specs.declared.cell.Cell.{Cell}
use Rattle.bk_bytes.specs.declared.cell.Cell.TheVariants.{Free, Used}
use Rattle.bk_bytes.specs.Cell.{Row}

abbrev pub row_of : Cell → Option Row
row_of Free = None
row_of (Used table key value) = Some (record { table = table; key = key; value = value.now })

-- a value that fits into a cell
abbrev pub HasShortValue : Cell → Type 0
HasShortValue Free = Unit {0}
HasShortValue (Used table key value) = length value.now ≤ 112
