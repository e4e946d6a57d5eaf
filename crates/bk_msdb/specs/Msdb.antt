-- The rows of msdb in their file: a gate file, each of whose blobs is a row.
use Rattle.std.specs.Prelude.{◌≡◌, ◌⊎◌, ℕ, Bool, true, false, List, [], ◌∷◌, ◌++◌, Option, Some, None, codes}
use Rattle.bk_device.specs.Disk.{Files, Disk, IsDurable}
use Rattle.bk_gate.specs.Blobs.{magic, sealed}
use Rattle.bk_gate.specs.Gate.{IsGate, Kept as KeptGate}
use Rattle.bk_gate.specs.Opened.{IsOpened}
use Rattle.bk_machine.specs.declared.history_row.HistoryRow.{HistoryRow}
use Rattle.bk_msdb.specs.Rows.{Tables, no_rows, with_row}
use Rattle.bk_msdb.specs.Spelling.{read_row}

-- the name of the file
abbrev pub msdb_file : List ℕ
msdb_file = codes "sqlbak.msdb"

-- the tables with the row that was read, if one was
abbrev pub with_read : Tables → Option HistoryRow → Tables
with_read tables None = tables
with_read tables (Some row) = with_row tables row

-- the tables with the row that a blob spells, if it spells one
abbrev pub with_blob : Tables → List ℕ → Tables
with_blob tables blob = with_read tables (read_row blob)

-- the tables with the rows of these blobs, one behind the other
abbrev pub with_blobs : Tables → List (List ℕ) → Tables
with_blobs tables [] = tables
with_blobs tables (blob ∷ blobs) = with_blobs (with_blob tables blob) blobs

-- the tables in a file: the rows that its sealed blobs spell, in order
unfoldable pub tables_of : Option (List ℕ) → Tables
tables_of file = with_blobs no_rows (sealed file)

-- the files show these tables
abbrev pub Shows : Files → Tables → Type 0
Shows files tables = tables_of (files msdb_file) ≡ tables

-- a row is added: a crash leaves the tables without it or with it
abbrev pub Adds : Tables → HistoryRow → Files → Type 0
Adds tables row image = Shows image tables ⊎ Shows image (with_row tables row)

-- the file has the blobs that it had, or this one more
abbrev pub GrowsBy : List ℕ → Files → Files → Type 0
GrowsBy bytes before image = (sealed (image msdb_file) ≡ sealed (before msdb_file)) ⊎ (sealed (image msdb_file) ≡ sealed (before msdb_file) ++ bytes ∷ [])

-- a gate file without blobs
abbrev pub empty_file : List ℕ
empty_file = magic ++ 0 ∷ []

-- the gate is that of a file that is still to be made: what is under its name now has no blob, and each crash leaves that
pub record IsUnmade (disk : Disk) (gate : KeptGate) : Type 0 where
  pub opened : IsOpened empty_file gate
  pub durable : IsDurable disk gate.name
  pub none : sealed (disk.files gate.name) ≡ []

-- the file is made, and the gate stands; or it isn't made yet
abbrev pub IsReady : Disk → KeptGate → Bool → Type 0
IsReady disk gate true = IsGate disk gate
IsReady disk gate false = IsUnmade disk gate
