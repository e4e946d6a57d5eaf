-- What the layers above may take of the rows of msdb.
use Rattle.std.proofs.Common.{◌≡◌, ◌≤◌, List, [], ◌∷◌, ◌++◌, take, Option, Some, None, refl, sym, ap, ◌∙◌, arith}
use Rattle.std.specs.Prelude.{codes, ℕ}
use Rattle.bk_device.specs.Calls.{contents}
use Rattle.bk_device.specs.Disk.{Files}
use Rattle.bk_gate.specs.Blobs.{sealed, IsGateFile}
use Rattle.bk_gate.specs.BlobLaws.{foreign_blobs}
use Rattle.bk_machine.specs.declared.history_row.HistoryRow.{HistoryRow}
use Rattle.bk_msdb.specs.Rows.{Tables, no_rows, with_row}
use Rattle.bk_msdb.specs.Msdb.{msdb_file, with_read, with_blobs, tables_of, Shows}
use Rattle.bk_msdb.specs.Spelling.{read_row}

-- the name begins with sqlbak and a dot
pub msdb_front : take 7 msdb_file ≡ codes "sqlbak."
msdb_front = refl

-- what files show

-- the file alone counts
pub shows_same : (f g : Files) (tables : Tables) → g msdb_file ≡ f msdb_file → Shows f tables → Shows g tables
shows_same f g tables same is = ap tables_of same ∙ is

-- files show one list of rows for each table
pub one_tables : (files : Files) (tables others : Tables) → Shows files tables → Shows files others → tables ≡ others
one_tables files tables others first second = sym first ∙ second

-- a file without a sealed blob shows no row
pub none_shown : (file : Option (List ℕ)) → sealed file ≡ [] → tables_of file ≡ no_rows
unfolding tables_of
none_shown file none = ap (with_blobs no_rows) none

-- nor does one that is no gate file
pub foreign_shown : (file : Option (List ℕ)) → (IsGateFile (contents file) → ⊥) → tables_of file ≡ no_rows
foreign_shown file foreign = none_shown file (foreign_blobs (contents file) foreign)

-- nor one that is absent
pub absent_shown : (files : Files) → files msdb_file ≡ None → Shows files no_rows
absent_shown files absent = ap tables_of absent ∙ foreign_shown None (λ gate. let long : 17 ≤ 0 = gate.1 in absurd (omega (arith, long)))

-- blobs behind others
pub with_blobs_behind : (tables : Tables) (front back : List (List ℕ)) → with_blobs tables (front ++ back) ≡ with_blobs (with_blobs tables front) back
with_blobs_behind tables [] back = refl
with_blobs_behind tables (blob ∷ front) back = with_blobs_behind (with_read tables (read_row blob)) front back

-- one more blob, which spells a row
pub row_shown : (before after : Option (List ℕ)) (blob : List ℕ) (row : HistoryRow) → sealed after ≡ sealed before ++ blob ∷ [] → read_row blob ≡ Some row → tables_of after ≡ with_row (tables_of before) row
unfolding tables_of
row_shown before after blob row more reads =
    ap (with_blobs no_rows) more ∙ with_blobs_behind no_rows (sealed before) (blob ∷ []) ∙ ap (with_read (with_blobs no_rows (sealed before))) reads
