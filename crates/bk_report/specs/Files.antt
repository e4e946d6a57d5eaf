-- The files of the database of a backup set. SQL Server: "RESTORE FILELISTONLY".
use Rattle.std.specs.Prelude.{ℕ, ◌+◌, ◌*◌, List, [], ◌∷◌, ◌++◌, length, codes, flat_map, slice_get}
use Rattle.std.specs.Fmt.{decimal}
use Rattle.bk_world.specs.declared.database.FileSpec.{FileSpec}
use Rattle.bk_world.specs.declared.database.Storage.{Storage}
use Rattle.bk_report.specs.Cells.{line, null, maybe_text}

-- a data file: logical name, path, D, filegroup, bytes in data extents of 64 KB, number
abbrev pub file_line : List (List ℕ) → FileSpec → List ℕ
file_line groups file =
    line (file.name ∷ file.path ∷ codes "D" ∷ maybe_text (slice_get groups file.group) ∷ decimal (file.extents * 65536) ∷ decimal file.number ∷ [])

-- the log: its number follows those of the data files
abbrev pub log_line : Storage → List ℕ
log_line storage =
    line (storage.log_name ∷ storage.log_path ∷ codes "L" ∷ null ∷ codes "0" ∷ decimal (length storage.files + 1) ∷ [])

-- the data files of a set's database, and its log
abbrev pub file_lines : Storage → List ℕ
file_lines storage = flat_map (file_line storage.groups) storage.files ++ log_line storage
