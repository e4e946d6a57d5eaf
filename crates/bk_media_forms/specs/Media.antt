-- Media and units, and the statements of BACKUP and of queries on media, behind their first keyword.
use Rattle.std.specs.Prelude.{ℕ, true, false, ◌||◌, if◌then◌else◌, List, [], ◌∷◌, ◌++◌, drop, codes, Option, Some, None, Ok}
use Rattle.bk_token.specs.declared.token.Token.{Token}
use Rattle.bk_items.specs.declared.item.MediumQuery.{MediumQuery}
use Rattle.bk_items.specs.declared.item.UnitName.{UnitName}
use Rattle.bk_items.specs.declared.item.UnitName.TheVariants.{File, Group}
use Rattle.bk_items.specs.declared.item.ScriptItem.{ScriptItem}
use Rattle.bk_items.specs.declared.item.ScriptItem.TheVariants.{BackupDatabase, BackupLog, QueryMedium}
use Rattle.bk_media_forms.specs.Backup.{with_options}
use Rattle.bk_parse.specs.Parse.{Parsed, ◌>>=◌, stuck, next_is, next_sign, keyword, name, equal_number, equal_filled}

-- DISK = text
unfoldable pub disk : List ℕ → List Token → Parsed (List ℕ × List Token)
disk src ts = do
  word ← keyword src (codes "DISK") ts
  equal_filled src word

-- FILE = text, or FILEGROUP = text
unfoldable pub unit : List ℕ → List Token → Parsed (UnitName × List Token)
unit src ts =
    if next_is src ts (codes "FILE") then (do
      t ← equal_filled src (drop 1 ts)
      Ok (File t.0, t.1))
    else (if next_is src ts (codes "FILEGROUP") then (do
      t ← equal_filled src (drop 1 ts)
      Ok (Group t.0, t.1))
    else stuck ts)

-- units with commas between, added to these; each takes a token, so that the tokens where they begin bound their number
unfoldable pub units_from : List ℕ → List Token → List UnitName → List Token → Parsed (List UnitName × List Token)
units_from src [] found ts = stuck ts
units_from src (_ ∷ left) found ts = do
  u ← unit src ts
  if next_sign u.1 44 then units_from src left (found ++ u.0 ∷ []) (drop 1 u.1) else Ok (found ++ u.0 ∷ [], u.1)

-- units with commas between
unfoldable pub some_units : List ℕ → List Token → Parsed (List UnitName × List Token)
some_units src ts = units_from src ts [] ts

-- units, or none
unfoldable pub units : List ℕ → List Token → Parsed (List UnitName × List Token)
units src ts =
    if next_is src ts (codes "FILE") || next_is src ts (codes "FILEGROUP") then some_units src ts else Ok ([], ts)

-- name units TO DISK = text WITH options
unfoldable pub backup_database : List ℕ → List Token → Parsed (ScriptItem × List Token)
backup_database src ts = do
  n ← name src ts
  u ← units src n.1
  to ← keyword src (codes "TO") u.1
  d ← disk src to
  o ← with_options src false d.1
  Ok (BackupDatabase n.0 u.0 d.0 o.0, o.1)

-- name TO DISK = text WITH options
unfoldable pub backup_log : List ℕ → List Token → Parsed (ScriptItem × List Token)
backup_log src ts = do
  n ← name src ts
  to ← keyword src (codes "TO") n.1
  d ← disk src to
  o ← with_options src true d.1
  Ok (BackupLog n.0 d.0 o.0, o.1)

-- DATABASE .. | LOG ..
unfoldable pub backup : List ℕ → List Token → Parsed (ScriptItem × List Token)
backup src ts =
    if next_is src ts (codes "DATABASE") then backup_database src (drop 1 ts)
    else (if next_is src ts (codes "LOG") then backup_log src (drop 1 ts)
    else stuck ts)

-- WITH FILE = n, or nothing
unfoldable pub with_file : List ℕ → List Token → Parsed (Option ℕ × List Token)
with_file src ts =
    if next_is src ts (codes "WITH") then (do
      word ← keyword src (codes "FILE") (drop 1 ts)
      n ← equal_number word
      Ok (Some n.0, n.1))
    else Ok (None, ts)

-- FROM DISK = text WITH FILE = n
unfoldable pub query_medium : MediumQuery → List ℕ → List Token → Parsed (ScriptItem × List Token)
query_medium query src ts = do
  from ← keyword src (codes "FROM") ts
  d ← disk src from
  f ← with_file src d.1
  Ok (QueryMedium query d.0 f.0, f.1)
