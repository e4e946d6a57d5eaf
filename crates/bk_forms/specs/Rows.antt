-- The statements on the rows of a table.
use Rattle.std.specs.Prelude.{ℕ, Bool, ◌&&◌, ◌||◌, if◌then◌else◌, List, drop, codes, Option, Some, None, Ok}
use Rattle.bk_ids.specs.Name.{same_name}
use Rattle.bk_token.specs.declared.token.Token.{Token}
use Rattle.bk_items.specs.declared.item.Catalog.{Catalog}
use Rattle.bk_items.specs.declared.item.Catalog.TheVariants.{BackupSet, RestoreHistory, LogMarkHistory, Databases}
use Rattle.bk_items.specs.declared.rows.RowStatement.TheVariants.{Insert, Update, Delete, Select, BulkInsert}
use Rattle.bk_items.specs.declared.item.ScriptItem.{ScriptItem}
use Rattle.bk_items.specs.declared.item.ScriptItem.TheVariants.{Rows, SelectCatalog}
use Rattle.bk_parse.specs.Parse.{Parsed, ◌>>=◌, stuck, next_is, next_sign, keyword, skip, sign, number, number_in, name, fixed, text}

-- the name, or where it is dbo with a point behind it the name behind that
unfoldable pub owned : List ℕ → List ℕ → List Token → Parsed (List ℕ × List Token)
owned src n ts = if same_name n (codes "dbo") && next_sign ts 46 then name src (drop 1 ts) else Ok (n, ts)

-- a table: name, or dbo . name
unfoldable pub table : List ℕ → List Token → Parsed (List ℕ × List Token)
table src ts = do
  n ← name src ts
  owned src n.0 n.1

-- ( k , v ), or nothing
unfoldable pub column_names : List ℕ → List Token → Parsed (List Token)
column_names src ts =
    if next_sign ts 40 then (do
      first ← fixed src (codes "k") (drop 1 ts)
      comma ← sign 44 first
      second ← fixed src (codes "v") comma
      sign 41 second)
    else Ok ts

-- ( n , text )
unfoldable pub row : List ℕ → List Token → Parsed ((ℕ × List ℕ) × List Token)
row src ts = do
  opened ← sign 40 ts
  n ← number opened
  comma ← sign 44 n.1
  value ← text src comma
  closed ← sign 41 value.1
  Ok ((n.0, value.0), closed)

-- INSERT, behind it: INTO table ( k , v ) VALUES ( n , text )
unfoldable pub insert : List ℕ → List Token → Parsed (ScriptItem × List Token)
insert src ts = do
  into ← table src (skip src (codes "INTO") ts)
  named ← column_names src into.1
  values ← keyword src (codes "VALUES") named
  added ← row src values
  Ok (Rows into.0 (Insert added.0.0 added.0.1), added.1)

-- WHERE k = n
unfoldable pub where_key : List ℕ → List Token → Parsed (ℕ × List Token)
where_key src ts = do
  condition ← keyword src (codes "WHERE") ts
  column ← fixed src (codes "k") condition
  equal ← sign 61 column
  number equal

-- v = text
unfoldable pub assignment : List ℕ → List Token → Parsed (List ℕ × List Token)
assignment src ts = do
  column ← fixed src (codes "v") ts
  equal ← sign 61 column
  text src equal

-- UPDATE, behind it: table SET v = text WHERE k = n
unfoldable pub update : List ℕ → List Token → Parsed (ScriptItem × List Token)
update src ts = do
  changed ← table src ts
  assigned ← keyword src (codes "SET") changed.1
  value ← assignment src assigned
  key ← where_key src value.1
  Ok (Rows changed.0 (Update key.0 value.0), key.1)

-- DELETE, behind it: FROM table WHERE k = n
unfoldable pub delete : List ℕ → List Token → Parsed (ScriptItem × List Token)
delete src ts = do
  from ← table src (skip src (codes "FROM") ts)
  key ← where_key src from.1
  Ok (Rows from.0 (Delete key.0), key.1)

-- WHERE k = n, or nothing
unfoldable pub maybe_key : List ℕ → List Token → Parsed (Option ℕ × List Token)
maybe_key src ts =
    if next_is src ts (codes "WHERE") then (do
      key ← where_key src ts
      Ok (Some key.0, key.1))
    else Ok (None, ts)

-- the system rows of msdb with this name
abbrev pub history_of : List ℕ → Option Catalog
history_of n =
    if same_name n (codes "backupset") then Some BackupSet
    else (if same_name n (codes "restorehistory") then Some RestoreHistory
    else (if same_name n (codes "logmarkhistory") then Some LogMarkHistory
    else None))

abbrev pub selected : Option Catalog → List Token → List Token → Parsed (ScriptItem × List Token)
selected None ts rest = stuck ts
selected (Some catalog) ts rest = Ok (SelectCatalog catalog, rest)

-- dbo . backupset and its like, behind msdb .
unfoldable pub history : List ℕ → List Token → Parsed (ScriptItem × List Token)
history src ts = do
  owner ← fixed src (codes "dbo") ts
  point ← sign 46 owner
  n ← name src point
  selected (history_of n.0) point n.1

-- rows of a table that begins with this name
unfoldable pub select_rows : List ℕ → List ℕ → List Token → Parsed (ScriptItem × List Token)
select_rows src n ts = do
  from ← owned src n ts
  key ← maybe_key src from.1
  Ok (Rows from.0 (Select key.0), key.1)

-- * FROM table WHERE k = n, or * FROM msdb . dbo . backupset and its like
unfoldable pub select_all : List ℕ → List Token → Parsed (ScriptItem × List Token)
select_all src ts = do
  from ← keyword src (codes "FROM") ts
  n ← name src from
  if same_name n.0 (codes "msdb") && next_sign n.1 46 then history src (drop 1 n.1) else select_rows src n.0 n.1

-- sys . databases
unfoldable pub system_view : List ℕ → List Token → Parsed (List Token)
system_view src ts = do
  owner ← fixed src (codes "sys") ts
  point ← sign 46 owner
  fixed src (codes "databases") point

-- name , state_desc FROM sys . databases
unfoldable pub select_databases : List ℕ → List Token → Parsed (ScriptItem × List Token)
select_databases src ts = do
  first ← fixed src (codes "name") ts
  comma ← sign 44 first
  second ← fixed src (codes "state_desc") comma
  from ← keyword src (codes "FROM") second
  rest ← system_view src from
  Ok (SelectCatalog Databases, rest)

-- SELECT, behind it: * .. or name ..
unfoldable pub select : List ℕ → List Token → Parsed (ScriptItem × List Token)
select src ts = if next_sign ts 42 then select_all src (drop 1 ts) else select_databases src ts

-- ROWS n , n
unfoldable pub rows : List ℕ → List Token → Parsed ((ℕ × ℕ) × List Token)
rows src ts = do
  words ← keyword src (codes "ROWS") ts
  first ← number words
  comma ← sign 44 first.1
  count ← number_in 1 18446744073709551615 comma
  Ok ((first.0, count.0), count.1)

-- BULK INSERT, behind BULK: INSERT table ROWS n , n , text
unfoldable pub bulk_insert : List ℕ → List Token → Parsed (ScriptItem × List Token)
bulk_insert src ts = do
  insert ← keyword src (codes "INSERT") ts
  into ← table src insert
  counted ← rows src into.1
  comma ← sign 44 counted.1
  value ← text src comma
  Ok (Rows into.0 (BulkInsert counted.0.0 counted.0.1 value.0), value.1)

-- whether the next token begins a statement on rows
abbrev pub begins_row_statement : List ℕ → List Token → Bool
begins_row_statement src ts =
    next_is src ts (codes "INSERT")
    || next_is src ts (codes "UPDATE")
    || next_is src ts (codes "DELETE")
    || next_is src ts (codes "SELECT")
    || next_is src ts (codes "BULK")

-- a statement on rows, by its first token
unfoldable pub row_statement : List ℕ → List Token → Parsed (ScriptItem × List Token)
row_statement src ts =
    if next_is src ts (codes "INSERT") then insert src (drop 1 ts)
    else (if next_is src ts (codes "UPDATE") then update src (drop 1 ts)
    else (if next_is src ts (codes "DELETE") then delete src (drop 1 ts)
    else (if next_is src ts (codes "SELECT") then select src (drop 1 ts)
    else (if next_is src ts (codes "BULK") then bulk_insert src (drop 1 ts)
    else stuck ts))))
