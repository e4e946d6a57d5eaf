-- The statements on tables and transactions, and those on databases but CREATE DATABASE, behind their first keyword.
use Rattle.std.specs.Prelude.{ℕ, Bool, ◌||◌, if◌then◌else◌, List, drop, codes, Option, Some, None, Ok}
use Rattle.bk_ids.specs.declared.record.RecoveryModel.{RecoveryModel}
use Rattle.bk_ids.specs.declared.record.RecoveryModel.TheVariants.{Full, Simple, BulkLogged}
use Rattle.bk_token.specs.declared.token.Token.{Token}
use Rattle.bk_items.specs.declared.item.Marking.{Marking}
use Rattle.bk_items.specs.declared.item.Marking.TheVariants.{Unmarked, Marked, Described}
use Rattle.bk_items.specs.declared.item.ScriptItem.{ScriptItem}
use Rattle.bk_items.specs.declared.item.ScriptItem.TheVariants.{CreateTable, Begin, Use, SetRecovery, DropDatabase}
use Rattle.bk_parse.specs.Parse.{Parsed, ◌>>=◌, stuck, next_is, keyword, sign, number_in, name, fixed, text}
use Rattle.bk_forms.specs.Rows.{table}

-- NOT NULL, or nothing
unfoldable pub not_null : List ℕ → List Token → Parsed (List Token)
not_null src ts = if next_is src ts (codes "NOT") then keyword src (codes "NULL") (drop 1 ts) else Ok ts

-- k BIGINT NOT NULL PRIMARY KEY
unfoldable pub key_column : List ℕ → List Token → Parsed (List Token)
key_column src ts = do
  column ← fixed src (codes "k") ts
  bigint ← keyword src (codes "BIGINT") column
  filled ← not_null src bigint
  primary ← keyword src (codes "PRIMARY") filled
  keyword src (codes "KEY") primary

-- v VARCHAR ( 112 ) NOT NULL
unfoldable pub value_column : List ℕ → List Token → Parsed (List Token)
value_column src ts = do
  column ← fixed src (codes "v") ts
  varchar ← keyword src (codes "VARCHAR") column
  opened ← sign 40 varchar
  bytes ← number_in 112 112 opened
  closed ← sign 41 bytes.1
  not_null src closed

-- ( k .. , v .. )
unfoldable pub columns : List ℕ → List Token → Parsed (List Token)
columns src ts = do
  opened ← sign 40 ts
  first ← key_column src opened
  comma ← sign 44 first
  second ← value_column src comma
  sign 41 second

-- ON name, or nothing
unfoldable pub on_group : List ℕ → List Token → Parsed (Option (List ℕ) × List Token)
on_group src ts =
    if next_is src ts (codes "ON") then (do
      n ← name src (drop 1 ts)
      Ok (Some n.0, n.1))
    else Ok (None, ts)

-- table ( columns ) ON name
unfoldable pub create_table : List ℕ → List Token → Parsed (ScriptItem × List Token)
create_table src ts = do
  made ← table src ts
  rest ← columns src made.1
  group ← on_group src rest
  Ok (CreateTable made.0 group.0, group.1)

-- whether the next token is TRAN or TRANSACTION
abbrev pub next_tran : List ℕ → List Token → Bool
next_tran src ts = next_is src ts (codes "TRAN") || next_is src ts (codes "TRANSACTION")

abbrev pub described : Parsed (List ℕ × List Token) → List Token → Marking × List Token
described (Ok t) ts = (Described t.0, t.1)
described _ ts = (Marked, ts)

-- WITH MARK text, WITH MARK, or nothing
unfoldable pub marking : List ℕ → List Token → Parsed (Marking × List Token)
marking src ts =
    if next_is src ts (codes "WITH") then (do
      mark ← keyword src (codes "MARK") (drop 1 ts)
      Ok (described (text src mark) mark))
    else Ok (Unmarked, ts)

abbrev pub transaction_by : List ℕ → Parsed (List ℕ × List Token) → List Token → Parsed (ScriptItem × List Token)
transaction_by src (Ok n) ts = do
  m ← marking src n.1
  Ok (Begin (Some (record { name = n.0; marking = m.0 })), m.1)
transaction_by src _ ts = Ok (Begin None, ts)

-- TRAN name WITH MARK text, or less of it
unfoldable pub begin : List ℕ → List Token → Parsed (ScriptItem × List Token)
begin src ts = if next_tran src ts then transaction_by src (name src (drop 1 ts)) (drop 1 ts) else stuck ts

-- the tokens behind TRAN or TRANSACTION, if it is there
abbrev pub skip_tran : List ℕ → List Token → List Token
skip_tran src ts = if next_tran src ts then drop 1 ts else ts

-- .. name
unfoldable pub use_database : List ℕ → List Token → Parsed (ScriptItem × List Token)
use_database src ts = do
  n ← name src ts
  Ok (Use n.0, n.1)

abbrev pub model_by : List ℕ → List Token → Parsed (RecoveryModel × List Token)
model_by src ts =
    if next_is src ts (codes "FULL") then Ok (Full, drop 1 ts)
    else (if next_is src ts (codes "SIMPLE") then Ok (Simple, drop 1 ts)
    else (if next_is src ts (codes "BULK_LOGGED") then Ok (BulkLogged, drop 1 ts)
    else stuck ts))

-- DATABASE name SET RECOVERY model
unfoldable pub alter : List ℕ → List Token → Parsed (ScriptItem × List Token)
alter src ts = do
  database ← keyword src (codes "DATABASE") ts
  n ← name src database
  changed ← keyword src (codes "SET") n.1
  recovery ← keyword src (codes "RECOVERY") changed
  model ← model_by src recovery
  Ok (SetRecovery n.0 model.0, model.1)

-- DATABASE name
unfoldable pub drop_database : List ℕ → List Token → Parsed (ScriptItem × List Token)
drop_database src ts = do
  database ← keyword src (codes "DATABASE") ts
  n ← name src database
  Ok (DropDatabase n.0, n.1)
