-- A statement or a console line, by its first token.
use Rattle.std.specs.Prelude.{ℕ, Bool, true, false, if◌then◌else◌, List, [], ◌∷◌, drop, codes, Ok}
use Rattle.bk_token.specs.declared.token.Kind.{Kind}
use Rattle.bk_token.specs.declared.token.Kind.TheVariants.{Colon}
use Rattle.bk_token.specs.declared.token.Token.{Token}
use Rattle.bk_items.specs.declared.item.ScriptItem.{ScriptItem}
use Rattle.bk_items.specs.declared.item.ScriptItem.TheVariants.{Commit, Rollback, Checkpoint, Session, Start, Step, Wait}
use Rattle.bk_forms.specs.Creating.{create_database}
use Rattle.bk_forms.specs.Rows.{begins_row_statement, row_statement}
use Rattle.bk_forms.specs.Statements.{create_table, begin, skip_tran, use_database, alter, drop_database}
use Rattle.bk_media_forms.specs.Media.{backup}
use Rattle.bk_media_forms.specs.Restore.{restore}
use Rattle.bk_parse.specs.Parse.{Parsed, ◌>>=◌, stuck, next_is, number_in}

-- DATABASE .. | TABLE ..
unfoldable pub create : List ℕ → List Token → Parsed (ScriptItem × List Token)
create src ts =
    if next_is src ts (codes "DATABASE") then create_database src (drop 1 ts)
    else (if next_is src ts (codes "TABLE") then create_table src (drop 1 ts)
    else stuck ts)

-- a statement on databases or media
unfoldable pub database_statement : List ℕ → List Token → Parsed (ScriptItem × List Token)
database_statement src ts =
    if next_is src ts (codes "CREATE") then create src (drop 1 ts)
    else (if next_is src ts (codes "ALTER") then alter src (drop 1 ts)
    else (if next_is src ts (codes "DROP") then drop_database src (drop 1 ts)
    else (if next_is src ts (codes "USE") then use_database src (drop 1 ts)
    else (if next_is src ts (codes "BACKUP") then backup src (drop 1 ts)
    else (if next_is src ts (codes "RESTORE") then restore src (drop 1 ts)
    else stuck ts)))))

-- a statement on transactions, or on databases or media
unfoldable pub transaction_statement : List ℕ → List Token → Parsed (ScriptItem × List Token)
transaction_statement src ts =
    if next_is src ts (codes "BEGIN") then begin src (drop 1 ts)
    else (if next_is src ts (codes "COMMIT") then Ok (Commit, skip_tran src (drop 1 ts))
    else (if next_is src ts (codes "ROLLBACK") then Ok (Rollback, skip_tran src (drop 1 ts))
    else (if next_is src ts (codes "CHECKPOINT") then Ok (Checkpoint, drop 1 ts)
    else database_statement src ts)))

-- a statement, on rows or on others
unfoldable pub statement : List ℕ → List Token → Parsed (ScriptItem × List Token)
statement src ts = if begins_row_statement src ts then row_statement src ts else transaction_statement src ts

-- the words of a console line, behind its colon
unfoldable pub console_line : List ℕ → List Token → Parsed (ScriptItem × List Token)
console_line src ts =
    if next_is src ts (codes "SESSION") then (do
      n ← number_in 1 32 (drop 1 ts)
      Ok (Session n.0, n.1))
    else (if next_is src ts (codes "STEP") then (do
      n ← number_in 1 18446744073709551615 (drop 1 ts)
      Ok (Step n.0, n.1))
    else (if next_is src ts (codes "START") then Ok (Start, drop 1 ts)
    else (if next_is src ts (codes "WAIT") then Ok (Wait, drop 1 ts)
    else stuck ts)))

abbrev pub is_colon : Kind → Bool
is_colon Colon = true
is_colon _ = false

-- whether the next token is the colon of a console line
abbrev pub next_colon : List Token → Bool
next_colon [] = false
next_colon (t ∷ ts) = is_colon t.kind

-- a statement, or a console line
unfoldable pub line_or_statement : List ℕ → List Token → Parsed (ScriptItem × List Token)
line_or_statement src ts = if next_colon ts then console_line src (drop 1 ts) else statement src ts
