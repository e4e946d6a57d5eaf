-- A statement or a console line looks at most two tokens ahead, and takes at least one.
use Rattle.std.proofs.Common.{◌≡◌, ℕ, ◌≤◌, true, List, [], ◌∷◌, ◌++◌, length, drop, Ok, Err, arith, refl, subst}
use Rattle.std.specs.Prelude.{codes}
use Rattle.bk_token.specs.declared.token.Token.{Token}
use Rattle.bk_items.specs.declared.item.ScriptItem.{ScriptItem}
use Rattle.bk_items.specs.declared.item.ScriptItem.TheVariants.{Commit, Rollback, Checkpoint, Start, Wait}
use Rattle.bk_parse.specs.Parse.{Parsed, stuck, next_is, number_in}
use Rattle.bk_parse.specs.Ahead.{Agrees, LeavesEnd, behind_it}
use Rattle.bk_parse.specs.Laws.{done, stuck-ahead, and_then, if_next, behind_next, number_in-ahead}
use Rattle.bk_forms.specs.Creating.{create_database}
use Rattle.bk_forms.specs.Rows.{begins_row_statement, row_statement}
use Rattle.bk_forms.specs.Statements.{create_table, begin, skip_tran, use_database, alter, drop_database}
use Rattle.bk_forms.specs.CreatingLaws.{create_database-ahead}
use Rattle.bk_forms.specs.LeavesLaws.{Leaves, leaves_of, either}
use Rattle.bk_forms.specs.RowsLaws.{row_statement-ahead, row_statement-leaves}
use Rattle.bk_forms.specs.StatementsLaws.{create_table-ahead, begin-ahead, skip_tran-ahead, use_database-ahead, alter-ahead, drop_database-ahead}
use Rattle.bk_media_forms.specs.Media.{backup}
use Rattle.bk_media_forms.specs.Restore.{restore}
use Rattle.bk_media_forms.specs.BackupLaws.{backup-ahead}
use Rattle.bk_media_forms.specs.RestoreLaws.{restore-ahead}
use Rattle.bk_syntax.specs.Statement.{create, database_statement, transaction_statement, statement, console_line, next_colon, line_or_statement}

create-ahead : (src : List ℕ) (more ts : List Token) → Agrees behind_it more ts (create src ts) (create src (ts ++ more))
unfolding create
create-ahead src more ts =
    if_next ts (λ us. next_is src us (codes "DATABASE")) (λ t u us. refl) (behind_next ts (create_database src) (create_database-ahead src more))
    (if_next ts (λ us. next_is src us (codes "TABLE")) (λ t u us. refl) (behind_next ts (create_table src) (create_table-ahead src more)) (stuck-ahead behind_it more ts))

database_statement-ahead : (src : List ℕ) (more ts : List Token) → Agrees behind_it more ts (database_statement src ts) (database_statement src (ts ++ more))
unfolding database_statement
database_statement-ahead src more ts =
    if_next ts (λ us. next_is src us (codes "CREATE")) (λ t u us. refl) (behind_next ts (create src) (create-ahead src more))
    (if_next ts (λ us. next_is src us (codes "ALTER")) (λ t u us. refl) (behind_next ts (alter src) (alter-ahead src more))
    (if_next ts (λ us. next_is src us (codes "DROP")) (λ t u us. refl) (behind_next ts (drop_database src) (drop_database-ahead src more))
    (if_next ts (λ us. next_is src us (codes "USE")) (λ t u us. refl) (behind_next ts (use_database src) (use_database-ahead src more))
    (if_next ts (λ us. next_is src us (codes "BACKUP")) (λ t u us. refl) (behind_next ts (backup src) (backup-ahead src more))
    (if_next ts (λ us. next_is src us (codes "RESTORE")) (λ t u us. refl) (behind_next ts (restore src) (restore-ahead src more)) (stuck-ahead behind_it more ts))))))

transaction_statement-ahead : (src : List ℕ) (more ts : List Token) → Agrees behind_it more ts (transaction_statement src ts) (transaction_statement src (ts ++ more))
unfolding transaction_statement
transaction_statement-ahead src more ts =
    if_next ts (λ us. next_is src us (codes "BEGIN")) (λ t u us. refl) (behind_next ts (begin src) (begin-ahead src more))
    (if_next ts (λ us. next_is src us (codes "COMMIT")) (λ t u us. refl) (behind_next ts (λ us. Ok (Commit, skip_tran src us)) (skip_tran-ahead Commit src more))
    (if_next ts (λ us. next_is src us (codes "ROLLBACK")) (λ t u us. refl) (behind_next ts (λ us. Ok (Rollback, skip_tran src us)) (skip_tran-ahead Rollback src more))
    (if_next ts (λ us. next_is src us (codes "CHECKPOINT")) (λ t u us. refl) (behind_next ts (λ us. Ok (Checkpoint, us)) (λ us. done)) (database_statement-ahead src more ts))))

statement-ahead : (src : List ℕ) (more ts : List Token) → Agrees behind_it more ts (statement src ts) (statement src (ts ++ more))
unfolding statement
statement-ahead src more ts = if_next ts (λ us. begins_row_statement src us) (λ t u us. refl) (row_statement-ahead src more ts) (transaction_statement-ahead src more ts)

console_line-ahead : (src : List ℕ) (more ts : List Token) → Agrees behind_it more ts (console_line src ts) (console_line src (ts ++ more))
unfolding console_line
console_line-ahead src more ts =
    if_next ts (λ us. next_is src us (codes "SESSION")) (λ t u us. refl) (and_then _ _ (behind_next ts (number_in 1 32) (number_in-ahead 1 32 more)) (λ n h. done))
    (if_next ts (λ us. next_is src us (codes "STEP")) (λ t u us. refl) (and_then _ _ (behind_next ts (number_in 1 18446744073709551615) (number_in-ahead 1 18446744073709551615 more)) (λ n h. done))
    (if_next ts (λ us. next_is src us (codes "START")) (λ t u us. refl) (behind_next ts (λ us. Ok (Start, us)) (λ us. done))
    (if_next ts (λ us. next_is src us (codes "WAIT")) (λ t u us. refl) (behind_next ts (λ us. Ok (Wait, us)) (λ us. done)) (stuck-ahead behind_it more ts))))

pub line-ahead : (src : List ℕ) (more ts : List Token) → Agrees behind_it more ts (line_or_statement src ts) (line_or_statement src (ts ++ more))
unfolding line_or_statement
line-ahead src more ts = if_next ts next_colon (λ t u us. refl) (behind_next ts (console_line src) (console_line-ahead src more)) (statement-ahead src more ts)

-- behind its first keyword a statement leaves no more than stood there
database_statement-leaves : (src : List ℕ) (ts : List Token) → Leaves (length (drop 1 ts)) (database_statement src ts)
unfolding database_statement
database_statement-leaves src ts =
    either (length (drop 1 ts)) (next_is src ts (codes "CREATE")) (create src (drop 1 ts)) _ (leaves_of (create src (drop 1 ts)) (create-ahead src [] (drop 1 ts)))
    (either (length (drop 1 ts)) (next_is src ts (codes "ALTER")) (alter src (drop 1 ts)) _ (leaves_of (alter src (drop 1 ts)) (alter-ahead src [] (drop 1 ts)))
    (either (length (drop 1 ts)) (next_is src ts (codes "DROP")) (drop_database src (drop 1 ts)) _ (leaves_of (drop_database src (drop 1 ts)) (drop_database-ahead src [] (drop 1 ts)))
    (either (length (drop 1 ts)) (next_is src ts (codes "USE")) (use_database src (drop 1 ts)) _ (leaves_of (use_database src (drop 1 ts)) (use_database-ahead src [] (drop 1 ts)))
    (either (length (drop 1 ts)) (next_is src ts (codes "BACKUP")) (backup src (drop 1 ts)) _ (leaves_of (backup src (drop 1 ts)) (backup-ahead src [] (drop 1 ts)))
    (either (length (drop 1 ts)) (next_is src ts (codes "RESTORE")) (restore src (drop 1 ts)) (stuck ts) (leaves_of (restore src (drop 1 ts)) (restore-ahead src [] (drop 1 ts))) tt)))))

transaction_statement-leaves : (src : List ℕ) (ts : List Token) → Leaves (length (drop 1 ts)) (transaction_statement src ts)
unfolding transaction_statement
transaction_statement-leaves src ts =
    either (length (drop 1 ts)) (next_is src ts (codes "BEGIN")) (begin src (drop 1 ts)) _ (leaves_of (begin src (drop 1 ts)) (begin-ahead src [] (drop 1 ts)))
    (either (length (drop 1 ts)) (next_is src ts (codes "COMMIT")) (Ok (Commit, skip_tran src (drop 1 ts))) _ (leaves_of (Ok (Commit, skip_tran src (drop 1 ts))) (skip_tran-ahead Commit src [] (drop 1 ts)))
    (either (length (drop 1 ts)) (next_is src ts (codes "ROLLBACK")) (Ok (Rollback, skip_tran src (drop 1 ts))) _ (leaves_of (Ok (Rollback, skip_tran src (drop 1 ts))) (skip_tran-ahead Rollback src [] (drop 1 ts))) (either (length (drop 1 ts)) (next_is src ts (codes "CHECKPOINT")) (Ok (Checkpoint, drop 1 ts)) (database_statement src ts) (omega arith) (database_statement-leaves src ts))))

statement-leaves : (src : List ℕ) (ts : List Token) → Leaves (length (drop 1 ts)) (statement src ts)
unfolding statement
statement-leaves src ts = either (length (drop 1 ts)) (begins_row_statement src ts) (row_statement src ts) (transaction_statement src ts) (row_statement-leaves src ts) (transaction_statement-leaves src ts)

-- a statement or a console line takes at least a token
line-leaves : (src : List ℕ) (t : Token) (ts : List Token) → Leaves (length ts) (line_or_statement src (t ∷ ts))
unfolding line_or_statement
line-leaves src t ts = either (length ts) (next_colon (t ∷ ts)) (console_line src ts) (statement src (t ∷ ts)) (leaves_of (console_line src ts) (console_line-ahead src [] ts)) (statement-leaves src (t ∷ ts))

pub fewer_behind : (src : List ℕ) (t : Token) (ts : List Token) (item : ScriptItem) (rest : List Token) → line_or_statement src (t ∷ ts) ≡ Ok (item, rest) → length rest ≤ length ts
fewer_behind src t ts item rest e = let P : Parsed (ScriptItem × List Token) → Type 0 = Leaves (length ts) in subst P e (line-leaves src t ts)

-- where nothing can go on, at most so many tokens are left
left_within : {more ts : List Token} {q : Parsed (ScriptItem × List Token)} (p : Parsed (ScriptItem × List Token)) (left : ℕ) → Agrees behind_it more ts p q → p ≡ Err left → left ≤ length ts
left_within {more = more} {ts = ts} {q = q} p left a e = let P : Parsed (ScriptItem × List Token) → Type 0 = LeavesEnd behind_it ts in subst P e a.ends

pub left-le : (src : List ℕ) (ts : List Token) (left : ℕ) → line_or_statement src ts ≡ Err left → left ≤ length ts
left-le src ts left e = left_within (line_or_statement src ts) left (line-ahead src [] ts) e

-- a console line goes on behind its colon
pub console_left : (src : List ℕ) (t : Token) (ts : List Token) (left : ℕ) → next_colon (t ∷ ts) ≡ true → line_or_statement src (t ∷ ts) ≡ Err left → left ≤ length ts
unfolding line_or_statement
console_left src t ts left colon e = left_within (console_line src ts) left (console_line-ahead src [] ts) (rw colon at e)
