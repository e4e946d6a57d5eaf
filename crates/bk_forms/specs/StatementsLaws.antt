-- The statements on tables and transactions, and those on databases but CREATE DATABASE, look at most two tokens ahead.
use Rattle.std.proofs.Common.{ℕ, List, [], ◌∷◌, ◌++◌, Ok, arith, refl}
use Rattle.std.specs.Prelude.{codes}
use Rattle.bk_ids.specs.declared.record.RecoveryModel.TheVariants.{Full, Simple, BulkLogged}
use Rattle.bk_token.specs.declared.token.Token.{Token}
use Rattle.bk_parse.specs.Parse.{Parsed, next_is, keyword, name, text}
use Rattle.bk_parse.specs.Ahead.{Agrees, behind_it, left_over}
use Rattle.bk_parse.specs.Laws.{quiet, later, done, stuck-ahead, and_then, if_next, behind_next, skip_if, OneToken, taken, not_taken, name-one, text-one, keyword-ahead, sign-ahead, number_in-ahead, name-ahead, fixed-ahead}
use Rattle.bk_forms.specs.RowsLaws.{table-ahead}
use Rattle.bk_forms.specs.Statements.{not_null, key_column, value_column, columns, on_group, create_table, next_tran, described, marking, transaction_by, begin, skip_tran, use_database, model_by, alter, drop_database}

not_null-ahead : (src : List ℕ) (more ts : List Token) → Agrees left_over more ts (not_null src ts) (not_null src (ts ++ more))
unfolding not_null
not_null-ahead src more ts =
    if_next ts (λ us. next_is src us (codes "NOT")) (λ t u us. refl) (behind_next ts (keyword src (codes "NULL")) (keyword-ahead src (codes "NULL") more)) done

key_column-ahead : (src : List ℕ) (more ts : List Token) → Agrees left_over more ts (key_column src ts) (key_column src (ts ++ more))
unfolding key_column
key_column-ahead src more ts =
    and_then _ _ (fixed-ahead src (codes "k") more ts) (λ a h.
    and_then _ _ (keyword-ahead src (codes "BIGINT") more a) (λ b h.
    and_then _ _ (not_null-ahead src more b) (λ c h.
    and_then _ _ (keyword-ahead src (codes "PRIMARY") more c) (λ d h. keyword-ahead src (codes "KEY") more d))))

value_column-ahead : (src : List ℕ) (more ts : List Token) → Agrees left_over more ts (value_column src ts) (value_column src (ts ++ more))
unfolding value_column
value_column-ahead src more ts =
    and_then _ _ (fixed-ahead src (codes "v") more ts) (λ a h.
    and_then _ _ (keyword-ahead src (codes "VARCHAR") more a) (λ b h.
    and_then _ _ (sign-ahead 40 more b) (λ c h.
    and_then _ _ (number_in-ahead 112 112 more c) (λ d h.
    and_then _ _ (sign-ahead 41 more d.1) (λ e h. not_null-ahead src more e)))))

columns-ahead : (src : List ℕ) (more ts : List Token) → Agrees left_over more ts (columns src ts) (columns src (ts ++ more))
unfolding columns
columns-ahead src more ts =
    and_then _ _ (sign-ahead 40 more ts) (λ a h.
    and_then _ _ (key_column-ahead src more a) (λ b h.
    and_then _ _ (sign-ahead 44 more b) (λ c h.
    and_then _ _ (value_column-ahead src more c) (λ d h. sign-ahead 41 more d))))

on_group-ahead : (src : List ℕ) (more ts : List Token) → Agrees behind_it more ts (on_group src ts) (on_group src (ts ++ more))
unfolding on_group
on_group-ahead src more ts =
    if_next ts (λ us. next_is src us (codes "ON")) (λ t u us. refl)
    (and_then _ _ (behind_next ts (name src) (name-ahead src more)) (λ x h. done)) done

pub create_table-ahead : (src : List ℕ) (more ts : List Token) → Agrees behind_it more ts (create_table src ts) (create_table src (ts ++ more))
unfolding create_table
create_table-ahead src more ts =
    and_then _ _ (table-ahead src more ts) (λ a h.
    and_then _ _ (columns-ahead src more a.1) (λ b h.
    and_then _ _ (on_group-ahead src more b) (λ c h. done)))

described-ahead : (more : List Token) (t : Token) (ts : List Token) {p q : Parsed (List ℕ × List Token)} → OneToken more t ts p q →
    Agrees behind_it more (t ∷ ts) (Ok (described p (t ∷ ts))) (Ok (described q (t ∷ (ts ++ more))))
described-ahead more t ts (taken x) = later done
described-ahead more t ts not_taken = done

description-ahead : (src : List ℕ) (more ts : List Token) → Agrees behind_it more ts (Ok (described (text src ts) ts)) (Ok (described (text src (ts ++ more)) (ts ++ more)))
unfolding text
description-ahead src more [] = quiet (omega arith) done
description-ahead src more (t ∷ ts) = described-ahead more t ts (text-one src more t ts)

marking-ahead : (src : List ℕ) (more ts : List Token) → Agrees behind_it more ts (marking src ts) (marking src (ts ++ more))
unfolding marking
marking-ahead src more ts =
    if_next ts (λ us. next_is src us (codes "WITH")) (λ t u us. refl)
    (and_then _ _ (behind_next ts (keyword src (codes "MARK")) (keyword-ahead src (codes "MARK") more)) (λ a h. description-ahead src more a)) done

transaction_by-ahead : (src : List ℕ) (more : List Token) (t : Token) (ts : List Token) {p q : Parsed (List ℕ × List Token)} → OneToken more t ts p q →
    Agrees behind_it more (t ∷ ts) (transaction_by src p (t ∷ ts)) (transaction_by src q (t ∷ (ts ++ more)))
transaction_by-ahead src more t ts (taken x) = later (and_then _ _ (marking-ahead src more ts) (λ a h. done))
transaction_by-ahead src more t ts not_taken = done

transaction-ahead : (src : List ℕ) (more ts : List Token) → Agrees behind_it more ts (transaction_by src (name src ts) ts) (transaction_by src (name src (ts ++ more)) (ts ++ more))
unfolding name
transaction-ahead src more [] = quiet (omega arith) done
transaction-ahead src more (t ∷ ts) = transaction_by-ahead src more t ts (name-one src more t ts)

pub begin-ahead : (src : List ℕ) (more ts : List Token) → Agrees behind_it more ts (begin src ts) (begin src (ts ++ more))
unfolding begin
begin-ahead src more ts =
    if_next ts (λ us. next_tran src us) (λ t u us. refl)
    (behind_next ts (λ us. transaction_by src (name src us) us) (transaction-ahead src more)) (stuck-ahead behind_it more ts)

-- an item, and TRAN or TRANSACTION, if it is there
pub skip_tran-ahead : {A : Type 0} (x : A) (src : List ℕ) (more ts : List Token) → Agrees behind_it more ts (Ok (x, skip_tran src ts)) (Ok (x, skip_tran src (ts ++ more)))
skip_tran-ahead x src more ts = skip_if ts (λ us. next_tran src us) (λ us. Ok (x, us)) (λ t u us. refl) (λ us. done)

pub use_database-ahead : (src : List ℕ) (more ts : List Token) → Agrees behind_it more ts (use_database src ts) (use_database src (ts ++ more))
unfolding use_database
use_database-ahead src more ts =
    and_then _ _ (name-ahead src more ts) (λ a h. done)

model_by-ahead : (src : List ℕ) (more ts : List Token) → Agrees behind_it more ts (model_by src ts) (model_by src (ts ++ more))
model_by-ahead src more ts =
    if_next ts (λ us. next_is src us (codes "FULL")) (λ t u us. refl) (behind_next ts (λ us. Ok (Full, us)) (λ us. done))
    (if_next ts (λ us. next_is src us (codes "SIMPLE")) (λ t u us. refl) (behind_next ts (λ us. Ok (Simple, us)) (λ us. done))
    (if_next ts (λ us. next_is src us (codes "BULK_LOGGED")) (λ t u us. refl) (behind_next ts (λ us. Ok (BulkLogged, us)) (λ us. done)) (stuck-ahead behind_it more ts)))

pub alter-ahead : (src : List ℕ) (more ts : List Token) → Agrees behind_it more ts (alter src ts) (alter src (ts ++ more))
unfolding alter
alter-ahead src more ts =
    and_then _ _ (keyword-ahead src (codes "DATABASE") more ts) (λ a h.
    and_then _ _ (name-ahead src more a) (λ b h.
    and_then _ _ (keyword-ahead src (codes "SET") more b.1) (λ c h.
    and_then _ _ (keyword-ahead src (codes "RECOVERY") more c) (λ d h.
    and_then _ _ (model_by-ahead src more d) (λ e h. done)))))

pub drop_database-ahead : (src : List ℕ) (more ts : List Token) → Agrees behind_it more ts (drop_database src ts) (drop_database src (ts ++ more))
unfolding drop_database
drop_database-ahead src more ts =
    and_then _ _ (keyword-ahead src (codes "DATABASE") more ts) (λ a h.
    and_then _ _ (name-ahead src more a) (λ b h. done))
