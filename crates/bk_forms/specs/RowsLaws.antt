-- The statements on rows look at most two tokens ahead, and take at least one.
use Rattle.std.proofs.Common.{ℕ, ◌&&◌, List, [], ◌∷◌, ◌++◌, length, drop, Option, Some, None, refl}
use Rattle.std.specs.Prelude.{codes}
use Rattle.bk_ids.specs.Name.{same_name}
use Rattle.bk_token.specs.declared.token.Token.{Token}
use Rattle.bk_items.specs.declared.item.Catalog.{Catalog}
use Rattle.bk_parse.specs.Parse.{◌>>=◌, stuck, next_is, next_sign, fixed, name}
use Rattle.bk_parse.specs.Ahead.{Agrees, behind_it, left_over}
use Rattle.bk_parse.specs.Laws.{done, stuck-ahead, and_then, if_next, behind_next, OneToken, taken, not_taken, one-ahead, one_then, at_end, name-one, keyword-ahead, skip-ahead, sign-ahead, number-ahead, number_in-ahead, name-ahead, fixed-ahead, text-ahead}
use Rattle.bk_forms.specs.LeavesLaws.{Leaves, leaves_of, either}
use Rattle.bk_forms.specs.Rows.{owned, table, column_names, row, insert, where_key, assignment, update, delete, maybe_key, history_of, selected, history, select_rows, select_all, system_view, select_databases, select, rows, bulk_insert, row_statement}

owned-ahead : (src found : List ℕ) (more ts : List Token) → Agrees behind_it more ts (owned src found ts) (owned src found (ts ++ more))
unfolding owned
owned-ahead src found more ts =
    if_next ts (λ us. same_name found (codes "dbo") && next_sign us 46) (λ t u us. refl) (behind_next ts (name src) (name-ahead src more)) done

pub table-ahead : (src : List ℕ) (more ts : List Token) → Agrees behind_it more ts (table src ts) (table src (ts ++ more))
unfolding table
table-ahead src more ts =
    and_then _ _ (name-ahead src more ts) (λ x h. owned-ahead src x.0 more x.1)

column_names-ahead : (src : List ℕ) (more ts : List Token) → Agrees left_over more ts (column_names src ts) (column_names src (ts ++ more))
unfolding column_names
column_names-ahead src more ts =
    if_next ts (λ us. next_sign us 40) (λ t u us. refl)
    (and_then _ _ (behind_next ts (fixed src (codes "k")) (fixed-ahead src (codes "k") more)) (λ a h.
    and_then _ _ (sign-ahead 44 more a) (λ b h.
    and_then _ _ (fixed-ahead src (codes "v") more b) (λ c h. sign-ahead 41 more c)))) done

row-ahead : (src : List ℕ) (more ts : List Token) → Agrees behind_it more ts (row src ts) (row src (ts ++ more))
unfolding row
row-ahead src more ts =
    and_then _ _ (sign-ahead 40 more ts) (λ a h.
    and_then _ _ (number-ahead more a) (λ b h.
    and_then _ _ (sign-ahead 44 more b.1) (λ c h.
    and_then _ _ (text-ahead src more c) (λ d h.
    and_then _ _ (sign-ahead 41 more d.1) (λ e h. done)))))

insert-ahead : (src : List ℕ) (more ts : List Token) → Agrees behind_it more ts (insert src ts) (insert src (ts ++ more))
unfolding insert
insert-ahead src more ts =
    and_then _ _ (skip-ahead src (codes "INTO") more ts (table src) (table-ahead src more)) (λ a h.
    and_then _ _ (column_names-ahead src more a.1) (λ b h.
    and_then _ _ (keyword-ahead src (codes "VALUES") more b) (λ c h.
    and_then _ _ (row-ahead src more c) (λ d h. done))))

where_key-ahead : (src : List ℕ) (more ts : List Token) → Agrees behind_it more ts (where_key src ts) (where_key src (ts ++ more))
unfolding where_key
where_key-ahead src more ts =
    and_then _ _ (keyword-ahead src (codes "WHERE") more ts) (λ a h.
    and_then _ _ (fixed-ahead src (codes "k") more a) (λ b h.
    and_then _ _ (sign-ahead 61 more b) (λ c h. number-ahead more c)))

assignment-ahead : (src : List ℕ) (more ts : List Token) → Agrees behind_it more ts (assignment src ts) (assignment src (ts ++ more))
unfolding assignment
assignment-ahead src more ts =
    and_then _ _ (fixed-ahead src (codes "v") more ts) (λ a h.
    and_then _ _ (sign-ahead 61 more a) (λ b h. text-ahead src more b))

update-ahead : (src : List ℕ) (more ts : List Token) → Agrees behind_it more ts (update src ts) (update src (ts ++ more))
unfolding update
update-ahead src more ts =
    and_then _ _ (table-ahead src more ts) (λ a h.
    and_then _ _ (keyword-ahead src (codes "SET") more a.1) (λ b h.
    and_then _ _ (assignment-ahead src more b) (λ c h.
    and_then _ _ (where_key-ahead src more c.1) (λ d h. done))))

delete-ahead : (src : List ℕ) (more ts : List Token) → Agrees behind_it more ts (delete src ts) (delete src (ts ++ more))
unfolding delete
delete-ahead src more ts =
    and_then _ _ (skip-ahead src (codes "FROM") more ts (table src) (table-ahead src more)) (λ a h.
    and_then _ _ (where_key-ahead src more a.1) (λ b h. done))

maybe_key-ahead : (src : List ℕ) (more ts : List Token) → Agrees behind_it more ts (maybe_key src ts) (maybe_key src (ts ++ more))
unfolding maybe_key
maybe_key-ahead src more ts =
    if_next ts (λ us. next_is src us (codes "WHERE")) (λ t u us. refl)
    (and_then _ _ (where_key-ahead src more ts) (λ a h. done)) done

selected-one : (found : Option Catalog) (more : List Token) (t : Token) (ts : List Token) → OneToken more t ts (selected found (t ∷ ts) ts) (selected found (t ∷ (ts ++ more)) (ts ++ more))
selected-one None more t ts = not_taken
selected-one (Some catalog) more t ts = taken _

history_name-ahead : (src : List ℕ) (more ts : List Token) →
    Agrees behind_it more ts (name src ts >>= λ n. selected (history_of n.0) ts n.1) (name src (ts ++ more) >>= λ n. selected (history_of n.0) (ts ++ more) n.1)
unfolding name
history_name-ahead src more [] = at_end
history_name-ahead src more (t ∷ ts) = one-ahead (one_then _ _ (name-one src more t ts) (λ n. selected-one (history_of n) more t ts))

history-ahead : (src : List ℕ) (more ts : List Token) → Agrees behind_it more ts (history src ts) (history src (ts ++ more))
unfolding history
history-ahead src more ts =
    and_then _ _ (fixed-ahead src (codes "dbo") more ts) (λ a h.
    and_then _ _ (sign-ahead 46 more a) (λ b h. history_name-ahead src more b))

select_rows-ahead : (src found : List ℕ) (more ts : List Token) → Agrees behind_it more ts (select_rows src found ts) (select_rows src found (ts ++ more))
unfolding select_rows
select_rows-ahead src found more ts =
    and_then _ _ (owned-ahead src found more ts) (λ a h.
    and_then _ _ (maybe_key-ahead src more a.1) (λ b h. done))

select_all-ahead : (src : List ℕ) (more ts : List Token) → Agrees behind_it more ts (select_all src ts) (select_all src (ts ++ more))
unfolding select_all
select_all-ahead src more ts =
    and_then _ _ (keyword-ahead src (codes "FROM") more ts) (λ a h.
    and_then _ _ (name-ahead src more a) (λ b h. if_next b.1 (λ us. same_name b.0 (codes "msdb") && next_sign us 46) (λ t u us. refl) (behind_next b.1 (history src) (history-ahead src more)) (select_rows-ahead src b.0 more b.1)))

system_view-ahead : (src : List ℕ) (more ts : List Token) → Agrees left_over more ts (system_view src ts) (system_view src (ts ++ more))
unfolding system_view
system_view-ahead src more ts =
    and_then _ _ (fixed-ahead src (codes "sys") more ts) (λ a h.
    and_then _ _ (sign-ahead 46 more a) (λ b h. fixed-ahead src (codes "databases") more b))

select_databases-ahead : (src : List ℕ) (more ts : List Token) → Agrees behind_it more ts (select_databases src ts) (select_databases src (ts ++ more))
unfolding select_databases
select_databases-ahead src more ts =
    and_then _ _ (fixed-ahead src (codes "name") more ts) (λ a h.
    and_then _ _ (sign-ahead 44 more a) (λ b h.
    and_then _ _ (fixed-ahead src (codes "state_desc") more b) (λ c h.
    and_then _ _ (keyword-ahead src (codes "FROM") more c) (λ d h.
    and_then _ _ (system_view-ahead src more d) (λ e h. done)))))

select-ahead : (src : List ℕ) (more ts : List Token) → Agrees behind_it more ts (select src ts) (select src (ts ++ more))
unfolding select
select-ahead src more ts =
    if_next ts (λ us. next_sign us 42) (λ t u us. refl) (behind_next ts (select_all src) (select_all-ahead src more)) (select_databases-ahead src more ts)

rows-ahead : (src : List ℕ) (more ts : List Token) → Agrees behind_it more ts (rows src ts) (rows src (ts ++ more))
unfolding rows
rows-ahead src more ts =
    and_then _ _ (keyword-ahead src (codes "ROWS") more ts) (λ a h.
    and_then _ _ (number-ahead more a) (λ b h.
    and_then _ _ (sign-ahead 44 more b.1) (λ c h.
    and_then _ _ (number_in-ahead 1 18446744073709551615 more c) (λ d h. done))))

bulk_insert-ahead : (src : List ℕ) (more ts : List Token) → Agrees behind_it more ts (bulk_insert src ts) (bulk_insert src (ts ++ more))
unfolding bulk_insert
bulk_insert-ahead src more ts =
    and_then _ _ (keyword-ahead src (codes "INSERT") more ts) (λ a h.
    and_then _ _ (table-ahead src more a) (λ b h.
    and_then _ _ (rows-ahead src more b.1) (λ c h.
    and_then _ _ (sign-ahead 44 more c.1) (λ d h.
    and_then _ _ (text-ahead src more d) (λ e h. done)))))

pub row_statement-ahead : (src : List ℕ) (more ts : List Token) → Agrees behind_it more ts (row_statement src ts) (row_statement src (ts ++ more))
unfolding row_statement
row_statement-ahead src more ts =
    if_next ts (λ us. next_is src us (codes "INSERT")) (λ t u us. refl) (behind_next ts (insert src) (insert-ahead src more))
    (if_next ts (λ us. next_is src us (codes "UPDATE")) (λ t u us. refl) (behind_next ts (update src) (update-ahead src more))
    (if_next ts (λ us. next_is src us (codes "DELETE")) (λ t u us. refl) (behind_next ts (delete src) (delete-ahead src more))
    (if_next ts (λ us. next_is src us (codes "SELECT")) (λ t u us. refl) (behind_next ts (select src) (select-ahead src more))
    (if_next ts (λ us. next_is src us (codes "BULK")) (λ t u us. refl) (behind_next ts (bulk_insert src) (bulk_insert-ahead src more)) (stuck-ahead behind_it more ts)))))

-- behind its first keyword it leaves no more than stood there
pub row_statement-leaves : (src : List ℕ) (ts : List Token) → Leaves (length (drop 1 ts)) (row_statement src ts)
unfolding row_statement
row_statement-leaves src ts =
    either (length (drop 1 ts)) (next_is src ts (codes "INSERT")) (insert src (drop 1 ts)) _ (leaves_of (insert src (drop 1 ts)) (insert-ahead src [] (drop 1 ts)))
    (either (length (drop 1 ts)) (next_is src ts (codes "UPDATE")) (update src (drop 1 ts)) _ (leaves_of (update src (drop 1 ts)) (update-ahead src [] (drop 1 ts)))
    (either (length (drop 1 ts)) (next_is src ts (codes "DELETE")) (delete src (drop 1 ts)) _ (leaves_of (delete src (drop 1 ts)) (delete-ahead src [] (drop 1 ts)))
    (either (length (drop 1 ts)) (next_is src ts (codes "SELECT")) (select src (drop 1 ts)) _ (leaves_of (select src (drop 1 ts)) (select-ahead src [] (drop 1 ts)))
    (either (length (drop 1 ts)) (next_is src ts (codes "BULK")) (bulk_insert src (drop 1 ts)) (stuck ts) (leaves_of (bulk_insert src (drop 1 ts)) (bulk_insert-ahead src [] (drop 1 ts))) tt))))
