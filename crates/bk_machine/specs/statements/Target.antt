-- What the row statements share: the table that they are about, the limits of a row, its lock, the room of its group, and one row that is written.
use Rattle.std.specs.Prelude.{◌≡◌, ◌⊎◌, ℕ, ◌==◌, Bool, not, nat_le, nat_lt, ◌&&◌, List, [], ◌∷◌, length, Option, Some, None, Ok, Err, slice_get}
use Rattle.std.specs.List.{find, list_any}
use Rattle.bk_ids.specs.declared.record.Place.{Place}
use Rattle.bk_world.specs.declared.database.TableSpec.{TableSpec}
use Rattle.bk_world.specs.declared.reply.Reply.TheVariants.{Counted}
use Rattle.bk_world.specs.declared.rule.Limit.TheVariants.{Key, Writes}
use Rattle.bk_world.specs.declared.rule.Rule.TheVariants.{DuplicateKey, GroupFull, NoSuchDatabase, NoSuchTable, ValueTooLong, Locked, LimitReached}
use Rattle.bk_world.specs.Entry.{RowChange}
use Rattle.bk_world.specs.Pending.{of_transaction, pending}
use Rattle.bk_world.specs.Places.{place_of, IsFreePlace, IsCellOf}
use Rattle.bk_world.specs.Records.{Logged, RowId, Said, id_of, is_row}
use Rattle.bk_world.specs.Says.{single_said, write_said}
use Rattle.bk_world.specs.Telling.{row_at}
use Rattle.bk_machine.specs.Acts.{logged, said_time}
use Rattle.bk_machine.specs.Checks.{Checked, ◌>>=◌, refuse_if, or_refuse, online, limit, used_up, table_named}
use Rattle.bk_machine.specs.Outcome.{Outcome, answered, in_one}
use Rattle.bk_machine.specs.Room.{is_full}
use Rattle.bk_machine.specs.Seen.{tables_in, visible, has_key}
use Rattle.bk_world.specs.declared.transaction.Open.{Open}
use Rattle.bk_machine.specs.World.{World, Database, current_database, log_of, most_writes, transaction_of}

-- the greatest key, and how many bytes a value has at most
abbrev pub greatest_key : ℕ
greatest_key = 9223372036854775807

abbrev pub most_value_bytes : ℕ
most_value_bytes = 112

-- a table of a database
pub record Target : Type 0 where
  pub database : Database
  pub table : TableSpec

-- the table of this name in the current database, which is online
unfoldable pub check_table : World → List ℕ → Checked Target
check_table w table = do
  current ← or_refuse (current_database w) NoSuchDatabase
  db ← online current
  t ← or_refuse (table_named (tables_in w db) table) NoSuchTable
  Ok (record { database = db; table = t })

-- a value that a row may have
abbrev pub check_value : List ℕ → Checked (Unit {0})
check_value value = refuse_if (nat_lt most_value_bytes (length value)) (ValueTooLong (length value))

-- a key that a row may have
abbrev pub check_key : ℕ → Checked (Unit {0})
check_key key = refuse_if (nat_lt greatest_key key) (LimitReached Key)

-- the rows of a table that the session sees have this key
abbrev pub sees_key : World → Target → ℕ → Bool
sees_key w to key = has_key (visible w to.database to.table) key

-- Locks. SQL Server: "Transaction Locking and Row Versioning Guide". That a conflict is refused at once is this project's own.

-- a transaction has written a row
abbrev pub holds_row : List Logged → RowId → Open → Bool
holds_row rs id t = list_any (λ w. is_row (id_of w.change) id) (of_transaction t.begin (pending rs))

-- the open transaction of another session that has written a row
unfoldable pub holder : World → Database → RowId → Option Open
holder w db id = find (λ (t : Open). not (t.session == w.session) && holds_row (log_of w.history db) id t) db.transactions

abbrev pub unlocked_by : Option Open → Checked (Unit {0})
unlocked_by None = Ok tt
unlocked_by (Some t) = Err (Locked t.session)

-- refused where such a transaction has written the row
abbrev pub check_lock : World → Target → ℕ → Checked (Unit {0})
check_lock w to key = unlocked_by (holder w to.database (to.table.number, key))

-- the open transaction of the current session in a database
abbrev pub own_open : World → Database → Option Open
own_open w db = transaction_of db.transactions w.session

-- how many writes it has
abbrev pub writes_of : List Logged → Option Open → ℕ
writes_of rs None = 0
writes_of rs (Some t) = length (of_transaction t.begin (pending rs))

-- it has as many as it may
abbrev pub has_all_writes : World → Target → Bool
has_all_writes w to = nat_le most_writes (writes_of (log_of w.history to.database) (own_open w to.database))

-- Room.

-- a row of this key more doesn't fit into the group of its table
abbrev pub is_full_for : World → Target → ℕ → Bool
is_full_for w to key = is_full (log_of w.history to.database) to.database.files to.table.group ((to.table.number, key) ∷ [])

-- the name of a group
abbrev pub name_or_none : Option (List ℕ) → List ℕ
name_or_none None = []
name_or_none (Some name) = name

abbrev pub group_name : Database → ℕ → List ℕ
group_name db group = name_or_none (slice_get db.groups group)

-- what a row of a table becomes
abbrev pub row_set : Target → ℕ → Option (List ℕ) → RowChange
row_set to key value = record { table = to.table.number; key = key; value = value }

-- one record, in the session's transaction; or three records, in a transaction of their own: its begin, the write of one row, and its commit
abbrev pub row_said : Option Open → ℕ → Place → Option (List ℕ) → RowChange → ℕ → List Said
row_said None end at before c time = single_said end at before c time
row_said (Some t) end at before c time = write_said t.begin at before c

abbrev pub writes_row : World → Target → Place → Option (List ℕ) → ℕ → Option (List ℕ) → ℕ → Outcome
writes_row w to at before key value now =
    in_one (logged to.database.name (row_said (own_open w to.database) to.database.end at before (row_set to key value) (said_time w to.database now)) to.database.transactions) (Counted 1)

-- A row may get a place: its own, or, where it has none, a free cell of its table's group.
pub record MayPlace (w : World) (to : Target) (id : RowId) (at : Place) : Type 0 where
  pub place : (place_of (log_of w.history to.database) id ≡ Some at) ⊎ ((place_of (log_of w.history to.database) id ≡ None) × IsFreePlace (log_of w.history to.database) at)
  pub cell : IsCellOf to.database.files to.table.group at

-- what is checked of a row that is new, behind the checks of its table and its value
abbrev pub check_new : World → Target → ℕ → Checked Target
check_new w to key = do
  _ ← check_lock w to key
  _ ← refuse_if (sees_key w to key) (DuplicateKey key)
  _ ← check_key key
  _ ← refuse_if (has_all_writes w to) (LimitReached Writes)
  _ ← limit (used_up to.database.end)
  _ ← refuse_if (is_full_for w to key) (GroupFull (group_name to.database to.table.group))
  Ok to

-- A row that is seen is written, which takes numbers. One that isn't is left, whatever its transaction and the numbers are; its group is never full, either.
abbrev pub check_write : World → Target → ℕ → Checked Target
check_write w to key = do
  _ ← check_lock w to key
  _ ← check_key key
  _ ← refuse_if (sees_key w to key && has_all_writes w to) (LimitReached Writes)
  _ ← limit (sees_key w to key && used_up to.database.end)
  Ok to

-- a row that is seen with this value becomes another at its own place, or is gone from there
abbrev pub DoesChange : World → ℕ → Option (List ℕ) → ℕ → Target → Option (List ℕ) → Outcome → Type 0
DoesChange w key value now to None outcome = outcome ≡ answered (Counted 0)
DoesChange w key value now to (Some before) outcome =
    (at : Place) × MayPlace w to (to.table.number, key) at × (outcome ≡ writes_row w to at (Some before) key value now)

abbrev pub DoesWrite : World → ℕ → Option (List ℕ) → ℕ → Target → Outcome → Type 0
DoesWrite w key value now to outcome = DoesChange w key value now to (row_at (visible w to.database to.table) key) outcome
