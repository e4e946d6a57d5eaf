-- What statements say: the log records of each, in their order.
-- SQL Server: "Transaction Log Architecture and Management Guide"; COMMIT, ROLLBACK, CHECKPOINT (Transact-SQL).
use Rattle.std.specs.Prelude.{ℕ, List, [], ◌∷◌, ◌++◌, map, reverse, Option, None}
use Rattle.bk_ids.specs.declared.record.Mark.{Mark}
use Rattle.bk_ids.specs.declared.record.Place.{Place}
use Rattle.bk_world.specs.Entry.{RowChange}
use Rattle.bk_world.specs.Records.{Deed, Load, Said, begun, written, committed, rolled_back, undone, loaded}
use Rattle.bk_world.specs.Pending.{Pending, of_transaction}

-- one record of no transaction
abbrev pub alone : Deed → List Said
alone deed = (record { begin = 0; deed = deed }) ∷ []

-- one record of the transaction whose first record is this
abbrev pub within : ℕ → Deed → List Said
within begin deed = (record { begin = begin; deed = deed }) ∷ []

-- a transaction begins with its first record at n
abbrev pub begin_said : ℕ → List Said
begin_said n = within n begun

abbrev pub write_said : ℕ → Place → Option (List ℕ) → RowChange → List Said
write_said begin at before c = within begin (written at before c)

abbrev pub commit_said : ℕ → ℕ → Option Mark → List Said
commit_said begin time mark = within begin (committed time mark)

-- a row is written by a transaction of its own
abbrev pub single_said : ℕ → Place → Option (List ℕ) → RowChange → ℕ → List Said
single_said n at before c time = begin_said n ++ write_said n at before c ++ commit_said n time None

-- rows are loaded minimally, by a transaction of their own
abbrev pub load_said : ℕ → Load → ℕ → List Said
load_said n load time = begin_said n ++ within n (loaded load) ++ commit_said n time None

-- a row as it was before a write
abbrev pub change_back : Pending → RowChange
change_back w = record { table = w.change.table; key = w.change.key; value = w.before }

-- some writes are undone, in this order
abbrev pub undoing : List Pending → List Said
undoing ws = map (λ (w : Pending). record { begin = w.begin; deed = undone w.place (change_back w) w.lsn }) ws

-- a transaction is rolled back, its last write first
abbrev pub rollback_said : ℕ → List Pending → List Said
rollback_said begin ws = undoing (reverse (of_transaction begin ws)) ++ within begin rolled_back

-- all that is pending is undone, the last write first
abbrev pub settle_said : List Pending → List Said
settle_said ws = undoing (reverse ws)
