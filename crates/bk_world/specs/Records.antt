-- Log records as the machine speaks of them: rows and values, no bytes.
-- SQL Server: "Transaction Log Architecture and Management Guide".
use Rattle.std.specs.Prelude.{◌≡◌, ℕ, ◌+◌, ◌==◌, ◌&&◌, Bool, List, [], ◌∷◌, ◌++◌, Option}
use Rattle.bk_ids.specs.declared.guid.Guid.{Guid}
use Rattle.bk_ids.specs.declared.record.ExtentId.{ExtentId}
use Rattle.bk_ids.specs.declared.record.Mark.{Mark}
use Rattle.bk_ids.specs.declared.record.Place.{Place}
use Rattle.bk_ids.specs.declared.record.RecoveryModel.{RecoveryModel}
use Rattle.bk_world.specs.declared.database.TableSpec.{TableSpec}
use Rattle.bk_world.specs.Entry.{RowChange}

-- a minimal bulk load: rows with rising keys from the first one on, all with one value, in the cells of these extents
pub record Load : Type 0 where
  pub table : ℕ
  pub first : ℕ
  pub count : ℕ
  pub value : List ℕ
  pub extents : List ExtentId

-- What a log record says. Times are milliseconds since 1970-01-01 00:00:00 UTC.
pub data Deed : Type 0 where
  -- a database was made: the time, the family, the first branch
  database_made : ℕ → Guid → Guid → Deed
  table_made : ℕ → TableSpec → Deed
  -- a transaction began
  begun : Deed
  -- it wrote a row: the cell's place, the value there before, the change
  written : Place → Option (List ℕ) → RowChange → Deed
  committed : ℕ → Option Mark → Deed
  -- it was rolled back, and all its writes are undone
  rolled_back : Deed
  -- a write of it was undone: the cell's place, the row's change back, the number of that write
  undone : Place → RowChange → ℕ → Deed
  checkpointed : ℕ → Deed
  -- a backup set was finished
  stamped : ℕ → Guid → Deed
  model_set : ℕ → RecoveryModel → Deed
  loaded : Load → Deed
  -- the database was recovered, and this branch began
  recovered : Guid → Deed

-- what is said, under the number of its transaction's first record, 0 where it is of none
pub record Said : Type 0 where
  pub begin : ℕ
  pub deed : Deed

-- a log record: what was said, under its own number
pub record Logged : Type 0 where
  pub lsn : ℕ
  pub begin : ℕ
  pub deed : Deed

-- what is said, under the numbers from n on
abbrev pub numbered : ℕ → List Said → List Logged
numbered n [] = []
numbered n (s ∷ said) = (record { lsn = n; begin = s.begin; deed = s.deed }) ∷ numbered (n + 1) said

-- a log with more said behind its end
abbrev pub more : List Logged → ℕ → List Said → List Logged
more rs end said = rs ++ numbered end said

-- records lie at each number from one number to below another, each number once
abbrev pub Counts : ℕ → List Logged → ℕ → Type 0
Counts n [] end = n ≡ end
Counts n (r ∷ rs) end = (r.lsn ≡ n) × Counts (n + 1) rs end

-- a row's table and key
abbrev pub RowId : Type 0
RowId = ℕ × ℕ

-- the row of a change
abbrev pub id_of : RowChange → RowId
id_of c = (c.table, c.key)

-- two rows are one
abbrev pub is_row : RowId → RowId → Bool
is_row a b = (a.0 == b.0) && (a.1 == b.1)
