-- Pending writes: those of a log that no record undoes, of transactions that no record ends.
-- SQL Server: "Transaction Log Architecture and Management Guide", active portion of the log.
use Rattle.std.specs.Prelude.{◌<◌, ℕ, zero, suc, ◌+◌, ◌*◌, ◌/◌, ◌%◌, ◌==◌, ◌&&◌, not, List, [], ◌∷◌, ◌++◌, map, get_or, Option, Some, None}
use Rattle.std.specs.List.{filter, AllByRecursion}
use Rattle.bk_ids.specs.declared.record.ExtentId.{ExtentId}
use Rattle.bk_ids.specs.declared.record.Place.{Place}
use Rattle.bk_world.specs.Entry.{RowChange}
use Rattle.bk_world.specs.Records.{Deed, Load, Logged, written, committed, rolled_back, undone, loaded}

-- a write of a row's cell; one of a minimal load also names the load's extents
pub record Pending : Type 0 where
  pub lsn : ℕ
  pub begin : ℕ
  pub place : Place
  pub before : Option (List ℕ)
  pub change : RowChange
  pub extents : List ExtentId

-- the i-th cell of some extents: an extent has 8 pages of 63 cells, and the extent numbered k begins with page 8 k
unfoldable pub cell_of : List ExtentId → ℕ → Place
cell_of extents i =
    let extent : ExtentId = get_or extents (i / 504) (record { file = 0; extent = 0 }) in
    record { file = extent.file; page = 8 * extent.extent + (i % 504) / 63; slot = i % 63 }

-- the writes of a load, from its i-th row on
abbrev pub load_writes : ℕ → ℕ → Load → ℕ → ℕ → List Pending
load_writes lsn begin load i zero = []
load_writes lsn begin load i (suc n) =
    (record { lsn = lsn; begin = begin; place = cell_of load.extents i; before = None; change = record { table = load.table; key = load.first + i; value = Some load.value }; extents = load.extents })
    ∷ load_writes lsn begin load (i + 1) n

-- the pending writes of one transaction, and those of the others
abbrev pub of_transaction : ℕ → List Pending → List Pending
of_transaction begin ws = filter (λ w. w.begin == begin) ws

abbrev pub of_others : ℕ → List Pending → List Pending
of_others begin ws = filter (λ w. not (w.begin == begin)) ws

-- the pending writes behind one more record
abbrev pub pending_after : List Pending → ℕ → ℕ → Deed → List Pending
pending_after ws lsn begin (written at before c) = ws ++ (record { lsn = lsn; begin = begin; place = at; before = before; change = c; extents = [] }) ∷ []
pending_after ws lsn begin (loaded load) = ws ++ load_writes lsn begin load 0 load.count
pending_after ws lsn begin (committed time mark) = of_others begin ws
pending_after ws lsn begin rolled_back = of_others begin ws
pending_after ws lsn begin (undone at c n) = filter (λ w. not (w.begin == begin && w.lsn == n)) ws
pending_after ws lsn begin _ = ws

-- and behind more records
abbrev pub pending_from : List Pending → List Logged → List Pending
pending_from ws [] = ws
pending_from ws (r ∷ rs) = pending_from (pending_after ws r.lsn r.begin r.deed) rs

-- the pending writes of a log, in their order
unfoldable pub pending : List Logged → List Pending
pending rs = pending_from [] rs

-- what some writes change
abbrev pub changes_of : List Pending → List RowChange
changes_of ws = map (λ (w : Pending). w.change) ws

-- each write has a number of its own, and they rise
abbrev pub PendingRise : List Pending → Type 0
PendingRise [] = Unit {0}
PendingRise (w ∷ ws) = AllByRecursion (λ v. w.lsn < v.lsn) ws × PendingRise ws

-- a write lies behind its transaction's first record and below an end
pub record Lies (end : ℕ) (w : Pending) : Type 0 where
  pub behind : w.begin < w.lsn
  pub below : w.lsn < end
