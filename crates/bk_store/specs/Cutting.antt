-- Logs that are cut.
-- SQL Server: "Transaction Log Architecture and Management Guide", log truncation.
use Rattle.std.specs.Prelude.{◌≤◌, ◌+◌, ℕ}
use Rattle.std.specs.List.{AllByRecursion}
use Rattle.bk_world.specs.Pending.{pending}
use Rattle.bk_store.specs.Store.{Kept}
use Rattle.bk_store.specs.Told.{Told}

-- A log may be cut at a number: it holds the records from there on, neither the latest checkpoint nor what the note needs lies below it, and each transaction with a pending write began there or later.
pub record MayBeCut (s : Kept) (to : ℕ) : Type 0 where
  pub from : s.paged.log.head.kept ≤ to
  pub early : to ≤ s.paged.facts.checkpoint
  pub inside : to ≤ s.paged.log.stored
  pub needed : to ≤ s.known.as_of.from
  pub opened : AllByRecursion (λ w. to ≤ w.begin) s.shown.written.items

-- A checkpoint cuts the log at a number: it holds the records from there on, and each transaction with a pending write began there or later.
pub record IsFloor (s : Kept) (told : Told) (floor : ℕ) : Type 0 where
  pub from : s.paged.log.head.kept ≤ floor
  pub inside : floor ≤ s.paged.log.«end» + 1
  pub opened : AllByRecursion (λ w. floor ≤ w.begin) (pending told.records)
