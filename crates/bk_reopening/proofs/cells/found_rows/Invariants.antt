use Rattle.std.proofs.Common.{◌+◌, Option}
use Rattle.bk_bytes.specs.Cell.{Row}
use Rattle.bk_ids.specs.declared.record.Place.{Place}
use Rattle.bk_reopening.specs.Cells.{AreFound, AreInPool}
use Rattle.bk_reopening.proofs.cells.found_rows.Given as goal

abbrev pub invariant-loop-i : goal.invariant-loop-i
invariant-loop-i l = (cells : Place → Option Row) → AreInPool cells l.paged.pool → AreFound cells l.paged.facts.files (l.i + 1) 0 0 l.rows.items
