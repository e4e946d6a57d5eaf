use Rattle.std.proofs.Common.{Option}
use Rattle.bk_bytes.specs.Cell.{Row}
use Rattle.bk_ids.specs.declared.record.Place.{Place}
use Rattle.bk_reopening.specs.Cells.{AreFound, AreInPool}
use Rattle.bk_reopening.proofs.cells.add_file.Given as goal

abbrev pub invariant-loop-page : goal.invariant-loop-page
invariant-loop-page l = (cells : Place → Option Row) → AreInPool cells l.paged.pool → AreFound cells l.paged.facts.files l.file 0 0 l.fn.rows.items → AreFound cells l.paged.facts.files l.file l.page 0 l.rows.items
