use Rattle.std.proofs.Common.{List, Option}
use Rattle.bk_bytes.specs.Cell.{Row}
use Rattle.bk_facts.specs.declared.facts.DataFile.{DataFile}
use Rattle.bk_ids.specs.declared.record.Place.{Place}
use Rattle.bk_reopening.specs.Cells.{AreFound, HoldsCells}
use Rattle.bk_reopening.proofs.cells.add_page.Given as goal

abbrev pub invariant-loop-n : goal.invariant-loop-n
invariant-loop-n l = (cells : Place → Option Row) (files : List DataFile) → HoldsCells cells l.file l.page l.bytes → AreFound cells files l.file l.page 0 l.fn.rows.items → AreFound cells files l.file l.page l.n l.rows.items
