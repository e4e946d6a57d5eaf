use Rattle.std.proofs.Common.{◌≡◌, ◌++◌}
use Rattle.bk_shown.specs.Rows.{committed_of, rows_in}
use Rattle.bk_shown.proofs.rows.Rows.listed.Given as goal

abbrev pub invariant-loop-row : goal.invariant-loop-row
invariant-loop-row l = l.listed.items ++ rows_in l.table (committed_of l.row-iterator) ≡ rows_in l.table (committed_of l.self)
