use Rattle.std.proofs.Common.{◌≡◌, ◌++◌}
use Rattle.bk_shown.specs.Rows.{committed_of, placed_in}
use Rattle.bk_shown.proofs.rows.Rows.with_places.Given as goal

abbrev pub invariant-loop-row : goal.invariant-loop-row
invariant-loop-row l = l.listed.items ++ placed_in l.groups (committed_of l.row-iterator) ≡ placed_in l.groups (committed_of l.self)
