use Rattle.std.proofs.Common.{◌≡◌, drop}
use Rattle.bk_body.specs.Reading.{are_different}
use Rattle.bk_body.proofs.tables.all_differ.Given as goal

abbrev pub invariant-loop-i : goal.invariant-loop-i
invariant-loop-i l = are_different (drop l.i l.tables) ≡ are_different l.tables
