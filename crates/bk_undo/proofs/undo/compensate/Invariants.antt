use Rattle.std.proofs.Common.{◌≡◌, ◌++◌, map, reverse, vec_len}
use Rattle.bk_undo.specs.Losers.{compensation_of}
use Rattle.bk_undo.proofs.undo.compensate.Given as goal

abbrev pub invariant-writes : goal.invariant-writes
invariant-writes l = l.undoing.items ++ map compensation_of (reverse l.left.items) ≡ map compensation_of (reverse l.initial.left.items)

abbrev pub decreases-writes : goal.decreases-writes
decreases-writes l = vec_len l.left
