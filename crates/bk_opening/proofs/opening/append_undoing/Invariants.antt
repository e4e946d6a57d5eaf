use Rattle.bk_opening.proofs.Undoing.{Undone}
use Rattle.bk_opening.proofs.opening.append_undoing.Given as goal

abbrev pub invariant-loop-r : goal.invariant-loop-r
invariant-loop-r l = Undone l.yielded l.initial.log l.log l.initial.bytes l.bytes
