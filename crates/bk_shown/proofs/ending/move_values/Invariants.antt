use Rattle.std.proofs.Common.{◌≡◌, ◌++◌, take, drop, map}
use Rattle.bk_shown.specs.Writes.{Settles, own_of, spent}
use Rattle.bk_shown.proofs.ending.move_values.Given as goal

abbrev pub invariant-loop-write : goal.invariant-loop-write
invariant-loop-write l = record {
  written : l.written ≡ map (spent l.begin) (take l.write-index l.initial.written) ++ drop l.write-index l.initial.written;
  moved : Settles (own_of l.begin (take l.write-index l.initial.written)) l.initial.rows l.rows;
}
