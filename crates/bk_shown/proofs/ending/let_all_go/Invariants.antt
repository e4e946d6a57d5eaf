use Rattle.std.proofs.Common.{take}
use Rattle.bk_shown.specs.Rows.{KeepsRows}
use Rattle.bk_shown.specs.Writes.{LetsGo, has_write, own_of}
use Rattle.bk_shown.proofs.ending.let_all_go.Given as goal

abbrev pub invariant-loop-write : goal.invariant-loop-write
invariant-loop-write l = record {
  groups : LetsGo (λ id. has_write (own_of l.begin (take l.write-index l.written)) id) l.initial.rows l.initial.groups l.groups;
  rows : KeepsRows (λ id. has_write (own_of l.begin (take l.write-index l.written)) id) l.initial.rows l.rows;
}
