use Rattle.std.proofs.Common.{◌≡◌, take}
use Rattle.bk_asked.proofs.Laying.{laid}
use Rattle.bk_asked.proofs.sights.lay_over.Given as goal

abbrev pub invariant-loop-write : goal.invariant-loop-write
invariant-loop-write l = l.rows.items ≡ laid l.begin l.table l.fn.rows.items (take l.write-index l.written)
