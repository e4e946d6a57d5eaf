use Rattle.std.proofs.Common.{◌≡◌, ◌++◌, List, [], length}
use Rattle.std.specs.Vec.Iter.{into_iter_items, into_iter_len}
use Rattle.bk_world.specs.declared.database.FileSpec.{FileSpec}
use Rattle.bk_world.specs.declared.database.TableSpec.{TableSpec}
use Rattle.bk_world.specs.declared.row.PlacedRow.{PlacedRow}
use Rattle.bk_shown.specs.Steps.{HasWrites}
use Rattle.bk_shown.proofs.shown.Shown.add_writes.Given as goal

abbrev pub invariant-loop-write : goal.invariant-loop-write
invariant-loop-write l = record {
  left : l.yielded ++ into_iter_items l.write-iterator ≡ into_iter_items l.initial.write-iterator;
  many : into_iter_len l.write-iterator ≡ length (into_iter_items l.write-iterator);
  has : (files : List FileSpec) (made : List TableSpec) (listed : List PlacedRow) → HasWrites files made listed [] l.initial.self → HasWrites files made listed l.yielded l.self;
}
