use Rattle.std.proofs.Common.{◌≡◌, ◌≤◌, ◌<◌, ◌+◌, ℕ}
use Rattle.std.specs.Prelude.{slice_index_or}
use Rattle.bk_known.specs.Storage.{HasPath}
use Rattle.bk_world.specs.declared.database.FileSpec.{FileSpec}
use Rattle.bk_reopening.proofs.noting.are_files.Given as goal

abbrev pub invariant-loop-i : goal.invariant-loop-i
invariant-loop-i l = record {
  numbers : (k : ℕ) (d : FileSpec) → k < l.i → (slice_index_or l.files k d).number ≡ k + 1;
  sizes : (k : ℕ) (d : FileSpec) → k < l.i → (slice_index_or l.files k d).extents ≤ 4096;
  paths : (k : ℕ) (d : FileSpec) → k < l.i → HasPath (slice_index_or l.files k d);
}
