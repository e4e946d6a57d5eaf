use Rattle.std.proofs.Common.{◌≡◌, ℕ, ◌<◌, take, length, map}
use Rattle.std.specs.Prelude.{slice_index_or}
use Rattle.bk_groups.specs.FileSpace.{HoldsCell, free_bit}
use Rattle.bk_groups.specs.Groups.{untouched_room}
use Rattle.bk_groups.specs.Sound.{no_space, rooms_of}
use Rattle.bk_groups.proofs.files.file_spaces.Given as goal

abbrev pub invariant-loop-file : goal.invariant-loop-file
invariant-loop-file l = record {
  len : length l.spaces.items ≡ l.file-index;
  rooms : rooms_of l.spaces.items ≡ map untouched_room (take l.file-index l.files);
  bits : (k : ℕ) → k < l.file-index → (page slot : ℕ) → HoldsCell (slice_index_or l.spaces.items k no_space) page slot
      → free_bit (slice_index_or l.spaces.items k no_space) page slot ≡ 1;
}
