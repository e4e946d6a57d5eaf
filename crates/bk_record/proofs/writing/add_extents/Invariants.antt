use Rattle.std.proofs.Common.{◌≡◌, ◌≤◌, ◌+◌, ◌*◌, ◌++◌, length, take}
use Rattle.std.specs.Prelude.{vec_len, vec_capacity}
use Rattle.std.specs.List.{flat_map, AllByRecursion}
use Rattle.bk_bytes.specs.Field.{bytes_of}
use Rattle.bk_record.specs.Spelling.{extent_bytes, IsExtent}
use Rattle.bk_record.proofs.writing.add_extents.Given as goal

abbrev pub invariant-loop-extent : goal.invariant-loop-extent
invariant-loop-extent l = record {
  written : l.out.items ≡ l.fn.out.items ++ (bytes_of 4 (length l.extents) ++ flat_map extent_bytes (take l.extent-index l.extents));
  len : vec_len l.out ≡ vec_len l.fn.out + 4 + 6 * l.extent-index;
  room : vec_capacity l.fn.out ≤ vec_capacity l.out;
  fits : AllByRecursion IsExtent (take l.extent-index l.extents);
}
