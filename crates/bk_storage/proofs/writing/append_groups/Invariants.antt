use Rattle.std.proofs.Common.{◌≡◌, ◌++◌, length, take}
use Rattle.std.specs.List.{flat_map, AllByRecursion}
use Rattle.bk_bytes.specs.Field.{bytes_of}
use Rattle.bk_bytes.specs.Codec.{IsString}
use Rattle.bk_header.specs.Spelling.{text_bytes}
use Rattle.bk_storage.proofs.writing.append_groups.Given as goal

abbrev pub invariant-loop-group : goal.invariant-loop-group
invariant-loop-group l = record {
  written : l.out.items ≡ l.fn.out.items ++ (bytes_of 1 (length l.groups) ++ flat_map text_bytes (take l.group-index l.groups));
  fits : AllByRecursion (IsString 1 64) (take l.group-index l.groups);
}
