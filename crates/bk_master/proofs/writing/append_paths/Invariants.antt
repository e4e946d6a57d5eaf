use Rattle.std.proofs.Common.{◌≡◌, ◌++◌, length, take}
use Rattle.std.specs.List.{flat_map, AllByRecursion}
use Rattle.bk_bytes.specs.Codec.{IsString}
use Rattle.bk_bytes.specs.Field.{bytes_of}
use Rattle.bk_master.specs.Spelling.{text_bytes}
use Rattle.bk_master.proofs.writing.append_paths.Given as goal

abbrev pub invariant-loop-path : goal.invariant-loop-path
invariant-loop-path l = record {
  written : l.out.items ≡ l.fn.out.items ++ (bytes_of 2 (length l.paths) ++ flat_map text_bytes (take l.path-index l.paths));
  fits : AllByRecursion (IsString 1 100) (take l.path-index l.paths);
}
