use Rattle.std.proofs.Common.{◌≡◌, ◌++◌, length, take}
use Rattle.std.specs.List.{flat_map, AllByRecursion}
use Rattle.bk_bytes.specs.Field.{bytes_of}
use Rattle.bk_storage.specs.Storage.{IsSpec, spec_bytes}
use Rattle.bk_storage.proofs.writing.append_files.Given as goal

abbrev pub invariant-loop-file : goal.invariant-loop-file
invariant-loop-file l = record {
  written : l.out.items ≡ l.fn.out.items ++ (bytes_of 2 (length l.files) ++ flat_map spec_bytes (take l.file-index l.files));
  fits : AllByRecursion IsSpec (take l.file-index l.files);
}
