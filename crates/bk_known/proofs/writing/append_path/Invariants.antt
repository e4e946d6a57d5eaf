use Rattle.std.proofs.Common.{◌≡◌, ◌++◌, length, take}
use Rattle.std.specs.List.{flat_map, AllByRecursion}
use Rattle.bk_bytes.specs.Field.{bytes_of}
use Rattle.bk_header.specs.Reading.{IsBranch}
use Rattle.bk_header.specs.Spelling.{branch_bytes}
use Rattle.bk_known.proofs.writing.append_path.Given as goal

abbrev pub invariant-loop-branch : goal.invariant-loop-branch
invariant-loop-branch l = record {
  written : l.out.items ≡ l.fn.out.items ++ (bytes_of 2 (length l.path) ++ flat_map branch_bytes (take l.branch-index l.path));
  fits : AllByRecursion IsBranch (take l.branch-index l.path);
}
