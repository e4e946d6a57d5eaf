use Rattle.std.proofs.Common.{◌≡◌, ◌++◌, length, take}
use Rattle.std.specs.List.{flat_map, AllByRecursion}
use Rattle.bk_bytes.specs.Field.{bytes_of}
use Rattle.bk_master.specs.Spelling.{IsUnfinished, unfinished_bytes}
use Rattle.bk_master.proofs.writing.append_all_unfinished.Given as goal

abbrev pub invariant-loop-store : goal.invariant-loop-store
invariant-loop-store l = record {
  written : l.out.items ≡ l.fn.out.items ++ (bytes_of 2 (length l.stores) ++ flat_map unfinished_bytes (take l.store-index l.stores));
  fits : AllByRecursion IsUnfinished (take l.store-index l.stores);
}
