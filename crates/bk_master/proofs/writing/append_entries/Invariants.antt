use Rattle.std.proofs.Common.{◌≡◌, ◌++◌, length, take}
use Rattle.std.specs.List.{flat_map, AllByRecursion}
use Rattle.bk_bytes.specs.Field.{bytes_of}
use Rattle.bk_master.specs.Spelling.{IsEntry, entry_bytes}
use Rattle.bk_master.proofs.writing.append_entries.Given as goal

abbrev pub invariant-loop-entry : goal.invariant-loop-entry
invariant-loop-entry l = record {
  written : l.out.items ≡ l.fn.out.items ++ (bytes_of 2 (length l.entries) ++ flat_map entry_bytes (take l.entry-index l.entries));
  fits : AllByRecursion IsEntry (take l.entry-index l.entries);
}
