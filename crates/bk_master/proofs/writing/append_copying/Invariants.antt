use Rattle.std.proofs.Common.{◌≡◌, ◌++◌, length, take}
use Rattle.std.specs.List.{flat_map, AllByRecursion}
use Rattle.bk_bytes.specs.Field.{bytes_of}
use Rattle.bk_fields.specs.Guids.{IsGuid, guid_bytes}
use Rattle.bk_master.proofs.writing.append_copying.Given as goal

abbrev pub invariant-loop-set : goal.invariant-loop-set
invariant-loop-set l = record {
  written : l.out.items ≡ l.fn.out.items ++ (bytes_of 2 (length l.sets) ++ flat_map guid_bytes (take l.set-index l.sets));
  fits : AllByRecursion IsGuid (take l.set-index l.sets);
}
