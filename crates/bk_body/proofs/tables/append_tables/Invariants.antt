use Rattle.std.proofs.Common.{◌≡◌, ◌++◌, length, take}
use Rattle.std.specs.List.{flat_map, AllByRecursion}
use Rattle.bk_bytes.specs.Field.{bytes_of}
use Rattle.bk_body.specs.Spelling.{table_bytes}
use Rattle.bk_body.specs.Conditions.{IsTable}
use Rattle.bk_body.proofs.tables.append_tables.Given as goal

abbrev pub invariant-loop-table : goal.invariant-loop-table
invariant-loop-table l = record {
  written : l.out.items ≡ l.fn.out.items ++ (bytes_of 2 (length l.tables) ++ flat_map table_bytes (take l.table-index l.tables));
  fits : AllByRecursion IsTable (take l.table-index l.tables);
}
