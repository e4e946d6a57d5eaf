use Rattle.std.proofs.Common.{◌≡◌, ◌++◌, length, take}
use Rattle.std.specs.List.{flat_map, AllByRecursion}
use Rattle.bk_bytes.specs.Field.{bytes_of}
use Rattle.bk_points.specs.Points.{IsUnit, unit_bytes}
use Rattle.bk_points.proofs.writing.append_units.Given as goal

abbrev pub invariant-loop-unit : goal.invariant-loop-unit
invariant-loop-unit l = record {
  written : l.out.items ≡ l.fn.out.items ++ (bytes_of 2 (length l.units) ++ flat_map unit_bytes (take l.unit-index l.units));
  fits : AllByRecursion IsUnit (take l.unit-index l.units);
}
