use Rattle.std.proofs.Common.{◌≡◌, ◌≤◌, List, length, take}
use Rattle.std.specs.List.{flat_map, AllByRecursion}
use Rattle.bk_ids.specs.declared.record.Rec.{Rec}
use Rattle.bk_record.specs.Spelling.{spelling, IsRecord}
use Rattle.bk_log.proofs.places.place_of.Given as goal

abbrev pub invariant-loop-i : goal.invariant-loop-i
invariant-loop-i l = record {
  inside : l.at ≤ length l.bytes;
  value : (rs : List Rec) → l.bytes ≡ flat_map spelling rs → AllByRecursion IsRecord rs → l._i ≤ length rs → l.at ≡ length (flat_map spelling (take l._i rs));
}
