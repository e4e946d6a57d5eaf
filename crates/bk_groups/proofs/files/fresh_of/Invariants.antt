use Rattle.std.proofs.Common.{◌≡◌, ◌*◌, ◌≤◌, take}
use Rattle.std.specs.Prelude.{sum_by}
use Rattle.bk_groups.specs.Groups.{fresh_in}
use Rattle.bk_groups.specs.Sound.{rooms_of}
use Rattle.bk_groups.proofs.files.fresh_of.Given as goal

abbrev pub invariant-loop-file : goal.invariant-loop-file
invariant-loop-file l = record {
  sum : l.total ≡ sum_by (fresh_in l.group) (take l.file-index (rooms_of l.files));
  small : l.total ≤ 4096 * l.file-index;
}
