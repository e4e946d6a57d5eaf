use Rattle.std.proofs.Common.{◌≡◌, ℕ, ◌<◌}
use Rattle.std.specs.Prelude.{slice_index_or}
use Rattle.bk_groups.specs.FileSpace.{free_bit}
use Rattle.bk_groups.specs.Sound.{no_space}
use Rattle.bk_groups.proofs.files.first_free.Given as goal

abbrev pub invariant-loop-i : goal.invariant-loop-i
invariant-loop-i l =
    (k : ℕ) → k < l.i → (slice_index_or l.files k no_space).group ≡ l.group → (page slot : ℕ) → free_bit (slice_index_or l.files k no_space) page slot ≡ 0
