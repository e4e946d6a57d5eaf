-- The greatest LSNs that were set for an extent.
use Rattle.std.specs.Prelude.{ℕ, ◌≤◌, Bool, Option, Some, None, max, if◌then◌else◌}
use Rattle.bk_maps.specs.declared.file_marks.Marks.{Marks}

-- nothing was set
abbrev pub unmarked : Marks
unmarked = record { page = None; bulk = None }

-- the greatest LSN with one more
abbrev pub raised_mark : Option ℕ → ℕ → Option ℕ
raised_mark None lsn = Some lsn
raised_mark (Some mark) lsn = Some (max mark lsn)

-- the marks with one more page LSN, perhaps that of a bulk load
abbrev pub raised : Marks → ℕ → Bool → Marks
raised marks lsn bulk =
    record { page = raised_mark marks.page lsn; bulk = if bulk then raised_mark marks.bulk lsn else marks.bulk }

-- the greatest LSN is there and at or above a number
abbrev pub IsMarkFrom : ℕ → Option ℕ → Type 0
IsMarkFrom from None = ⊥
IsMarkFrom from (Some mark) = from ≤ mark
