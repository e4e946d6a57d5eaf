-- What a list of calls leaves in the change maps.
use Rattle.std.specs.Prelude.{◌≡◌, ℕ, ◌≤◌, List, [], ◌∷◌, Bool, true, false, ◌⊎◌}
use Rattle.bk_maps.specs.Maps.{ChangeMaps, HasExtent, with_lsn}

-- a call that changes the maps
pub data Call : Type 0 where
  set : ℕ → ℕ → ℕ → Bool → Call
  rebase : ℕ → Call
  clear_bulk : ℕ → Call

-- the maps after a call
abbrev pub called : ChangeMaps → Call → ChangeMaps
called maps (set file extent lsn bulk) = with_lsn maps file extent lsn bulk
called maps (rebase base) = record maps { base = base }
called maps (clear_bulk archive) = record maps { archive = archive }

-- the maps after all of some calls
abbrev pub after : ChangeMaps → List Call → ChangeMaps
after maps [] = maps
after maps (call ∷ calls) = after (called maps call) calls

-- a call names no extent that the maps don't have
abbrev pub IsCallOn : ChangeMaps → Call → Type 0
IsCallOn maps (set file extent lsn bulk) = HasExtent maps file extent
IsCallOn maps (rebase base) = Unit {0}
IsCallOn maps (clear_bulk archive) = Unit {0}

-- no call of a list does
abbrev pub AreCallsOn : ChangeMaps → List Call → Type 0
AreCallsOn maps [] = Unit {0}
AreCallsOn maps (call ∷ calls) = IsCallOn maps call × AreCallsOn (called maps call) calls

-- some call of a list has a property
abbrev pub SomeCall : (Call → Type 0) → List Call → Type 0
SomeCall P [] = ⊥
SomeCall P (call ∷ calls) = P call ⊎ SomeCall P calls

-- a call sets a page LSN at or above a number for an extent
abbrev pub SetsPage : ℕ → ℕ → ℕ → Call → Type 0
SetsPage file extent from (set f e lsn bulk) = (f ≡ file) × (e ≡ extent) × (from ≤ lsn)
SetsPage file extent from (rebase base) = ⊥
SetsPage file extent from (clear_bulk archive) = ⊥

-- a call sets the LSN of a bulk load at or above a number for an extent
abbrev pub SetsBulk : ℕ → ℕ → ℕ → Call → Type 0
SetsBulk file extent from (set f e lsn true) = (f ≡ file) × (e ≡ extent) × (from ≤ lsn)
SetsBulk file extent from (set f e lsn false) = ⊥
SetsBulk file extent from (rebase base) = ⊥
SetsBulk file extent from (clear_bulk archive) = ⊥

-- the differential base after some calls
abbrev pub base_after : ℕ → List Call → ℕ
base_after base [] = base
base_after base (set file extent lsn bulk ∷ calls) = base_after base calls
base_after base (rebase next ∷ calls) = base_after next calls
base_after base (clear_bulk archive ∷ calls) = base_after base calls

-- the archive point after some calls
abbrev pub archive_after : ℕ → List Call → ℕ
archive_after archive [] = archive
archive_after archive (set file extent lsn bulk ∷ calls) = archive_after archive calls
archive_after archive (rebase base ∷ calls) = archive_after archive calls
archive_after archive (clear_bulk next ∷ calls) = archive_after next calls
