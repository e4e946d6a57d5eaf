-- Names that were noted, and what is known of the others.
use Rattle.std.specs.Prelude.{◌≡◌, ◌⊎◌, ℕ, List, [], ◌∷◌, map, false, string_bytes}
use Rattle.bk_device.specs.Disk.{Disk, IsDurable}
use Rattle.bk_settling.specs.declared.noted.Noted.{Noted}

abbrev pub names_in : Noted → List (List ℕ)
names_in noted = map string_bytes noted.names.items

-- one of these names
abbrev pub IsAmong : List (List ℕ) → List ℕ → Type 0
IsAmong [] name = ⊥
IsAmong (first ∷ names) name = (first ≡ name) ⊎ IsAmong names name

abbrev pub IsNoted : Noted → List ℕ → Type 0
IsNoted noted name = IsAmong (names_in noted) name

-- where no name was lost, nothing is pending under names that aren't noted
abbrev pub Knows : Noted → Disk → Type 0
Knows noted disk = noted.lost ≡ false → (name : List ℕ) → (IsNoted noted name → ⊥) → IsDurable disk name
