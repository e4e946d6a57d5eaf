-- The device's names of a database's files.
use Rattle.std.specs.Prelude.{◌≡◌, ◌≢◌, ◌⊎◌, ◌<◌, ℕ, zero, suc, List, ◌∷◌, Option, None, Some, slice_get}
use Rattle.std.specs.Fmt.{decimal}
use Rattle.hex.specs.Hex.{encode_lower}

-- the data file at a path: p- and the path's bytes in lower-case hexadecimal
unfoldable pub data_file : List ℕ → List ℕ
data_file path = 112 ∷ 45 ∷ encode_lower path

-- the side file of a database: b- and the database's number
unfoldable pub side_file : ℕ → List ℕ
side_file db = 98 ∷ 45 ∷ decimal db

-- the name of a data file by its number; files count from 1
abbrev pub name_of : List (List ℕ) → ℕ → Option (List ℕ)
name_of names zero = None
name_of names (suc i) = slice_get names i

-- a name is that of a data file
abbrev pub IsData : List (List ℕ) → List ℕ → Type 0
IsData names name = (file : ℕ) × (name_of names file ≡ Some name)

-- a name is that of the side file or of a data file
abbrev pub IsOwn : List ℕ → List (List ℕ) → List ℕ → Type 0
IsOwn side names name = (name ≡ side) ⊎ IsData names name

-- a name stands before its place too
abbrev pub IsBefore : List (List ℕ) → ℕ → Type 0
IsBefore names i = (j : ℕ) × (name : List ℕ) × (j < i) × (slice_get names j ≡ Some name) × (slice_get names i ≡ Some name)

-- no two data files have one name
abbrev pub AreDifferent : List (List ℕ) → Type 0
AreDifferent names = (file other : ℕ) (name : List ℕ) → name_of names file ≡ Some name → name_of names other ≡ Some name → other ≡ file

-- nor does one have the name of the side file
pub record AreApart (side : List ℕ) (names : List (List ℕ)) : Type 0 where
  pub different : AreDifferent names
  pub from_side : (file : ℕ) (name : List ℕ) → name_of names file ≡ Some name → name ≢ side
