-- When two names are the same, and which texts are names.
use Rattle.std.specs.Prelude.{◌≡◌, ◌<◌, ℕ, List, length, map, Bool}
use Rattle.std.specs.Char.{to_ascii_lowercase}
use Rattle.std.specs.Str.{bytes_eq}
use Rattle.bk_ids.specs.declared.name.NameError.{NameError}
use Rattle.bk_ids.specs.declared.name.NameError.TheVariants.{TooLong, NoMemory}

-- a name with its ASCII letters lowered
abbrev pub lowered : List ℕ → List ℕ
lowered name = map to_ascii_lowercase name

-- two names are the same where they are equal once ASCII letters are lowered
abbrev pub IsSameName : List ℕ → List ℕ → Type 0
IsSameName a b = lowered a ≡ lowered b

-- the same as a test
abbrev pub same_name : List ℕ → List ℕ → Bool
same_name a b = bytes_eq (lowered a) (lowered b)

-- a text is too long for a name exactly where it has more than 64 bytes, and this says how many
abbrev pub IsNameError : List ℕ → NameError → Type 0
IsNameError text (TooLong bytes) = (64 < length text) × (bytes ≡ length text)
IsNameError text NoMemory = Unit {0}
