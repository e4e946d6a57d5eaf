-- Lines of cells.
use Rattle.std.specs.Prelude.{ℕ, Bool, true, false, List, [], ◌∷◌, ◌++◌, codes, Option, Some, None}
use Rattle.bk_report.specs.Times.{time_text}

-- cells, joined by tabs
abbrev pub tabbed : List (List ℕ) → List ℕ
tabbed [] = []
tabbed (cell ∷ []) = cell
tabbed (cell ∷ next ∷ cells) = cell ++ (codes "\t" ++ tabbed (next ∷ cells))

-- a line of cells
abbrev pub line : List (List ℕ) → List ℕ
line cells = tabbed cells ++ codes "\n"

-- NULL stands where there is nothing
abbrev pub null : List ℕ
null = codes "NULL"

-- a flag is 1 where it is set, else 0
abbrev pub flag : Bool → List ℕ
flag true = codes "1"
flag false = codes "0"

-- a text of a byte or more, or NULL
abbrev pub text_or_null : List ℕ → List ℕ
text_or_null [] = null
text_or_null (byte ∷ bytes) = byte ∷ bytes

-- a text that may be missing
abbrev pub maybe_text : Option (List ℕ) → List ℕ
maybe_text None = null
maybe_text (Some text) = text

-- a time that may be missing
abbrev pub maybe_time : Option ℕ → List ℕ
maybe_time None = null
maybe_time (Some ms) = time_text ms
