-- Lists of pages.
use Rattle.std.specs.Prelude.{ℕ, List, ◌++◌, length, take, drop, replicate, slice_set}

-- the bytes of a page of zeros
abbrev pub zeroed_page : List ℕ
zeroed_page = replicate 8192 0

-- the pages that were lent, as they were left: there are as many as before
abbrev pub refilled : List (List ℕ) → List (List ℕ) → List (List ℕ)
refilled pages left = take (length pages) (left ++ drop (length left) pages)

-- the pages with two of them as they were left
abbrev pub with_pair : List (List ℕ) → ℕ → ℕ → List ℕ → List ℕ → List (List ℕ)
with_pair pages i j first second = slice_set (slice_set pages i first) j second
