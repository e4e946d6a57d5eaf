-- The data extents of data files.
-- SQL Server: "Pages and Extents Architecture Guide".
use Rattle.std.specs.Prelude.{◌≡◌, ◌≤◌, ◌+◌, ◌-◌, ◌/◌, ◌%◌, ℕ, zero, suc, List, [], ◌∷◌, ◌++◌}
use Rattle.bk_facts.specs.declared.facts.DataFile.{DataFile}

-- a data file's pages are those of whole extents, the first of them that of its header pages
pub record HasExtents (d : DataFile) : Type 0 where
  pub some : 1 ≤ d.pages
  pub even : d.pages % 8 ≡ 0

-- so many extents of a file, from a number on, by file and number
abbrev pub extents_on : ℕ → ℕ → ℕ → List (ℕ × ℕ)
extents_on file number zero = []
extents_on file number (suc more) = (file, number) ∷ extents_on file (number + 1) more

-- the data extents of data files, in the order of file and number; the first of these files has this number
abbrev pub extents_of : ℕ → List DataFile → List (ℕ × ℕ)
extents_of file [] = []
extents_of file (d ∷ files) = extents_on file 1 (d.pages / 8 - 1) ++ extents_of (file + 1) files
