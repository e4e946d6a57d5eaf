-- The data extents of a database's files.
-- SQL Server: "Pages and Extents Architecture Guide".
use Rattle.std.specs.Prelude.{◌≡◌, ◌⊎◌, ◌≤◌, ◌<◌, ◌+◌, ◌-◌, ◌*◌, ◌/◌, ℕ, zero, suc, List, [], ◌∷◌, ◌++◌, length, min}
use Rattle.bk_facts.specs.declared.facts.DataFile.{DataFile}
use Rattle.bk_ids.specs.declared.record.ExtentId.{ExtentId}
use Rattle.bk_paged.specs.Names.{pages_in}

-- how many data extents so many pages are: the first eight are those of the file's header, and a file has at most 4,096 data extents
abbrev pub extent_count : ℕ → ℕ
extent_count pages = min (pages / 8 - 1) 4096

-- the first n data extents of a file, which count from 1
abbrev pub extents_to : ℕ → ℕ → List ExtentId
extents_to file zero = []
extents_to file (suc n) = extents_to file n ++ (record { file = file; extent = n + 1 }) ∷ []

-- those of the first n files, which count from 1 too
abbrev pub extents_below : List DataFile → ℕ → List ExtentId
extents_below files zero = []
extents_below files (suc n) = extents_below files n ++ extents_to (n + 1) (extent_count (pages_in files (n + 1)))

-- those of all files, by file and number; a file's number has 16 bits
abbrev pub extents_of : List DataFile → List ExtentId
extents_of files = extents_below files (min (length files) 65535)

-- a file has this data extent
pub record HasExtent (files : List DataFile) (e : ExtentId) : Type 0 where
  pub some : 1 ≤ e.extent
  pub low : e.extent ≤ 4096
  pub there : 8 * e.extent + 8 ≤ pages_in files e.file

-- one comes before another, by file and number
abbrev pub IsBefore : ExtentId → ExtentId → Type 0
IsBefore one other = (one.file < other.file) ⊎ ((one.file ≡ other.file) × (one.extent < other.extent))

-- data extents rise
abbrev pub IdsRise : List ExtentId → Type 0
IdsRise [] = Unit {0}
IdsRise (one ∷ []) = Unit {0}
IdsRise (one ∷ other ∷ ids) = IsBefore one other × IdsRise (other ∷ ids)
