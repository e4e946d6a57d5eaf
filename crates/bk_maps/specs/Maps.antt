-- The change maps of a database. SQL Server: "Pages and extents architecture guide", "Track modified extents".
use Rattle.std.specs.Prelude.{ℕ, ◌-◌, ◌≤◌, List, [], length, Bool, map, replicate, slice_index_or, slice_set}
use Rattle.bk_maps.specs.declared.file_marks.Marks.{Marks}
use Rattle.bk_maps.specs.Marks.{unmarked, raised, IsMarkFrom}

-- the marks of all extents, by file and extent, and the numbers with which they are compared
pub record ChangeMaps : Type 0 where
  pub base : ℕ
  pub archive : ℕ
  pub files : List (List Marks)

-- the marks of the extents of a file; files count from 1
abbrev pub file_of : ChangeMaps → ℕ → List Marks
file_of maps file = slice_index_or maps.files (file - 1) []

-- the marks of an extent; extents count from 1
abbrev pub marks_of : ChangeMaps → ℕ → ℕ → Marks
marks_of maps file extent = slice_index_or (file_of maps file) (extent - 1) unmarked

-- the maps have an extent
pub record HasExtent (maps : ChangeMaps) (file extent : ℕ) : Type 0 where
  pub first_file : 1 ≤ file
  pub last_file : file ≤ length maps.files
  pub first_extent : 1 ≤ extent
  pub last_extent : extent ≤ length (file_of maps file)

-- the maps of files with so many extents, for which nothing was set
abbrev pub new_maps : List ℕ → ChangeMaps
new_maps extents = record { base = 1; archive = 1; files = map (λ n. replicate n unmarked) extents }

-- the maps with one more page LSN for an extent, perhaps that of a bulk load
abbrev pub with_lsn : ChangeMaps → ℕ → ℕ → ℕ → Bool → ChangeMaps
with_lsn maps file extent lsn bulk =
    record maps { files = slice_set maps.files (file - 1) (slice_set (file_of maps file) (extent - 1) (raised (marks_of maps file extent) lsn bulk)) }

-- the differential map holds an extent
abbrev pub InDifferential : ChangeMaps → ℕ → ℕ → Type 0
InDifferential maps file extent = IsMarkFrom maps.base ((marks_of maps file extent).page)

-- the bulk map holds an extent
abbrev pub InBulk : ChangeMaps → ℕ → ℕ → Type 0
InBulk maps file extent = IsMarkFrom maps.archive ((marks_of maps file extent).bulk)
