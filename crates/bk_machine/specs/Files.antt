-- Data files of a new database. SQL Server: "Database Files and Filegroups". The limits, and that files count without a gap for the log, are this project's own.
use Rattle.std.specs.Prelude.{◌≡◌, ◌<◌, ◌≤◌, ℕ, ◌+◌, List, [], ◌∷◌, length}
use Rattle.std.specs.List.{AllByRecursion, sum_by}
use Rattle.bk_world.specs.declared.database.FileSpec.{FileSpec}

-- how many data files and extents a database has at most
abbrev pub most_files : ℕ
most_files = 16

abbrev pub most_extents : ℕ
most_extents = 4096

-- the extents of some files, all together
abbrev pub extents_in : List FileSpec → ℕ
extents_in files = sum_by (λ (f : FileSpec). f.extents) files

-- files count from a number on
abbrev pub CountFrom : ℕ → List FileSpec → Type 0
CountFrom number [] = Unit {0}
CountFrom number (f ∷ files) = (f.number ≡ number) × CountFrom (number + 1) files

-- 1 to 16 data files, which count from 1, each in one of so many filegroups, with at most 4,096 extents in all
pub record AreDataFiles (groups : ℕ) (files : List FileSpec) : Type 0 where
  pub some : 0 < length files
  pub few : length files ≤ most_files
  pub numbered : CountFrom 1 files
  pub grouped : AllByRecursion (λ (f : FileSpec). f.group < groups) files
  pub small : extents_in files ≤ most_extents
