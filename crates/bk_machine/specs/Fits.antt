-- What fits a backup set: the limits that every database keeps, and the database of every set.
-- SQL Server: "Maximum Capacity Specifications for SQL Server". That the limits are so low is this project's own.
use Rattle.std.specs.Prelude.{◌≡◌, ◌<◌, ◌≤◌, ℕ, true, false, List, [], ◌∷◌, length}
use Rattle.std.specs.List.{AllByRecursion}
use Rattle.bk_ids.specs.declared.path.Branch.{Branch}
use Rattle.bk_ids.specs.Name.{same_name}
use Rattle.bk_world.specs.declared.database.FileSpec.{FileSpec}
use Rattle.bk_world.specs.declared.database.Storage.{Storage}
use Rattle.bk_world.specs.declared.database.TableSpec.{TableSpec}
use Rattle.bk_world.specs.Entry.{Entry}
use Rattle.bk_world.specs.Records.{Logged}
use Rattle.bk_world.specs.Telling.{entries, tables}
use Rattle.bk_machine.specs.Acts.{latest}
use Rattle.bk_machine.specs.Checks.{is_path, most_branches}
use Rattle.bk_machine.specs.Files.{AreDataFiles}
use Rattle.bk_machine.specs.statements.CreateTable.{most_groups, most_tables}

-- at most 8 filegroups, data files as a database may have them, and paths of 1 to 100 bytes
pub record FitsStorage (s : Storage) : Type 0 where
  pub groups : length s.groups ≤ most_groups
  pub files : AreDataFiles (length s.groups) s.files
  pub paths : AllByRecursion (λ (f : FileSpec). is_path f.path ≡ true) s.files
  pub log_path : is_path s.log_path ≡ true

-- each table has another name than all behind it
abbrev pub AreNamedApart : List TableSpec → Type 0
AreNamedApart [] = Unit {0}
AreNamedApart (t ∷ made) = AllByRecursion (λ (u : TableSpec). same_name t.name u.name ≡ false) made × AreNamedApart made

-- at most 64 tables with different names, each in one of so many filegroups, and no time past the year 9999
pub record FitsLog (groups : ℕ) (rs : List Logged) : Type 0 where
  pub few : length (tables rs) ≤ most_tables
  pub names : AreNamedApart (tables rs)
  pub grouped : AllByRecursion (λ (t : TableSpec). t.group < groups) (tables rs)
  pub times : AllByRecursion (λ (e : Entry). e.time ≤ latest) (entries rs)

-- a database of these files, with this recovery path and this log
pub record FitsSet (s : Storage) (path : List Branch) (rs : List Logged) : Type 0 where
  pub storage : FitsStorage s
  pub branches : length path ≤ most_branches
  pub log : FitsLog (length s.groups) rs
