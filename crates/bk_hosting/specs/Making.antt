-- Hosted databases that are made.
-- SQL Server: "CREATE DATABASE (Transact-SQL)".
use Rattle.std.specs.Prelude.{◌≡◌, ◌∷◌, ℕ, Bool, true, false, List, [], map, Option, None, Some, slice_get}
use Rattle.std.specs.List.{AllByRecursion}
use Rattle.bk_facts.specs.declared.facts.DataFile.{DataFile}
use Rattle.bk_hosted.specs.Hosted.{Hosted, first_points}
use Rattle.bk_ids.specs.declared.guid.Guid.{Guid}
use Rattle.bk_known.specs.declared.known.DatabaseSpec.{DatabaseSpec}
use Rattle.bk_store.specs.Making.{founding}
use Rattle.bk_store.specs.Store.{Kept as KeptStore}
use Rattle.bk_store.specs.Told.{data_file}
use Rattle.bk_stores.specs.Beside.{ShareNoFile}

-- the data files that are there of a database: none while it is being restored
abbrev pub kept_files : Bool → Hosted → List DataFile
kept_files true h = map data_file h.spec.storage.files
kept_files false h = []

-- none of the databases has a data file at a path of this description
abbrev pub HaveNoFile : List Hosted → DatabaseSpec → Type 0
HaveNoFile hosted spec = AllByRecursion (λ (h : Hosted). ShareNoFile (map data_file spec.storage.files) (map data_file h.spec.storage.files)) hosted

-- these are the paths of the data files of the store at a place, none where it isn't open
abbrev pub ArePathsOf : Option KeptStore → List (List ℕ) → Type 0
ArePathsOf None paths = paths ≡ []
ArePathsOf (Some s) paths = paths ≡ map (λ f. f.path) s.paged.facts.files

abbrev pub ArePathsAt : List (Option KeptStore) → ℕ → List (List ℕ) → Type 0
ArePathsAt slots at paths = (slot : Option KeptStore) × (slice_get slots at ≡ Some slot) × ArePathsOf slot paths

-- a database as it is made, at a time, on a branch
abbrev pub newly : DatabaseSpec → ℕ → Guid → Hosted
newly spec time branch = record { spec = spec; points = first_points spec.storage.files; records = founding time spec.family branch ∷ []; job = None; transactions = [] }
