-- Paths that data files of kept databases have are those of the world's.
use Rattle.std.proofs.Common.{◌≡◌, ℕ, Bool, true, false, cond, List, [], ◌∷◌, map, refl, ◌∙◌, ap}
use Rattle.std.specs.List.{list_any}
use Rattle.std.specs.Prelude.{◌||◌, ◌&&◌, not}
use Rattle.std.specs.Str.{bytes_eq}
use Rattle.std.proofs.lemmas.List.Folds.{list_any-append}
use Rattle.bk_ids.specs.Name.{same_name}
use Rattle.bk_machine.specs.Checks.{has_path, paths_of, others}
use Rattle.bk_machine.specs.World.{Database}
use Rattle.bk_world.specs.declared.database.FileSpec.{FileSpec}
use Rattle.bk_kept.specs.declared.kept.Database.{Database as KeptDatabase}
use Rattle.bk_kept.specs.Keeps.{database_of}
use Rattle.bk_plans.specs.Paths.{has_file}

path-mapped : (path : List ℕ) (files : List FileSpec) → has_path (map (λ (f : FileSpec). f.path) files) path ≡ has_file files path
path-mapped path [] = refl
path-mapped path (file ∷ files) = ap (λ t. bytes_eq file.path path || t) (path-mapped path files)

-- one database more
path-more : (path : List ℕ) (d : KeptDatabase) (dbs : List Database) (t : Bool) → has_path (paths_of dbs) path ≡ t
    → has_path (paths_of (database_of d ∷ dbs)) path ≡ (has_file d.files path || t)
path-more path d dbs t is =
    list_any-append (λ other. bytes_eq other path) (map (λ (f : FileSpec). f.path) d.files) (paths_of dbs)
    ∙ ap (λ x. x || has_path (paths_of dbs) path) (path-mapped path d.files)
    ∙ ap (λ x. has_file d.files path || x) is

pub any_has_path : (path : List ℕ) (ks : List KeptDatabase) → has_path (paths_of (map database_of ks)) path ≡ list_any (λ (d : KeptDatabase). has_file d.files path) ks
any_has_path path [] = refl
any_has_path path (d ∷ ks) = path-more path d (map database_of ks) _ (any_has_path path ks)

-- a database of another name has a file with this path
abbrev pub is_of_others : List ℕ → List ℕ → KeptDatabase → Bool
is_of_others name path d = not (same_name d.name name) && has_file d.files path

pub others_have_path : (name path : List ℕ) (ks : List KeptDatabase)
    → has_path (paths_of (others (map database_of ks) name)) path ≡ list_any (λ (d : KeptDatabase). not (same_name d.name name) && has_file d.files path) ks
others_have_path name path [] = refl
others_have_path name path (d ∷ ks) = by (same_name d.name name) (others_have_path name path ks)
  where
    by : (t : Bool) → has_path (paths_of (others (map database_of ks) name)) path ≡ list_any (is_of_others name path) ks
        → has_path (paths_of (cond (not t) (database_of d ∷ others (map database_of ks) name) (others (map database_of ks) name))) path
        ≡ (not t && has_file d.files path || list_any (is_of_others name path) ks)
    by true later = later
    by false later = path-more path d (others (map database_of ks) name) _ later
