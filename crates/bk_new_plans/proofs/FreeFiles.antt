-- Behind the checks of CREATE DATABASE no path of a data file is in use.
use Rattle.std.proofs.Common.{◌≡◌, ℕ, Bool, true, false, cond, List, [], ◌∷◌, map, length, Option, Some, Ok, Err, refl, subst}
use Rattle.std.specs.List.{find}
use Rattle.std.specs.Option.{option_map}
use Rattle.std.specs.Prelude.{◌||◌, is_some, nat_le, not}
use Rattle.bk_items.specs.declared.item.NewFile.{NewFile}
use Rattle.bk_items.specs.declared.item.NewGroup.{NewGroup}
use Rattle.bk_machine.specs.Checks.{Checked, ◌>>=◌, free_paths, has_path, is_system, most_databases, outside, paths_of, refuse_if}
use Rattle.bk_machine.specs.World.{World, database_named}
use Rattle.bk_machine.specs.statements.CreateDatabase.{are_named, check_create_database, check_free, check_in_use, check_limits, new_storage, refuse_found, used_file}
use Rattle.bk_world.specs.declared.database.FileSpec.{FileSpec}
use Rattle.bk_world.specs.declared.database.Storage.{Storage}
use Rattle.bk_world.specs.declared.rule.Limit.TheVariants.{Databases}
use Rattle.bk_world.specs.declared.rule.Rule.TheVariants.{DatabaseExists, FileInUse, LimitReached, NotBuilt}

-- where checks were passed the first one was, and the ones behind it were
first-passed : {B : Type 0} (first : Checked (Unit {0})) (rest : Checked B) (b : B) → (first >>= λ v. rest) ≡ Ok b → first ≡ Ok tt
first-passed (Err rule) rest b e = absurd cc
first-passed (Ok u) rest b e = refl

later : {B : Type 0} (first : Checked (Unit {0})) (rest : Checked B) (b : B) → (first >>= λ v. rest) ≡ Ok b → rest ≡ Ok b
later (Err rule) rest b e = absurd cc
later (Ok u) rest b e = e

none-used : (used : List (List ℕ)) (files : List FileSpec) → refuse_found (option_map (λ (f : FileSpec). f.path) (find (λ (f : FileSpec). has_path used f.path) files)) ≡ Ok tt
    → free_paths used (map (λ (f : FileSpec). f.path) files) ≡ Ok tt
none-used used [] e = refl
none-used used (f ∷ files) e = by (has_path used f.path) (λ rest. none-used used files rest) e
  where
    by : (t : Bool) → (refuse_found (option_map (λ (g : FileSpec). g.path) (find (λ (g : FileSpec). has_path used g.path) files)) ≡ Ok tt → free_paths used (map (λ (g : FileSpec). g.path) files) ≡ Ok tt)
        → refuse_found (option_map (λ (g : FileSpec). g.path) (cond t (Some f) (find (λ (g : FileSpec). has_path used g.path) files))) ≡ Ok tt
        → cond t (Err (FileInUse f.path)) (free_paths used (map (λ (g : FileSpec). g.path) files)) ≡ Ok tt
    by true later e = absurd cc
    by false later e = later e

same-found : (s found : Storage) → ◌≡◌ {A = Checked Storage} (Ok s) (Ok found) → s ≡ found
same-found s found e = cc

free-then : (w : World) (s found : Storage) → check_free w s ≡ Ok found → free_paths (paths_of w.databases) (map (λ (f : FileSpec). f.path) found.files) ≡ Ok tt
unfolding check_free check_in_use
free-then w s found e =
    let used = first-passed (check_in_use w.databases s) _ found e in
    let first = first-passed (refuse_found (option_map (λ (f : FileSpec). f.path) (used_file w.databases s.files))) _ tt used in
    let same : s ≡ found = same-found s found (later _ _ found (later (check_in_use w.databases s) _ found e)) in
    subst (λ (x : Storage). free_paths (paths_of w.databases) (map (λ (f : FileSpec). f.path) x.files) ≡ Ok tt) same (none-used (paths_of w.databases) s.files first)

pub paths-unused : (w : World) (line : ℕ) (name : List ℕ) (primary : List NewFile) (groups : List NewGroup) (log : Option NewFile) (found : Storage)
    → check_create_database w line name primary groups log ≡ Ok found → free_paths (paths_of w.databases) (map (λ (f : FileSpec). f.path) found.files) ≡ Ok tt
unfolding check_create_database
paths-unused w line name primary groups log found e =
    let outer = later (refuse_if (not (are_named name primary groups log)) (NotBuilt line)) _ found e in
    let new = later (outside w) _ found outer in
    let few = later (refuse_if (is_system name || is_some (database_named w.databases name)) DatabaseExists) _ found new in
    let limits = later (refuse_if (nat_le most_databases (length w.databases)) (LimitReached Databases)) _ found few in
    free-then w (new_storage name primary groups log) found (later (check_limits (new_storage name primary groups log)) _ found limits)
