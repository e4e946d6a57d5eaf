-- Paths of a set's files, checked one after the other or searched.
use Rattle.std.proofs.Common.{◌≡◌, ℕ, Bool, true, false, cond, List, [], ◌∷◌, ◌++◌, map, Some, Err, refl, sym, ◌∙◌, ap}
use Rattle.std.specs.List.{find}
use Rattle.std.specs.Prelude.{◌||◌}
use Rattle.std.specs.Str.{bytes_eq}
use Rattle.std.proofs.lemmas.List.Folds.{list_any-append}
use Rattle.bk_machine.specs.Checks.{has_path, free_paths, different_paths}
use Rattle.bk_world.specs.declared.header.HeaderFile.{HeaderFile}
use Rattle.bk_world.specs.declared.rule.Rule.TheVariants.{FileInUse}
use Rattle.bk_media_plans.specs.SetPaths.{file_check, first_repeated, stands}

abbrev pub file_paths : List HeaderFile → List (List ℕ)
file_paths files = map (λ (f : HeaderFile). f.spec.path) files

pub free-found : (used : List (List ℕ)) (files : List HeaderFile) → free_paths used (file_paths files) ≡ file_check (find (λ (f : HeaderFile). has_path used f.spec.path) files)
free-found used [] = refl
free-found used (f ∷ files) = by (has_path used f.spec.path) (free-found used files)
  where
    by : (t : Bool) → free_paths used (file_paths files) ≡ file_check (find (λ (f : HeaderFile). has_path used f.spec.path) files)
        → cond t (Err (FileInUse f.spec.path)) (free_paths used (file_paths files)) ≡ file_check (cond t (Some f) (find (λ (f : HeaderFile). has_path used f.spec.path) files))
    by true later = refl
    by false later = later

or-swap : (a b : Bool) → (a || (b || false)) ≡ (b || a)
or-swap true true = refl
or-swap true false = refl
or-swap false true = refl
or-swap false false = refl

-- some paths are those of some files, in any order
abbrev AreOf : List (List ℕ) → List HeaderFile → Type 0
AreOf seen before = (path : List ℕ) → stands before path ≡ has_path seen path

more-seen : (seen : List (List ℕ)) (before : List HeaderFile) (f : HeaderFile) → AreOf seen before → AreOf (f.spec.path ∷ seen) (before ++ f ∷ [])
more-seen seen before f are path =
    list_any-append (λ (file : HeaderFile). bytes_eq file.spec.path path) before (f ∷ [])
    ∙ ap (λ t. t || (bytes_eq f.spec.path path || false)) (are path)
    ∙ or-swap (has_path seen path) (bytes_eq f.spec.path path)

different-from : (seen : List (List ℕ)) (before files : List HeaderFile) → AreOf seen before → different_paths seen (file_paths files) ≡ file_check (first_repeated before files)
different-from seen before [] are = refl
different-from seen before (f ∷ files) are =
    by (has_path seen f.spec.path) (different-from (f.spec.path ∷ seen) (before ++ f ∷ []) files (more-seen seen before f are))
    ∙ ap (λ t. file_check (cond t (Some f) (first_repeated (before ++ f ∷ []) files))) (sym (are f.spec.path))
  where
    by : (t : Bool) → different_paths (f.spec.path ∷ seen) (file_paths files) ≡ file_check (first_repeated (before ++ f ∷ []) files)
        → cond t (Err (FileInUse f.spec.path)) (different_paths (f.spec.path ∷ seen) (file_paths files)) ≡ file_check (cond t (Some f) (first_repeated (before ++ f ∷ []) files))
    by true later = refl
    by false later = later

pub different-found : (files : List HeaderFile) → different_paths [] (file_paths files) ≡ file_check (first_repeated [] files)
different-found files = different-from [] [] files (λ path. refl)
