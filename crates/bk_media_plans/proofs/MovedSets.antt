-- Moves that are searched, and what a set keeps whose files are moved.
use Rattle.std.proofs.Common.{◌≡◌, ◌≤◌, ◌<◌, ℕ, ◌+◌, Bool, true, false, cond, List, [], ◌∷◌, length, map, Option, None, Some, Err, refl, arith}
use Rattle.std.specs.List.{AllByRecursion, find, list_all}
use Rattle.std.specs.Prelude.{◌&&◌, ◌||◌, is_none, nat_le, nat_lt, not}
use Rattle.std.proofs.lemmas.Bool.{and_parts}
use Rattle.std.proofs.lemmas.Bool.Decides.{nat_tests}
use Rattle.std.proofs.lemmas.List.{length-map}
use Rattle.std.proofs.lemmas.List.Sums.{sum_by-cons}
use Rattle.std.proofs.lemmas.List.Elements.{All-from_recursion, recursion_from_All}
use Rattle.bk_header.specs.Conditions.{AreNumbered, HasPath, KeepFiles, KeepsConditions, total_extents}
use Rattle.bk_ids.specs.Name.{same_name}
use Rattle.bk_items.specs.declared.item.RestoredUnits.{RestoredUnits}
use Rattle.bk_items.specs.declared.options.FileMove.{FileMove}
use Rattle.bk_items.specs.declared.options.RestoreOptions.{RestoreOptions}
use Rattle.bk_machine.specs.Checks.{is_name, is_path}
use Rattle.bk_machine.specs.MovedLaws.{log-moved, path-moved}
use Rattle.bk_machine.specs.statements.Restore.{check_moves, is_move, is_plain, is_recovery, lists_none, moved_file, moved_log, moved_path, names_file}
use Rattle.bk_world.specs.declared.header.Header.{Header}
use Rattle.bk_world.specs.declared.header.HeaderFile.{HeaderFile}
use Rattle.bk_world.specs.declared.rule.Rule.TheVariants.{UnitNotInSet}
use Rattle.bk_media_plans.specs.Found.{Found, KeepsFound, moved_set}
use Rattle.bk_media_plans.specs.Moves.{is_lost, move_check}
use Rattle.bk_media_plans.specs.Restoring.{is_built}
use Rattle.bk_media_plans.proofs.FoundSets.{path-is}

-- ---- the search

pub lost-found : (header : Header) (moves : List FileMove) → check_moves header moves ≡ move_check (find (is_lost header) moves)
lost-found header [] = refl
lost-found header (m ∷ moves) = by (names_file header m.name) (same_name header.log_name m.name) (lost-found header moves)
  where
    by : (a b : Bool) → check_moves header moves ≡ move_check (find (is_lost header) moves)
        → cond (a || b) (check_moves header moves) (Err (UnitNotInSet m.name)) ≡ move_check (cond (not a && not b) (Some m) (find (is_lost header) moves))
    by true b later = later
    by false true later = later
    by false false later = refl

-- ---- a restore that is built moves files by names to paths

fourth : (a b c d : Bool) → (a && b && c && d) ≡ true → d ≡ true
fourth true true true d e = e
fourth true true false d e = absurd cc
fourth true false c d e = absurd cc
fourth false b c d e = absurd cc

first-two : (a b c : Bool) → (a && b && c) ≡ true → a ≡ true
first-two true b c e = refl
first-two false b c e = absurd cc

pub moves-fit : (name : List ℕ) (units : RestoredUnits) (disk : Option (List ℕ)) (options : RestoreOptions) → is_built name units disk options ≡ true → list_all is_move options.moves ≡ true
moves-fit name units None options built = absurd cc
moves-fit name units (Some disk) options built =
    let whole : (lists_none units && is_plain options) ≡ true = first-two (lists_none units && is_plain options) (is_name name) (is_path disk) built in
    fourth (is_recovery options.ending) (is_none options.stop) (not options.partial) (list_all is_move options.moves) (and_parts (lists_none units) (is_plain options) whole).1

-- ---- what a set keeps

path-has : (path : List ℕ) → is_path path ≡ true → (1 ≤ length path) × (length path ≤ 100)
path-has path is =
    let parts = and_parts (nat_lt 0 (length path)) (nat_le (length path) 100) is in
    let some : nat_lt 0 (length path) ≡ true = parts.0 in
    let short : nat_le (length path) 100 ≡ true = parts.1 in
    (grind (arith, nat_tests, some), grind (arith, nat_tests, short))

module _ (moves : List FileMove) (all : list_all is_move moves ≡ true) where
  numbered-moved : (n : ℕ) (files : List HeaderFile) → AreNumbered n files → AreNumbered n (map (moved_file moves) files)
  numbered-moved n [] is = tt
  numbered-moved n (f ∷ files) is = (is.0, numbered-moved (n + 1) files is.1)

  grouped-moved : (groups : ℕ) (files : List HeaderFile) → AllByRecursion (λ (f : HeaderFile). f.spec.group < groups) files → AllByRecursion (λ (f : HeaderFile). f.spec.group < groups) (map (moved_file moves) files)
  grouped-moved groups [] is = tt
  grouped-moved groups (f ∷ files) is = (is.0, grouped-moved groups files is.1)

  paths-moved : (files : List HeaderFile) → AllByRecursion HasPath files → AllByRecursion HasPath (map (moved_file moves) files)
  paths-moved [] is = tt
  paths-moved (f ∷ files) is = (path-has (moved_path moves f.spec.name f.spec.path) (path-moved moves moves f.spec.name f.spec.path all (path-is f.spec.path is.0.0 is.0.1)), paths-moved files is.1)

  extents-moved : (files : List HeaderFile) → total_extents (map (moved_file moves) files) ≡ total_extents files
  extents-moved [] = refl
  extents-moved (f ∷ files) =
      omega (arith, extents-moved files, sum_by-cons (λ (g : HeaderFile). g.spec.extents) (moved_file moves f) (map (moved_file moves) files), sum_by-cons (λ (g : HeaderFile). g.spec.extents) f files)

  files-keep : (groups : ℕ) (files : List HeaderFile) → KeepFiles groups files → KeepFiles groups (map (moved_file moves) files)
  files-keep groups files keep =
      let count : length (map (moved_file moves) files) ≡ length files = length-map files (moved_file moves) in record {
        some = omega (arith, keep.some, count);
        few = omega (arith, keep.few, count);
        numbered = numbered-moved 1 files keep.numbered;
        groups_there = grouped-moved groups files keep.groups_there;
        paths = All-from_recursion HasPath (map (moved_file moves) files) (paths-moved files (recursion_from_All HasPath files keep.paths));
        small = omega (arith, keep.small, extents-moved files);
      }

  -- a set whose files are moved keeps what it kept
  pub kept-moved : (set : Found) → KeepsFound set → KeepsFound (moved_set moves set)
  kept-moved set keeps =
      let k : KeepsConditions set.header = keeps.header in
      let log : (1 ≤ length (moved_log moves set.header)) × (length (moved_log moves set.header) ≤ 100) =
      path-has (moved_log moves set.header) (log-moved moves set.header all (path-is set.header.log_path k.log_path_some k.log_path_short)) in record {
        header = record {
          version = k.version;
          range = k.range;
          base_there = k.base_there;
          start = k.start;
          finish = k.finish;
          expiry = k.expiry;
          name_short = k.name_short;
          path = k.path;
          path_short = k.path_short;
          groups_some = k.groups_some;
          groups_few = k.groups_few;
          files = files-keep (length set.header.groups) set.header.files k.files;
          log_path_some = log.0;
          log_path_short = log.1;
        };
        few = keeps.few;
      }
