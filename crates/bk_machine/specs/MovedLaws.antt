-- A set whose files are moved to other paths is as sound as it was.
use Rattle.std.proofs.Common.{◌≡◌, ◌≢◌, ◌<◌, ℕ, ◌+◌, ◌==◌, Bool, true, false, cond, ◌&&◌, List, [], ◌∷◌, ◌++◌, length, map, Some, find, fold, refl, sym, ap, subst, arith}
use Rattle.std.specs.List.{AllByRecursion, list_all}
use Rattle.bk_ids.specs.declared.record.Place.{Place}
use Rattle.bk_ids.specs.Name.{same_name}
use Rattle.bk_items.specs.declared.options.FileMove.{FileMove}
use Rattle.bk_world.specs.declared.database.FileSpec.{FileSpec}
use Rattle.bk_world.specs.declared.database.TableSpec.{TableSpec}
use Rattle.bk_world.specs.declared.header.Header.{Header}
use Rattle.bk_world.specs.declared.header.HeaderFile.{HeaderFile}
use Rattle.bk_world.specs.Lines.{log_below}
use Rattle.bk_world.specs.Places.{IsCellOf}
use Rattle.bk_world.specs.Records.{Deed, Logged, database_made, table_made, begun, written, committed, rolled_back, undone, checkpointed, stamped, model_set, loaded, recovered}
use Rattle.bk_world.specs.Telling.{tables}
use Rattle.bk_machine.specs.Built.{AreFilesApart, IsBuiltLog}
use Rattle.bk_machine.specs.Checks.{is_name, is_path}
use Rattle.bk_machine.specs.Files.{AreDataFiles, CountFrom, extents_in}
use Rattle.bk_machine.specs.Fits.{FitsStorage}
use Rattle.bk_machine.specs.Sound.{ArePlaced, IsLog, IsPlaced, IsSoundSet, files_of_set}
use Rattle.bk_machine.specs.World.{World}
use Rattle.bk_machine.specs.statements.Restore.{is_move, moved, moved_file, moved_log, moved_path, names_file}

-- ---- tests

first-true : (a b : Bool) → (a && b) ≡ true → a ≡ true
first-true true b e = refl
first-true false b e = absurd cc

second-true : (a b : Bool) → (a && b) ≡ true → b ≡ true
second-true true b e = e
second-true false b e = absurd cc

-- ---- files

-- a data file, moved
abbrev pub moved_spec : List FileMove → FileSpec → FileSpec
moved_spec moves f = record f { path = moved_path moves f.name f.path }

-- the files of a set, each moved
abbrev moved_specs : List FileMove → List FileSpec → List FileSpec
moved_specs moves files = map (moved_spec moves) files

files-moved : (moves : List FileMove) (h : Header) (files : List HeaderFile) → files_of_set (record h { files = map (moved_file moves) files }) ≡ moved_specs moves (files_of_set (record h { files = files }))
files-moved moves h [] = refl
files-moved moves h (f ∷ files) = ap (λ (rest : List FileSpec). moved_spec moves f.spec ∷ rest) (files-moved moves h files)

pub files-of-moved : (moves : List FileMove) (h : Header) → files_of_set (moved moves h) ≡ moved_specs moves (files_of_set h)
files-of-moved moves h = files-moved moves h h.files

module _ (moves : List FileMove) where
  length-moved : (files : List FileSpec) → length (moved_specs moves files) ≡ length files
  length-moved [] = refl
  length-moved (f ∷ files) = let rest : length (moved_specs moves files) ≡ length files = length-moved files in omega (arith, rest)

  counts-moved : (n : ℕ) (files : List FileSpec) → CountFrom n files → CountFrom n (moved_specs moves files)
  counts-moved n [] is = tt
  counts-moved n (f ∷ files) is = (is.0, counts-moved (n + 1) files is.1)

  grouped-moved : (groups : ℕ) (files : List FileSpec) → AllByRecursion (λ (f : FileSpec). f.group < groups) files → AllByRecursion (λ (f : FileSpec). f.group < groups) (moved_specs moves files)
  grouped-moved groups [] is = tt
  grouped-moved groups (f ∷ files) is = (is.0, grouped-moved groups files is.1)

  sum-moved : (s : ℕ) (files : List FileSpec) → fold (λ (a : ℕ) (f : FileSpec). a + f.extents) s (moved_specs moves files) ≡ fold (λ (a : ℕ) (f : FileSpec). a + f.extents) s files
  sum-moved s [] = refl
  sum-moved s (f ∷ files) = sum-moved (s + f.extents) files

  data-moved : (groups : ℕ) (files : List FileSpec) → AreDataFiles groups files → AreDataFiles groups (moved_specs moves files)
  data-moved groups files is =
      let same : length (moved_specs moves files) ≡ length files = length-moved files in
      let sum : extents_in (moved_specs moves files) ≡ extents_in files = sum-moved 0 files in record {
        some = omega (arith, same, is.some);
        few = omega (arith, same, is.few);
        numbered = counts-moved 1 files is.numbered;
        grouped = grouped-moved groups files is.grouped;
        small = omega (arith, sum, is.small);
      }

  -- ---- paths

  pub path-moved : (ms : List FileMove) (name path : List ℕ) → list_all is_move ms ≡ true → is_path path ≡ true → is_path (moved_path ms name path) ≡ true
  path-moved [] name path all is = is
  path-moved (m ∷ ms) name path all is = path-moved ms name (cond (same_name m.name name) m.path path) (second-true (is_move m) (list_all is_move ms) all) (by (same_name m.name name))
    where
      by : (t : Bool) → is_path (cond t m.path path) ≡ true
      by true = second-true (is_name m.name) (is_path m.path) (first-true (is_move m) (list_all is_move ms) all)
      by false = is

  paths-moved : (files : List FileSpec) → list_all is_move moves ≡ true → AllByRecursion (λ (f : FileSpec). is_path f.path ≡ true) files → AllByRecursion (λ (f : FileSpec). is_path f.path ≡ true) (moved_specs moves files)
  paths-moved [] all is = tt
  paths-moved (f ∷ files) all is = (path-moved moves f.name f.path all is.0, paths-moved files all is.1)

  pub log-moved : (h : Header) → list_all is_move moves ≡ true → is_path h.log_path ≡ true → is_path (moved_log moves h) ≡ true
  log-moved h all is = by (names_file h h.log_name)
    where
      by : (t : Bool) → is_path (cond t h.log_path (moved_path moves h.log_name h.log_path)) ≡ true
      by true = is
      by false = path-moved moves h.log_name h.log_path all is

  -- ---- cells

  find-moved : (n : ℕ) (files : List FileSpec) (file : FileSpec) → find (λ (f : FileSpec). f.number == n) files ≡ Some file → find (λ (f : FileSpec). f.number == n) (moved_specs moves files) ≡ Some (moved_spec moves file)
  find-moved n [] file e = absurd cc
  find-moved n (f ∷ files) file e = by (f.number == n) e (find-moved n files file)
    where
      by : (t : Bool) → cond t (Some f) (find (λ (g : FileSpec). g.number == n) files) ≡ Some file
          → (find (λ (g : FileSpec). g.number == n) files ≡ Some file → find (λ (g : FileSpec). g.number == n) (moved_specs moves files) ≡ Some (moved_spec moves file))
          → cond t (Some (moved_spec moves f)) (find (λ (g : FileSpec). g.number == n) (moved_specs moves files)) ≡ Some (moved_spec moves file)
      by true is later = let same : f ≡ file = cc in ap (λ (g : FileSpec). Some (moved_spec moves g)) same
      by false is later = later is

  cell-moved : (files : List FileSpec) (group : ℕ) (at : Place) → IsCellOf files group at → IsCellOf (moved_specs moves files) group at
  cell-moved files group at is =
      record { file = moved_spec moves is.file; there = find-moved at.file files is.file is.there; of_group = is.of_group; from = is.from; below = is.below; slot = is.slot }

  placed-moved : (files : List FileSpec) (made : List TableSpec) (d : Deed) → IsPlaced files made d → IsPlaced (moved_specs moves files) made d
  placed-moved files made (written at before c) is = (is.0, is.1, cell-moved files is.0.group at is.2)
  placed-moved files made (database_made time family branch) is = tt
  placed-moved files made (table_made time spec) is = tt
  placed-moved files made begun is = tt
  placed-moved files made (committed time mark) is = tt
  placed-moved files made rolled_back is = tt
  placed-moved files made (undone at c n) is = tt
  placed-moved files made (checkpointed time) is = tt
  placed-moved files made (stamped time set) is = tt
  placed-moved files made (model_set time model) is = tt
  placed-moved files made (loaded load) is = tt
  placed-moved files made (recovered branch) is = tt

  pub all-placed-moved : (files : List FileSpec) (before rs : List Logged) → ArePlaced files before rs → ArePlaced (moved_specs moves files) before rs
  all-placed-moved files before [] is = tt
  all-placed-moved files before (r ∷ rs) is = (placed-moved files (tables before) r.deed is.0, all-placed-moved files (before ++ r ∷ []) rs is.1)

  log-kept : (files : List FileSpec) (rs : List Logged) (end : ℕ) → IsLog files rs end → IsLog (moved_specs moves files) rs end
  log-kept files rs end is = record { counts = is.counts; sound = is.sound; tables = is.tables; places = all-placed-moved files [] rs is.places }

  -- ---- loads

  one-apart : (f : FileSpec) (files : List FileSpec) → AllByRecursion (λ (g : FileSpec). g.number ≢ f.number) files → AllByRecursion (λ (g : FileSpec). g.number ≢ f.number) (moved_specs moves files)
  one-apart f [] is = tt
  one-apart f (g ∷ files) is = (is.0, one-apart f files is.1)

  apart-moved : (files : List FileSpec) → AreFilesApart files → AreFilesApart (moved_specs moves files)
  apart-moved [] is = tt
  apart-moved (f ∷ files) is = (one-apart f files is.0, apart-moved files is.1)

  -- ---- the set

  -- what a set is restored as is sound where the set is
  pub moved-sound : (w : World) (h : Header) → list_all is_move moves ≡ true → IsSoundSet w h → IsSoundSet w (moved moves h)
  moved-sound w h all is = record {
    log = subst (λ (files : List FileSpec). IsLog files (log_below w.history h.path h.last) h.last) (sym (files-of-moved moves h)) (log-kept (files_of_set h) (log_below w.history h.path h.last) h.last is.log);
    path = is.path;
    starts = is.starts;
    drawn = is.drawn;
    set = is.set;
    family = is.family;
    held = is.held;
    model = is.model;
    finish = is.finish;
    numbers = is.numbers;
    fits = record {
      storage = subst (λ (files : List FileSpec). FitsStorage (record { groups = h.groups; files = files; log_name = h.log_name; log_path = moved_log moves h })) (sym (files-of-moved moves h)) storage;
      branches = is.fits.branches;
      log = is.fits.log;
    };
  }
    where
      storage : FitsStorage (record { groups = h.groups; files = moved_specs moves (files_of_set h); log_name = h.log_name; log_path = moved_log moves h })
      storage = record {
        groups = is.fits.storage.groups;
        files = data-moved (length h.groups) (files_of_set h) is.fits.storage.files;
        paths = paths-moved (files_of_set h) all is.fits.storage.paths;
        log_path = log-moved h all is.fits.storage.log_path;
      }

  -- and so is its log, where no load was said
  pub moved-built : (w : World) (h : Header) → IsBuiltLog (files_of_set h) (log_below w.history h.path h.last) → IsBuiltLog (files_of_set (moved moves h)) (log_below w.history h.path h.last)
  moved-built w h is =
      subst (λ (files : List FileSpec). IsBuiltLog files (log_below w.history h.path h.last)) (sym (files-of-moved moves h)) (record { apart = apart-moved (files_of_set h) is.apart; loads = is.loads })
