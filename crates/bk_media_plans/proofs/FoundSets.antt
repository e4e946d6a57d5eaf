-- What is known of a set that was found on a medium.
use Rattle.std.proofs.Common.{◌≡◌, ◌<◌, ◌≤◌, ℕ, ◌+◌, ◌-◌, true, List, [], ◌∷◌, length, map, take, drop, None, refl, sym, ◌∙◌, ap, subst, arith}
use Rattle.std.specs.List.{AllByRecursion}
use Rattle.std.specs.Prelude.{nat_le, nat_lt}
use Rattle.std.proofs.lemmas.Bool.{and_from, le-leb, lt-ltb}
use Rattle.std.proofs.lemmas.List.{drop-map, length-map, length-take-le, take-append-drop}
use Rattle.std.proofs.lemmas.List.Elements.{recursion_from_All}
use Rattle.std.proofs.lemmas.List.Sums.{sum_by-cons}
use Rattle.bk_carried.specs.Carried.{HoldsLog}
use Rattle.bk_ids.specs.declared.record.Rec.{Rec}
use Rattle.bk_header.specs.Conditions.{AreNumbered, HasPath, KeepFiles, KeepsConditions, total_extents}
use Rattle.bk_header.specs.Laws.{header_keeps}
use Rattle.bk_kept.specs.SetLaws.{spec_of, specs-are}
use Rattle.bk_machine.specs.Checks.{is_path}
use Rattle.bk_machine.specs.Files.{AreDataFiles, CountFrom, extents_in}
use Rattle.bk_machine.specs.Sound.{IsSoundSet, files_of_set}
use Rattle.bk_machine.specs.World.{World}
use Rattle.bk_machine.specs.statements.CreateTable.{most_tables}
use Rattle.bk_record.specs.Log.{IsLog}
use Rattle.bk_shown.specs.Ends.{HoldsPending}
use Rattle.bk_shown.specs.Shown.{ArePlaced}
use Rattle.bk_undo.specs.Spelled.{spelled}
use Rattle.bk_world.specs.CrashLaws.{counts-length}
use Rattle.bk_world.specs.Lines.{log_below}
use Rattle.bk_world.specs.Pending.{Pending, pending}
use Rattle.bk_world.specs.Records.{Logged}
use Rattle.bk_world.specs.Telling.{tables}
use Rattle.bk_world.specs.declared.database.FileSpec.{FileSpec}
use Rattle.bk_world.specs.declared.database.TableSpec.{TableSpec}
use Rattle.bk_world.specs.declared.header.Header.{Header}
use Rattle.bk_world.specs.declared.header.HeaderFile.{HeaderFile}
use Rattle.bk_media_plans.specs.Found.{Found, IsSetOf, KeepsFound}
use Rattle.bk_media_plans.specs.RestorePlans.{KeepsSet}

-- ---- what it holds of its log

module _ (w : World) (set : Found) (of : IsSetOf w.history set) where
  -- the log of its path
  abbrev log : List Logged
  log = log_below w.history set.header.path set.header.last

  holds : HoldsLog log of.body
  holds = subst (λ (h : Header). HoldsLog (log_below w.history h.path h.last) of.body) of.header_is of.carries

  pub set-tables : tables (log_below w.history set.header.path set.header.last) ≡ set.tables
  set-tables = sym holds.tables ∙ of.tables_are

  pub set-placed : ArePlaced (files_of_set set.header) [] (log_below w.history set.header.path set.header.last)
  set-placed = subst (λ (h : Header). ArePlaced (files_of_set h) [] log) of.header_is holds.placed

  -- its number of the first record that it has
  first-is : of.body.header.first ≡ set.header.first
  first-is = ap (λ (h : Header). h.first) of.header_is

  spells : IsLog set.log (map spelled (drop (set.header.first - 1) log)) None
  spells =
      subst (λ (bytes : List ℕ). IsLog bytes (map spelled (drop (set.header.first - 1) log)) None) of.log_is
      (subst (λ (rs : List Rec). IsLog of.body.log rs None) (ap (λ (n : ℕ). drop (n - 1) (map spelled log)) first-is ∙ drop-map spelled (set.header.first - 1) log) holds.log)

  -- it has all that is told of what is pending at its end
  pub set-pending : IsSoundSet w set.header → HoldsPending (log_below w.history set.header.path set.header.last) set.header.first set.log
  set-pending sound =
      let counted : set.header.last ≡ 1 + length log = counts-length 1 log set.header.last sound.log.counts in
      let last : of.body.header.last ≡ set.header.last = ap (λ (h : Header). h.last) of.header_is in
      let within : set.header.first - 1 ≤ length log = omega (arith, counted, last, first-is, holds.some, holds.order, holds.inside) in
      let front : length (take (set.header.first - 1) log) ≡ set.header.first - 1 = length-take-le (set.header.first - 1) log within in
      record {
        spells = record {
          before = take (set.header.first - 1) log;
          from = drop (set.header.first - 1) log;
          splits = sym (take-append-drop (set.header.first - 1) log);
          first_is = omega (arith, front, first-is, holds.some);
          spelled_is = spells;
        };
        begun = subst (λ (n : ℕ). AllByRecursion (λ (p : Pending). n ≤ p.begin) (pending log)) first-is holds.begun;
      }

  -- it keeps what every set keeps
  pub keeps-found : IsSoundSet w set.header → KeepsFound set
  keeps-found sound = record {
    header = subst KeepsConditions of.header_is (header_keeps of.body.header of.is_body.header);
    few = subst (λ (made : List TableSpec). length made ≤ most_tables) set-tables sound.fits.log.few;
  }

-- ---- a database has room for what it has

pub path-is : (path : List ℕ) → 1 ≤ length path → length path ≤ 100 → is_path path ≡ true
path-is path some short = and_from (nat_lt 0 (length path)) (nat_le (length path) 100) (lt-ltb 0 (length path) (omega (arith, some))) (le-leb (length path) 100 short)

paths-are : (files : List HeaderFile) → AllByRecursion HasPath files → AllByRecursion (λ (f : FileSpec). is_path f.path ≡ true) (map spec_of files)
paths-are [] all = tt
paths-are (f ∷ files) all = (path-is f.spec.path all.0.0 all.0.1, paths-are files all.1)

counted-from : (n : ℕ) (files : List HeaderFile) → AreNumbered n files → CountFrom n (map spec_of files)
counted-from n [] all = tt
counted-from n (f ∷ files) all = (all.0, counted-from (n + 1) files all.1)

groups-are : (groups : ℕ) (files : List HeaderFile) → AllByRecursion (λ (f : HeaderFile). f.spec.group < groups) files → AllByRecursion (λ (f : FileSpec). f.group < groups) (map spec_of files)
groups-are groups [] all = tt
groups-are groups (f ∷ files) all = (all.0, groups-are groups files all.1)

extents-are : (files : List HeaderFile) → extents_in (map spec_of files) ≡ total_extents files
extents-are [] = refl
extents-are (f ∷ files) =
    omega (arith, extents-are files, sum_by-cons (λ (g : FileSpec). g.extents) f.spec (map spec_of files), sum_by-cons (λ (g : HeaderFile). g.spec.extents) f files)

files-fit : (groups : ℕ) (files : List HeaderFile) → KeepFiles groups files → AreDataFiles groups (map spec_of files)
files-fit groups files keep =
    let count : length (map spec_of files) ≡ length files = length-map files spec_of in record {
      some = omega (arith, keep.some, count);
      few = omega (arith, keep.few, count);
      numbered = counted-from 1 files keep.numbered;
      grouped = groups-are groups files keep.groups_there;
      small = omega (arith, keep.small, extents-are files);
    }

pub keeps-set : (set : Found) → KeepsFound set → KeepsSet set.header set.tables
keeps-set set keeps =
    let same : map spec_of set.header.files ≡ files_of_set set.header = sym (specs-are set.header) in record {
      storage = record {
        groups = keeps.header.groups_few;
        files = subst (AreDataFiles (length set.header.groups)) same (files-fit (length set.header.groups) set.header.files keeps.header.files);
        paths = subst (AllByRecursion (λ (f : FileSpec). is_path f.path ≡ true)) same (paths-are set.header.files (recursion_from_All HasPath set.header.files keeps.header.files.paths));
        log_path = path-is set.header.log_path keeps.header.log_path_some keeps.header.log_path_short;
      };
      branches = keeps.header.path_short;
      few = keeps.few;
    }
