-- A database of a sound world fits a set: its header keeps a set's conditions.
use Rattle.std.proofs.Common.{◌≡◌, ◌<◌, ◌≤◌, ℕ, ◌+◌, true, List, [], ◌∷◌, length, map, None, refl, sym, subst, arith}
use Rattle.std.specs.Prelude.{nat_le, nat_lt}
use Rattle.std.specs.List.{AllByRecursion}
use Rattle.std.proofs.lemmas.Bool.{and_parts, ltb-true, leb-true}
use Rattle.std.proofs.lemmas.List.{length-map}
use Rattle.std.proofs.lemmas.List.Elements.{All-from_recursion}
use Rattle.std.proofs.lemmas.List.Sums.{sum_by-cons}
use Rattle.bk_ids.specs.declared.path.Branch.{Branch}
use Rattle.bk_ids.specs.Path.{IsPath}
use Rattle.bk_header.specs.Conditions.{AreNumbered as AreFilesNumbered, HasItsBase, HasPath, IsExpiry, IsRange, KeepFiles, KeepsConditions, KeepsPath, total_extents}
use Rattle.bk_kept.specs.Keeps.{database_of}
use Rattle.bk_kept.specs.declared.kept.Database.{Database as KeptDatabase}
use Rattle.bk_lemmas.specs.Lists.{all_mapped}
use Rattle.bk_machine.specs.Checks.{is_path}
use Rattle.bk_machine.specs.Files.{AreDataFiles, CountFrom, extents_in}
use Rattle.bk_machine.specs.Fits.{FitsStorage}
use Rattle.bk_machine.specs.World.{World, log_of}
use Rattle.bk_machine.specs.declared.job.Job.{Job}
use Rattle.bk_machine.specs.statements.Backup.{set_header}
use Rattle.bk_media_plans.specs.Sets.{MayMakeSet}
use Rattle.bk_world.specs.declared.database.FileSpec.{FileSpec}
use Rattle.bk_world.specs.Telling.{model}
use Rattle.bk_world.specs.declared.header.HeaderFile.{HeaderFile}
use Rattle.bk_world.specs.declared.header.SetKind.{SetKind}
use Rattle.bk_world.specs.declared.header.SetKind.TheVariants.{Full}

-- a data file as a full set's header names it
abbrev pub in_full : FileSpec → HeaderFile
in_full file = record { spec = file; in_set = true }

path-keeps : (end last : ℕ) (path : List Branch) → end ≤ last → IsPath path → AllByRecursion (λ (b : Branch). b.start < end) path → KeepsPath last path
path-keeps end last [] le is below = absurd is
path-keeps end last (b ∷ path) le is below = (is.0, (is.1, all_mapped (λ (c : Branch). c.start < end) (λ c. c.start < last) (λ c lt. omega (arith, lt, le)) (b ∷ path) below))

files-numbered : (n : ℕ) (files : List FileSpec) → CountFrom n files → AreFilesNumbered n (map in_full files)
files-numbered n [] all = tt
files-numbered n (f ∷ files) all = (all.0, files-numbered (n + 1) files all.1)

full-extents : (files : List FileSpec) → total_extents (map in_full files) ≡ extents_in files
full-extents [] = refl
full-extents (f ∷ files) =
    omega (arith, full-extents files, sum_by-cons (λ (g : HeaderFile). g.spec.extents) (in_full f) (map in_full files), sum_by-cons (λ (g : FileSpec). g.extents) f files)

all-full : (P : HeaderFile → Type 0) (files : List FileSpec) → AllByRecursion (λ f. P (in_full f)) files → AllByRecursion P (map in_full files)
all-full P [] all = tt
all-full P (f ∷ files) all = (all.0, all-full P files all.1)

path-length : (path : List ℕ) → is_path path ≡ true → (1 ≤ length path) × (length path ≤ 100)
path-length path is =
    let p = and_parts (nat_lt 0 (length path)) (nat_le (length path) 100) is in
    let some : 0 < length path = ltb-true 0 (length path) p.0 in
    (omega (arith, some), leb-true (length path) 100 p.1)

files-keep : (groups : ℕ) (files : List FileSpec) → AreDataFiles groups files → AllByRecursion (λ (f : FileSpec). is_path f.path ≡ true) files → KeepFiles groups (map in_full files)
files-keep groups files are paths =
    let count : length (map in_full files) ≡ length files = length-map files in_full in record {
      some = omega (arith, are.some, count);
      few = omega (arith, are.few, count);
      numbered = files-numbered 1 files are.numbered;
      groups_there = all-full (λ (f : HeaderFile). f.spec.group < groups) files are.grouped;
      paths = All-from_recursion HasPath (map in_full files) (all-full HasPath files (all_mapped (λ (f : FileSpec). is_path f.path ≡ true) (λ f. HasPath (in_full f)) (λ f is. path-length f.path is) files paths));
      small = omega (arith, are.small, full-extents files);
    }

some-group : (groups : ℕ) (files : List FileSpec) → 0 < length files → AllByRecursion (λ (f : FileSpec). f.group < groups) files → 0 < groups
some-group groups [] some all = absurd (omega (arith, some))
some-group groups (f ∷ files) some all = omega (arith, all.0)

range-of : (kind : SetKind) (first checkpoint last : ℕ) → kind ≡ Full → first ≤ checkpoint → checkpoint < last → IsRange kind first checkpoint last
range-of kind first checkpoint last is one other = subst (λ (k : SetKind). IsRange k first checkpoint last) (sym is) (one, other)

pub header-keeps : (w : World) (d : KeptDatabase) (job : Job) (last time : ℕ) → MayMakeSet w d job last time → KeepsConditions (set_header (model (log_of w.history (database_of d))) (database_of d) job last time)
header-keeps w d job last time may =
    let storage : FitsStorage (record { groups = d.groups; files = d.files; log_name = d.log_name; log_path = d.log_path }) = may.whole.fits.storage in
    let log_path = path-length d.log_path storage.log_path in
    record {
      version = refl;
      range = range-of job.kind job.first job.checkpoint last may.kind may.first may.checkpoint;
      base_there = subst (λ (k : SetKind). HasItsBase k None) (sym may.kind) tt;
      start = may.start;
      finish = may.timely;
      expiry = subst IsExpiry (sym may.expiry) tt;
      name_short = omega (arith, may.name);
      path = path-keeps d.shown.«end» last d.path may.ends may.whole.path may.whole.starts;
      path_short = may.whole.fits.branches;
      groups_some = some-group (length d.groups) d.files storage.files.some storage.files.grouped;
      groups_few = storage.groups;
      files = files-keep (length d.groups) d.files storage.files storage.paths;
      log_path_some = log_path.0;
      log_path_short = log_path.1;
    }
