-- The files, filegroups and log of a new database fit a set: there are no more than there may be, its files count from 1, each in one of its filegroups, and all paths are such.
use Rattle.std.proofs.Common.{◌≡◌, ◌<◌, ◌≤◌, ℕ, ◌+◌, true, List, [], ◌∷◌, ◌++◌, length, Option, None, Some, refl, subst, arith, length-append}
use Rattle.std.specs.List.{AllByRecursion, list_all}
use Rattle.std.proofs.lemmas.Bool.{and_parts}
use Rattle.bk_items.specs.declared.item.NewFile.{NewFile}
use Rattle.bk_items.specs.declared.item.NewGroup.{NewGroup}
use Rattle.bk_lemmas.specs.Lists.{all_joined}
use Rattle.bk_machine.specs.Checks.{is_name, is_path}
use Rattle.bk_machine.specs.Files.{AreDataFiles, CountFrom, extents_in, most_extents, most_files}
use Rattle.bk_machine.specs.Fits.{FitsStorage}
use Rattle.bk_machine.specs.NewFileLaws.{default_log-named, files-length, named-path}
use Rattle.bk_machine.specs.statements.CreateDatabase.{are_named, default_log, files_in, files_of, is_named_file, is_named_group, is_named_log, new_files, new_groups, new_log_path, new_storage, primary_files}
use Rattle.bk_world.specs.declared.database.FileSpec.{FileSpec}
use Rattle.bk_new_plans.proofs.NewFiles.{Named, groups-length, named-parts}

-- ---- paths

abbrev HasPath : FileSpec → Type 0
HasPath f = is_path f.path ≡ true

paths-in : (n group : ℕ) (files : List NewFile) → list_all is_named_file files ≡ true → AllByRecursion HasPath (files_in n group files)
paths-in n group [] named = tt
paths-in n group (f ∷ files) named =
    let p = and_parts (is_named_file f) (list_all is_named_file files) named in
    ((and_parts (is_name f.name) (is_path f.path) p.0).1, paths-in (n + 1) group files p.1)

paths-of : (n group : ℕ) (groups : List NewGroup) → list_all is_named_group groups ≡ true → AllByRecursion HasPath (files_of n group groups)
paths-of n group [] named = tt
paths-of n group (g ∷ groups) named =
    let p = and_parts (is_named_group g) (list_all is_named_group groups) named in
    all_joined HasPath (files_in n group g.files) (files_of (n + length g.files) (group + 1) groups) (paths-in n group g.files (and_parts (is_name g.name) (list_all is_named_file g.files) p.0).1)
    (paths-of (n + length g.files) (group + 1) groups p.1)

paths-primary : (name : List ℕ) (primary : List NewFile) → is_name name ≡ true → list_all is_named_file primary ≡ true → AllByRecursion HasPath (files_in 1 0 (primary_files name primary))
paths-primary name [] database named = (named-path name database, tt)
paths-primary name (f ∷ files) database named = paths-in 1 0 (f ∷ files) named

paths-new : (name : List ℕ) (primary : List NewFile) (groups : List NewGroup) (log : Option NewFile) → Named name primary groups log → AllByRecursion HasPath (new_files name primary groups)
unfolding new_files
paths-new name primary groups log named =
    let own : List NewFile = primary_files name primary in
    all_joined HasPath (files_in 1 0 own) (files_of (length own + 1) 1 groups) (paths-primary name primary named.database named.files) (paths-of (length own + 1) 1 groups named.filegroups)

path-log : (name : List ℕ) (log : Option NewFile) → is_named_log log ≡ true → is_path (new_log_path name log) ≡ true
path-log name None named = named-path (default_log name) (default_log-named name)
path-log name (Some log) named = (and_parts (is_name log.name) (is_path log.path) named).1

-- ---- numbers and filegroups

in-count : (n group : ℕ) (files : List NewFile) → CountFrom n (files_in n group files)
in-count n group [] = tt
in-count n group (f ∷ files) = (refl, in-count (n + 1) group files)

joined-count : (n m : ℕ) (front back : List FileSpec) → n + length front ≡ m → CountFrom n front → CountFrom m back → CountFrom n (front ++ back)
joined-count n m [] back is all more = let same : m ≡ n = omega (arith, is) in subst (λ k. CountFrom k back) same more
joined-count n m (f ∷ front) back is all more = (all.0, joined-count (n + 1) m front back (omega (arith, is)) all.1 more)

of-count : (n group : ℕ) (groups : List NewGroup) → CountFrom n (files_of n group groups)
of-count n group [] = tt
of-count n group (g ∷ groups) =
    joined-count n (n + length g.files) (files_in n group g.files) (files_of (n + length g.files) (group + 1) groups) (omega (arith, files-length n group g.files)) (in-count n group g.files)
    (of-count (n + length g.files) (group + 1) groups)

in-grouped : (most n group : ℕ) (files : List NewFile) → group < most → AllByRecursion (λ (f : FileSpec). f.group < most) (files_in n group files)
in-grouped most n group [] lt = tt
in-grouped most n group (f ∷ files) lt = (lt, in-grouped most (n + 1) group files lt)

of-grouped : (most n group : ℕ) (groups : List NewGroup) → group + length groups ≤ most → AllByRecursion (λ (f : FileSpec). f.group < most) (files_of n group groups)
of-grouped most n group [] le = tt
of-grouped most n group (g ∷ groups) le =
    all_joined (λ (f : FileSpec). f.group < most) (files_in n group g.files) (files_of (n + length g.files) (group + 1) groups) (in-grouped most n group g.files (omega (arith, le)))
    (of-grouped most (n + length g.files) (group + 1) groups (omega (arith, le)))

some-primary : (name : List ℕ) (primary : List NewFile) → 0 < length (primary_files name primary)
some-primary name [] = omega arith
some-primary name (f ∷ files) = omega arith

files-fit : (name : List ℕ) (primary : List NewFile) (groups : List NewGroup) → length (new_files name primary groups) ≤ most_files → extents_in (new_files name primary groups) ≤ most_extents
    → AreDataFiles (length (new_groups groups)) (new_files name primary groups)
unfolding new_files
files-fit name primary groups few small =
    let own : List NewFile = primary_files name primary in
    let first : List FileSpec = files_in 1 0 own in
    let others : List FileSpec = files_of (length own + 1) 1 groups in
    let most : ℕ = length (new_groups groups) in
    let count : length (new_groups groups) ≡ length groups + 1 = groups-length groups in
    record {
      some = omega (arith, length-append first others, files-length 1 0 own, some-primary name primary);
      few = few;
      numbered = joined-count 1 (length own + 1) first others (omega (arith, files-length 1 0 own)) (in-count 1 0 own) (of-count (length own + 1) 1 groups);
      grouped = all_joined (λ (f : FileSpec). f.group < most) first others (in-grouped most 1 0 own (omega (arith, count))) (of-grouped most (length own + 1) 1 groups (omega (arith, count)));
      small = small;
    }

-- what is asked for fits, where it is no more than there may be
pub storage-fits : (name : List ℕ) (primary : List NewFile) (groups : List NewGroup) (log : Option NewFile) → are_named name primary groups log ≡ true
    → length (new_files name primary groups) ≤ 16 → length groups < 8 → extents_in (new_files name primary groups) ≤ 4096 → FitsStorage (new_storage name primary groups log)
storage-fits name primary groups log e few few_groups small =
    let named : Named name primary groups log = named-parts name primary groups log e in
    record {
      groups = omega (arith, groups-length groups, few_groups);
      files = files-fit name primary groups few small;
      paths = paths-new name primary groups log named;
      log_path = path-log name log named.log_is;
    }
