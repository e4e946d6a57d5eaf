-- The data files of a new database: they count from 1, and each is in one of its filegroups.
use Rattle.std.proofs.Common.{◌≡◌, ◌<◌, ◌≤◌, ℕ, ◌+◌, Bool, true, false, ◌&&◌, List, [], ◌∷◌, ◌++◌, length, Option, None, Some, refl, subst, arith, length-append}
use Rattle.std.specs.List.{AllByRecursion, list_all}
use Rattle.std.proofs.lemmas.List.{length-map}
use Rattle.bk_items.specs.declared.item.NewFile.{NewFile}
use Rattle.bk_items.specs.declared.item.NewGroup.{NewGroup}
use Rattle.bk_world.specs.declared.database.FileSpec.{FileSpec}
use Rattle.bk_lemmas.specs.Lists.{all_joined}
use Rattle.bk_machine.specs.NewFileLaws.{default_log-named, files-length, named-path}
use Rattle.bk_machine.specs.Checks.{is_name, is_path}
use Rattle.bk_machine.specs.Files.{AreDataFiles, CountFrom, extents_in, most_extents, most_files}
use Rattle.bk_machine.specs.Fits.{FitsStorage}
use Rattle.bk_machine.specs.statements.CreateDatabase.{are_named, default_log, files_in, files_of, is_named_file, is_named_group, is_named_log, new_files, new_groups, new_log_path, new_storage, primary_files}
use Rattle.bk_machine.specs.statements.CreateTable.{most_groups}

-- ---- paths

first-holds : (a b : Bool) → (a && b) ≡ true → a ≡ true
first-holds true b e = refl
first-holds false b e = e

second-holds : (a b : Bool) → (a && b) ≡ true → b ≡ true
second-holds true b e = e
second-holds false b e = absurd cc

in-paths : (n group : ℕ) (files : List NewFile) → list_all is_named_file files ≡ true → AllByRecursion (λ (f : FileSpec). is_path f.path ≡ true) (files_in n group files)
in-paths n group [] named = tt
in-paths n group (f ∷ files) named =
    (second-holds (is_name f.name) (is_path f.path) (first-holds (is_named_file f) (list_all is_named_file files) named), in-paths (n + 1) group files (second-holds (is_named_file f) (list_all is_named_file files) named))

of-paths : (n group : ℕ) (groups : List NewGroup) → list_all is_named_group groups ≡ true → AllByRecursion (λ (f : FileSpec). is_path f.path ≡ true) (files_of n group groups)
of-paths n group [] named = tt
of-paths n group (g ∷ groups) named =
    let own : (is_name g.name && list_all is_named_file g.files) ≡ true = first-holds (is_named_group g) (list_all is_named_group groups) named in
    all_joined (λ (f : FileSpec). is_path f.path ≡ true) (files_in n group g.files) (files_of (n + length g.files) (group + 1) groups)
    (in-paths n group g.files (second-holds (is_name g.name) (list_all is_named_file g.files) own)) (of-paths (n + length g.files) (group + 1) groups (second-holds (is_named_group g) (list_all is_named_group groups) named))

-- where no file is named, the name is the path of one
primary-named : (name : List ℕ) (primary : List NewFile) → is_name name ≡ true → list_all is_named_file primary ≡ true → list_all is_named_file (primary_files name primary) ≡ true
primary-named name [] is named = rw (is, named-path name is) refl
primary-named name (f ∷ files) is named = named

log-path : (name : List ℕ) (log : Option NewFile) → is_named_log log ≡ true → is_path (new_log_path name log) ≡ true
log-path name None named = named-path (default_log name) (default_log-named name)
log-path name (Some log) named = second-holds (is_name log.name) (is_path log.path) named

-- ---- new files

in-count : (n group : ℕ) (files : List NewFile) → CountFrom n (files_in n group files)
in-count n group [] = tt
in-count n group (f ∷ files) = (refl, in-count (n + 1) group files)

joined-count : (n m : ℕ) (front back : List FileSpec) → n + length front ≡ m → CountFrom n front → CountFrom m back → CountFrom n (front ++ back)
joined-count n m [] back is all more = let same : m ≡ n = omega (arith, is) in subst (λ k. CountFrom k back) same more
joined-count n m (f ∷ front) back is all more = (all.0, joined-count (n + 1) m front back (omega (arith, is)) all.1 more)

of-count : (n group : ℕ) (groups : List NewGroup) → CountFrom n (files_of n group groups)
of-count n group [] = tt
of-count n group (g ∷ groups) =
    joined-count n (n + length g.files) (files_in n group g.files) (files_of (n + length g.files) (group + 1) groups) (omega (arith, files-length n group g.files)) (in-count n group g.files)
    (of-count (n + length g.files) (group + 1) groups)

in-grouped : (most n group : ℕ) (files : List NewFile) → group < most → AllByRecursion (λ (f : FileSpec). f.group < most) (files_in n group files)
in-grouped most n group [] lt = tt
in-grouped most n group (f ∷ files) lt = (lt, in-grouped most (n + 1) group files lt)

of-grouped : (most n group : ℕ) (groups : List NewGroup) → group + length groups ≤ most → AllByRecursion (λ (f : FileSpec). f.group < most) (files_of n group groups)
of-grouped most n group [] le = tt
of-grouped most n group (g ∷ groups) le =
    all_joined (λ (f : FileSpec). f.group < most) (files_in n group g.files) (files_of (n + length g.files) (group + 1) groups) (in-grouped most n group g.files (omega (arith, le)))
    (of-grouped most (n + length g.files) (group + 1) groups (omega (arith, le)))

some-primary : (name : List ℕ) (primary : List NewFile) → 0 < length (primary_files name primary)
some-primary name [] = omega arith
some-primary name (f ∷ files) = omega arith

groups-length : (groups : List NewGroup) → length (new_groups groups) ≡ 1 + length groups
groups-length groups = omega (arith, length-map groups (λ (g : NewGroup). g.name))

pub new-files : (name : List ℕ) (primary : List NewFile) (groups : List NewGroup) → length (new_files name primary groups) ≤ most_files → extents_in (new_files name primary groups) ≤ most_extents
    → AreDataFiles (length (new_groups groups)) (new_files name primary groups)
unfolding new_files
new-files name primary groups few small =
    let own : List NewFile = primary_files name primary in
    let first : List FileSpec = files_in 1 0 own in
    let others : List FileSpec = files_of (length own + 1) 1 groups in
    let most : ℕ = length (new_groups groups) in
    let groups-are : length (new_groups groups) ≡ 1 + length groups = groups-length groups in
    record {
      some = omega (arith, length-append first others, files-length 1 0 own, some-primary name primary);
      few = few;
      numbered = joined-count 1 (length own + 1) first others (omega (arith, files-length 1 0 own)) (in-count 1 0 own) (of-count (length own + 1) 1 groups);
      grouped = all_joined (λ (f : FileSpec). f.group < most) first others (in-grouped most 1 0 own (omega (arith, groups-are))) (of-grouped most (length own + 1) 1 groups (omega (arith, groups-are)));
      small = small;
    }

-- files and filegroups that are named fit a set, where there are no more than there may be
pub new-storage-fits : (name : List ℕ) (primary : List NewFile) (groups : List NewGroup) (log : Option NewFile) → are_named name primary groups log ≡ true → length (new_groups groups) ≤ most_groups
    → AreDataFiles (length (new_groups groups)) (new_files name primary groups) → FitsStorage (new_storage name primary groups log)
unfolding new_files
new-storage-fits name primary groups log named few files =
    let before : (is_name name && list_all is_named_file primary && list_all is_named_group groups) ≡ true = first-holds (is_name name && list_all is_named_file primary && list_all is_named_group groups) (is_named_log log) named in
    let first : (is_name name && list_all is_named_file primary) ≡ true = first-holds (is_name name && list_all is_named_file primary) (list_all is_named_group groups) before in
    record {
      groups = few;
      files = files;
      paths = all_joined (λ (f : FileSpec). is_path f.path ≡ true) (files_in 1 0 (primary_files name primary)) (files_of (length (primary_files name primary) + 1) 1 groups)
          (in-paths 1 0 (primary_files name primary) (primary-named name primary (first-holds (is_name name) (list_all is_named_file primary) first) (second-holds (is_name name) (list_all is_named_file primary) first)))
          (of-paths (length (primary_files name primary) + 1) 1 groups (second-holds (is_name name && list_all is_named_file primary) (list_all is_named_group groups) before));
      log_path = log-path name log (second-holds (is_name name && list_all is_named_file primary && list_all is_named_group groups) (is_named_log log) named);
    }
