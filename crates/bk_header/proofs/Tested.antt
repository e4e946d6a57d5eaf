-- A header passes the tests exactly where it keeps its conditions.
use Rattle.std.proofs.Common.{◌≡◌, ℕ, ◌<◌, ◌≤◌, Bool, true, refl, ltb, leb, eqb, List, [], ◌∷◌, length, Option, Some, None, arith}
use Rattle.std.specs.Prelude.{◌&&◌}
use Rattle.std.specs.List.{list_all, AllByRecursion}
use Rattle.std.proofs.lemmas.Bool.{ltb-true, leb-true, eqb-true, and_from, and_parts, eq-eqb, le-leb, lt-ltb}
use Rattle.std.proofs.lemmas.List.Elements.{All-from_recursion, recursion_from_All}
use Rattle.bk_ids.specs.declared.path.Branch.{Branch}
use Rattle.bk_world.specs.declared.header.Header.{Header}
use Rattle.bk_world.specs.declared.header.HeaderFile.{HeaderFile}
use Rattle.bk_world.specs.LemmasLists.{all_tested}
use Rattle.bk_header.specs.Conditions.{HasPath, IsExpiry, KeepFiles, KeepsConditions, KeepsPath, total_extents}
use Rattle.bk_header.specs.Keeping.{has_path, is_expiry, keeps_all, keeps_lists, keeps_texts, keeps_times, keeps_what}
use Rattle.bk_header.specs.Laws.{has_base_from, has_base_true, numbered_from, numbered_true, range_from, range_true, rise_from, rise_true}
use Rattle.bk_header.specs.Reading.{are_files, are_numbered, has_its_base, is_path, is_range, starts_rise}

expiry_true : (expiry : Option ℕ) → is_expiry expiry ≡ true → IsExpiry expiry
expiry_true None e = tt
expiry_true (Some time) e = leb-true _ _ e

path_true : (path : List ℕ) → has_path path ≡ true → (1 ≤ length path) × (length path ≤ 100)
path_true path e =
    let p = and_parts (ltb 0 (length path)) (leb (length path) 100) e in
    let some : 0 < length path = ltb-true _ _ p.0 in
    (omega (arith, some), leb-true _ _ p.1)

path_kept : (last : ℕ) (path : List Branch) → is_path last path ≡ true → KeepsPath last path × (length path ≤ 64)
path_kept last [] e = absurd cc
path_kept last (b ∷ path) e =
    let p = and_parts (eqb b.start 1 && starts_rise 1 path && list_all (λ b. ltb b.start last) (b ∷ path)) (leb (length (b ∷ path)) 64) e in
    let q = and_parts (eqb b.start 1 && starts_rise 1 path) (list_all (λ b. ltb b.start last) (b ∷ path)) p.0 in
    let r = and_parts (eqb b.start 1) (starts_rise 1 path) q.0 in
    ((eqb-true _ _ r.0, (rise_true 1 path r.1, all_tested (λ b. ltb b.start last) (λ b. b.start < last) (λ b t. ltb-true _ _ t) (b ∷ path) q.1)), leb-true _ _ p.1)

files_kept : (groups : ℕ) (files : List HeaderFile) → are_files groups files ≡ true → list_all (λ (file : HeaderFile). has_path file.spec.path) files ≡ true → KeepFiles groups files
files_kept groups files e paths =
    let p = and_parts (ltb 0 (length files) && leb (length files) 16 && are_numbered 1 files && list_all (λ f. ltb f.spec.group groups) files) (leb (total_extents files) 4096) e in
    let q = and_parts (ltb 0 (length files) && leb (length files) 16 && are_numbered 1 files) (list_all (λ f. ltb f.spec.group groups) files) p.0 in
    let r = and_parts (ltb 0 (length files) && leb (length files) 16) (are_numbered 1 files) q.0 in
    let s = and_parts (ltb 0 (length files)) (leb (length files) 16) r.0 in
    record {
      some = ltb-true _ _ s.0;
      few = leb-true _ _ s.1;
      numbered = numbered_true 1 files r.1;
      groups_there = all_tested (λ (f : HeaderFile). ltb f.spec.group groups) (λ f. f.spec.group < groups) (λ f t. ltb-true _ _ t) files q.1;
      paths = All-from_recursion HasPath files (all_tested (λ (f : HeaderFile). has_path f.spec.path) HasPath (λ f t. path_true f.spec.path t) files paths);
      small = leb-true _ _ p.1;
    }

pub all_kept : (h : Header) → keeps_all h ≡ true → KeepsConditions h
all_kept h e =
    let p = and_parts (keeps_what h && keeps_times h && keeps_lists h) (keeps_texts h) e in
    let q = and_parts (keeps_what h && keeps_times h) (keeps_lists h) p.0 in
    let r = and_parts (keeps_what h) (keeps_times h) q.0 in
    let what = and_parts (eqb h.version 1 && is_range h.kind h.first h.checkpoint h.last) (has_its_base h.kind h.base) r.0 in
    let version = and_parts (eqb h.version 1) (is_range h.kind h.first h.checkpoint h.last) what.0 in
    let times = and_parts (leb h.start 253402300799999 && leb h.finish 253402300799999) (is_expiry h.expiry) r.1 in
    let both = and_parts (leb h.start 253402300799999) (leb h.finish 253402300799999) times.0 in
    let lists = and_parts (is_path h.last h.path && ltb 0 (length h.groups) && leb (length h.groups) 8) (are_files (length h.groups) h.files) q.1 in
    let groups = and_parts (is_path h.last h.path && ltb 0 (length h.groups)) (leb (length h.groups) 8) lists.0 in
    let path = and_parts (is_path h.last h.path) (ltb 0 (length h.groups)) groups.0 in
    let texts = and_parts (leb (length h.name) 65535 && list_all (λ (file : HeaderFile). has_path file.spec.path) h.files) (has_path h.log_path) p.1 in
    let names = and_parts (leb (length h.name) 65535) (list_all (λ (file : HeaderFile). has_path file.spec.path) h.files) texts.0 in
    let short : length h.name ≤ 65535 = leb-true _ _ names.0 in
    let of_path = path_kept h.last h.path path.0 in
    let of_log = path_true h.log_path texts.1 in
    record {
      version = eqb-true _ _ version.0;
      range = range_true _ _ _ _ version.1;
      base_there = has_base_true _ _ what.1;
      start = leb-true _ _ both.0;
      finish = leb-true _ _ both.1;
      expiry = expiry_true h.expiry times.1;
      name_short = omega (arith, short);
      path = of_path.0;
      path_short = of_path.1;
      groups_some = ltb-true _ _ path.1;
      groups_few = leb-true _ _ groups.1;
      files = files_kept (length h.groups) h.files lists.1 names.1;
      log_path_some = of_log.0;
      log_path_short = of_log.1;
    }

-- the other way

all_test : {X : Type 0} (P : X → Type 0) (test : X → Bool) → ((x : X) → P x → test x ≡ true) → (xs : List X) → AllByRecursion P xs → list_all test xs ≡ true
all_test P test leads [] all = refl
all_test P test leads (x ∷ xs) all = and_from (test x) (list_all test xs) (leads x all.0) (all_test P test leads xs all.1)

path_tested : (path : List ℕ) → 1 ≤ length path → length path ≤ 100 → has_path path ≡ true
path_tested path some few = let more : 0 < length path = omega (arith, some) in and_from (ltb 0 (length path)) (leb (length path) 100) (lt-ltb 0 (length path) more) (le-leb (length path) 100 few)

expiry_tested : (expiry : Option ℕ) → IsExpiry expiry → is_expiry expiry ≡ true
expiry_tested None is = refl
expiry_tested (Some time) is = le-leb time 253402300799999 is

branches_tested : (last : ℕ) (path : List Branch) → KeepsPath last path → length path ≤ 64 → is_path last path ≡ true
branches_tested last [] keeps few = absurd keeps
branches_tested last (b ∷ path) keeps few =
    and_from _ _ (and_from _ _ (and_from _ _ (eq-eqb b.start 1 keeps.0) (rise_from 1 path keeps.1.0)) (all_test (λ (c : Branch). c.start < last) (λ c. ltb c.start last) (λ c lt. lt-ltb c.start last lt) (b ∷ path) keeps.1.1)) (le-leb (length (b ∷ path)) 64 few)

files_tested : (groups : ℕ) (files : List HeaderFile) → KeepFiles groups files → are_files groups files ≡ true
files_tested groups files keep =
    and_from _ _ (and_from _ _ (and_from _ _ (and_from _ _ (lt-ltb 0 (length files) keep.some) (le-leb (length files) 16 keep.few)) (numbered_from 1 files keep.numbered))
    (all_test (λ (f : HeaderFile). f.spec.group < groups) (λ f. ltb f.spec.group groups) (λ f lt. lt-ltb f.spec.group groups lt) files keep.groups_there)) (le-leb (total_extents files) 4096 keep.small)

pub kept_all : (h : Header) → KeepsConditions h → keeps_all h ≡ true
kept_all h k =
    let short : length h.name ≤ 65535 = omega (arith, k.name_short) in
    let what : keeps_what h ≡ true = and_from _ _ (and_from _ _ (eq-eqb h.version 1 k.version) (range_from h.kind h.first h.checkpoint h.last k.range)) (has_base_from h.kind h.base k.base_there) in
    let times : keeps_times h ≡ true = and_from _ _ (and_from _ _ (le-leb h.start 253402300799999 k.start) (le-leb h.finish 253402300799999 k.finish)) (expiry_tested h.expiry k.expiry) in
    let lists : keeps_lists h ≡ true =
    and_from _ _ (and_from _ _ (and_from _ _ (branches_tested h.last h.path k.path k.path_short) (lt-ltb 0 (length h.groups) k.groups_some)) (le-leb (length h.groups) 8 k.groups_few)) (files_tested (length h.groups) h.files k.files) in
    let paths : list_all (λ (file : HeaderFile). has_path file.spec.path) h.files ≡ true =
    all_test HasPath (λ (file : HeaderFile). has_path file.spec.path) (λ f is. path_tested f.spec.path is.0 is.1) h.files (recursion_from_All HasPath h.files k.files.paths) in
    let texts : keeps_texts h ≡ true = and_from _ _ (and_from _ _ (le-leb (length h.name) 65535 short) paths) (path_tested h.log_path k.log_path_some k.log_path_short) in
    and_from _ _ (and_from _ _ (and_from _ _ what times) lists) texts
