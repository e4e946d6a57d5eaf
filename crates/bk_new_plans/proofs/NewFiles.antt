-- Data files of a new database, as they are made one after the other.
use Rattle.std.proofs.Common.{◌≡◌, ◌<◌, ◌≤◌, ℕ, zero, suc, ◌+◌, max, min, Bool, true, false, cond, List, [], ◌∷◌, ◌++◌, ◌-◌, length, map, take, drop, get_or, Option, Some, refl, sym, ◌∙◌, ap, arith, append_assoc, drop-cons, length-append, length-drop}
use Rattle.std.proofs.Math.Seq.{take-length}
use Rattle.std.specs.Prelude.{◌&&◌, nat_lt}
use Rattle.std.specs.List.{list_all, list_any, sum_by}
use Rattle.std.proofs.lemmas.Bool.{and_parts, ltb-true}
use Rattle.std.proofs.lemmas.Bool.Decides.{nat_tests}
use Rattle.std.proofs.lemmas.List.{length-map, map-append}
use Rattle.std.proofs.lemmas.List.Sums.{sum_by-cons, sum_by-drop_more}
use Rattle.bk_items.specs.declared.item.NewFile.{NewFile}
use Rattle.bk_items.specs.declared.item.NewGroup.{NewGroup}
use Rattle.bk_machine.specs.Checks.{is_name}
use Rattle.bk_machine.specs.Files.{extents_in}
use Rattle.bk_machine.specs.statements.CreateDatabase.{are_named, file_spec, files_in, files_of, is_named_file, is_named_group, is_named_log, new_files, new_groups, primary_files, repeated}
use Rattle.bk_world.specs.declared.database.FileSpec.{FileSpec}
use Rattle.bk_machine.specs.NewFileLaws.{files-length}
use Rattle.bk_new_plans.specs.NewFiles.{capped}

-- the element at a place, and what follows it
front-of : {X : Type 0} (xs : List X) (i : ℕ) (x : X) → i < length xs → x ≡ get_or xs i x → drop i xs ≡ x ∷ drop (i + 1) xs
front-of {X} xs i x lt here =
    let next : i + 1 ≡ suc i = omega arith in
    drop-cons xs i x lt ∙ ap (λ (y : X). y ∷ drop (suc i) xs) (sym here) ∙ ap (λ n. x ∷ drop n xs) (sym next)

-- ---- one more

module _ (before : List FileSpec) where
  -- a file that is made is the next of its filegroup
  pub next-file : (after : List FileSpec) (group i : ℕ) (asked : List NewFile) (x : NewFile) (total : List FileSpec) → i < length asked → x ≡ get_or asked i x
      → after ≡ before ++ capped (file_spec (length before + 1) group x) ∷ [] → before ++ map capped (files_in (length before + 1) group (drop i asked)) ≡ total
      → after ++ map capped (files_in (length after + 1) group (drop (i + 1) asked)) ≡ total
  next-file after group i asked x total lt here is so_far =
      let own : FileSpec = capped (file_spec (length before + 1) group x) in
      let rest : List NewFile = drop (i + 1) asked in
      let split : drop i asked ≡ x ∷ drop (i + 1) asked = front-of asked i x lt here in
      let count : length after ≡ length before + 1 = ap length is ∙ length-append before (own ∷ []) in
      ap (λ (fs : List FileSpec). fs ++ map capped (files_in (length after + 1) group rest)) is
      ∙ ap (λ n. (before ++ own ∷ []) ++ map capped (files_in (n + 1) group rest)) count
      ∙ append_assoc before (own ∷ []) (map capped (files_in (length before + 1 + 1) group rest))
      ∙ ap (λ (fs : List NewFile). before ++ map capped (files_in (length before + 1) group fs)) (sym split)
      ∙ so_far

  in-length : (n group : ℕ) (files : List NewFile) → length (map capped (files_in n group files)) ≡ length files
  in-length n group [] = refl
  in-length n group (f ∷ files) = omega (arith, in-length (n + 1) group files)

  -- the files of a filegroup that are made are those of the next one
  pub next-group : (after : List FileSpec) (i : ℕ) (groups : List NewGroup) (g : NewGroup) (total : List FileSpec) → i < length groups → g ≡ get_or groups i g
      → after ≡ before ++ map capped (files_in (length before + 1) (i + 1) g.files) → before ++ map capped (files_of (length before + 1) (i + 1) (drop i groups)) ≡ total
      → after ++ map capped (files_of (length after + 1) (i + 1 + 1) (drop (i + 1) groups)) ≡ total
  next-group after i groups g total lt here is so_far =
      let n : ℕ = length before + 1 in
      let own : List FileSpec = files_in n (i + 1) g.files in
      let rest : List NewGroup = drop (i + 1) groups in
      let split : drop i groups ≡ g ∷ drop (i + 1) groups = front-of groups i g lt here in
      let count : length after + 1 ≡ n + length g.files =
      omega (arith, ap length is, length-append before (map capped own), in-length n (i + 1) g.files) in
      ap (λ (fs : List FileSpec). fs ++ map capped (files_of (length after + 1) (i + 1 + 1) rest)) is
      ∙ ap (λ m. (before ++ map capped own) ++ map capped (files_of m (i + 1 + 1) rest)) count
      ∙ append_assoc before (map capped own) (map capped (files_of (n + length g.files) (i + 1 + 1) rest))
      ∙ ap (λ (fs : List FileSpec). before ++ fs) (sym (map-append capped own (files_of (n + length g.files) (i + 1 + 1) rest)))
      ∙ ap (λ (gs : List NewGroup). before ++ map capped (files_of n (i + 1) gs)) (sym split)
      ∙ so_far

  -- and their filegroups leave room for the others
  pub room-left : (after : List FileSpec) (n i : ℕ) (groups : List NewGroup) (g : NewGroup) → i < length groups → g ≡ get_or groups i g → after ≡ before ++ map capped (files_in n (i + 1) g.files)
      → length before + sum_by (λ (x : NewGroup). length x.files) (drop i groups) ≤ 16 → length after + sum_by (λ (x : NewGroup). length x.files) (drop (i + 1) groups) ≤ 16
  room-left after n i groups g lt here is few =
      let more : sum_by (λ (x : NewGroup). length x.files) (drop i groups) ≡ length (get_or groups i g).files + sum_by (λ (x : NewGroup). length x.files) (drop (i + 1) groups) = sum_by-drop_more (λ (x : NewGroup). length x.files) groups i g lt in
      let own : length g.files ≡ length (get_or groups i g).files = ap (λ (x : NewGroup). length x.files) here in
      omega (arith, few, more, own, ap length is, length-append before (map capped (files_in n (i + 1) g.files)), in-length n (i + 1) g.files)

-- ---- how many

of-length : (n group : ℕ) (groups : List NewGroup) → length (files_of n group groups) ≡ sum_by (λ (g : NewGroup). length g.files) groups
of-length n group [] = refl
of-length n group (g ∷ groups) =
    omega (arith, length-append (files_in n group g.files) (files_of (n + length g.files) (group + 1) groups), files-length n group g.files, of-length (n + length g.files) (group + 1) groups, sum_by-cons (λ (x : NewGroup). length x.files) g groups)

pub primary-length : (name : List ℕ) (primary : List NewFile) → length (primary_files name primary) ≡ max 1 (length primary)
primary-length name [] = refl
primary-length name (f ∷ files) = omega arith

pub new-length : (name : List ℕ) (primary : List NewFile) (groups : List NewGroup) → length (new_files name primary groups) ≡ max 1 (length primary) + sum_by (λ (g : NewGroup). length g.files) groups
unfolding new_files
new-length name primary groups =
    let own : List NewFile = primary_files name primary in
    omega (arith, length-append (files_in 1 0 own) (files_of (length own + 1) 1 groups), files-length 1 0 own, of-length (length own + 1) 1 groups, primary-length name primary)

-- PRIMARY's files, and then those of the others
pub primary-made : (name : List ℕ) (primary : List NewFile) (made : List FileSpec) → made ≡ map capped (files_in 1 0 (primary_files name primary)) → length made ≡ max 1 (length primary)
primary-made name primary made is =
    ap length is ∙ length-map (files_in 1 0 (primary_files name primary)) capped ∙ files-length 1 0 (primary_files name primary) ∙ primary-length name primary

pub all-made : (name : List ℕ) (primary : List NewFile) (groups : List NewGroup) (made all : List FileSpec) → made ≡ map capped (files_in 1 0 (primary_files name primary))
    → all ≡ made ++ map capped (files_of (length made + 1) 1 groups) → all ≡ map capped (new_files name primary groups)
unfolding new_files
all-made name primary groups made all is more =
    let own : List NewFile = primary_files name primary in
    let count : length made ≡ length own = ap length is ∙ length-map (files_in 1 0 own) capped ∙ files-length 1 0 own in
    more
    ∙ ap (λ n. made ++ map capped (files_of (n + 1) 1 groups)) count
    ∙ ap (λ (fs : List FileSpec). fs ++ map capped (files_of (length own + 1) 1 groups)) is
    ∙ sym (map-append capped (files_in 1 0 own) (files_of (length own + 1) 1 groups))

pub groups-length : (groups : List NewGroup) → length (new_groups groups) ≡ length groups + 1
groups-length groups = omega (arith, length-map groups (λ (g : NewGroup). g.name))

-- ---- what comes again

module _ {X : Type 0} (like : X → X → Bool) (xs : List X) (i : ℕ) (x : X) (lt : i < length xs) (here : x ≡ get_or xs i x) where
  rest-of : take (length xs - (i + 1)) (drop (i + 1) xs) ≡ drop (i + 1) xs
  rest-of = ap (λ n. take n (drop (i + 1) xs)) (sym (length-drop (i + 1) xs)) ∙ take-length (drop (i + 1) xs)

  step : (t : Bool) → list_any (like x) (take (length xs - (i + 1)) (drop (i + 1) xs)) ≡ t → repeated like (drop i xs) ≡ cond t (Some x) (repeated like (drop (i + 1) xs))
  step t is =
      let test : list_any (like x) (drop (i + 1) xs) ≡ t = ap (list_any (like x)) (sym rest-of) ∙ is in
      ap (repeated like) (front-of xs i x lt here) ∙ ap (λ u. cond u (Some x) (repeated like (drop (i + 1) xs))) test

  pub repeated-here : list_any (like x) (take (length xs - (i + 1)) (drop (i + 1) xs)) ≡ true → repeated like (drop i xs) ≡ Some x
  repeated-here is = step true is

  pub repeated-on : list_any (like x) (take (length xs - (i + 1)) (drop (i + 1) xs)) ≡ false → repeated like (drop (i + 1) xs) ≡ repeated like (drop i xs)
  repeated-on is = sym (step false is)

-- ---- sizes

low : (f : FileSpec) → min f.extents 4097 ≤ 4096 → capped f ≡ f
low f le = let same : min f.extents 4097 ≡ f.extents = omega (arith, le) in ap (λ n. record f { extents = n }) same

pub cap-low : (files : List FileSpec) → extents_in (map capped files) ≤ 4096 → map capped files ≡ files
cap-low [] le = refl
cap-low (f ∷ files) le =
    let sum : extents_in (capped f ∷ map capped files) ≡ min f.extents 4097 + extents_in (map capped files) = sum_by-cons (λ (x : FileSpec). x.extents) (capped f) (map capped files) in
    ap (λ (x : FileSpec). x ∷ map capped files) (low f (omega (arith, le, sum))) ∙ ap (λ (rest : List FileSpec). f ∷ rest) (cap-low files (omega (arith, le, sum)))

cap-le : (files : List FileSpec) → extents_in (map capped files) ≤ extents_in files
cap-le [] = omega arith
cap-le (f ∷ files) =
    omega (arith, sum_by-cons (λ (x : FileSpec). x.extents) (capped f) (map capped files), sum_by-cons (λ (x : FileSpec). x.extents) f files, cap-le files)

pub cap-test : (files : List FileSpec) → nat_lt 4096 (extents_in (map capped files)) ≡ nat_lt 4096 (extents_in files)
cap-test files = by (nat_lt 4096 (extents_in (map capped files))) refl
  where
    by : (t : Bool) → nat_lt 4096 (extents_in (map capped files)) ≡ t → nat_lt 4096 (extents_in (map capped files)) ≡ nat_lt 4096 (extents_in files)
    by true is =
        let high : 4096 < extents_in (map capped files) = ltb-true 4096 (extents_in (map capped files)) is in
        let above : 4096 < extents_in files = omega (arith, high, cap-le files) in
        grind (arith, nat_tests, high, above)
    by false is =
        let le : extents_in (map capped files) ≤ 4096 = grind (arith, nat_tests, is) in
        ap (λ (fs : List FileSpec). nat_lt 4096 (extents_in fs)) (cap-low files le)

-- ---- names and paths

pub record Named (name : List ℕ) (primary : List NewFile) (groups : List NewGroup) (log : Option NewFile) : Type 0 where
  pub database : is_name name ≡ true
  pub files : list_all is_named_file primary ≡ true
  pub filegroups : list_all is_named_group groups ≡ true
  pub log_is : is_named_log log ≡ true

pub named-parts : (name : List ℕ) (primary : List NewFile) (groups : List NewGroup) (log : Option NewFile) → are_named name primary groups log ≡ true → Named name primary groups log
named-parts name primary groups log e =
    let p = and_parts (is_name name && list_all is_named_file primary && list_all is_named_group groups) (is_named_log log) e in
    let q = and_parts (is_name name && list_all is_named_file primary) (list_all is_named_group groups) p.0 in
    let r = and_parts (is_name name) (list_all is_named_file primary) q.0 in
    record { database = r.0; files = r.1; filegroups = q.1; log_is = p.1 }

-- what a test of all holds of each
pub all-at : {X : Type 0} (p : X → Bool) (xs : List X) (i : ℕ) (x : X) → list_all p xs ≡ true → i < length xs → x ≡ get_or xs i x → p x ≡ true
all-at p [] i x all lt here = absurd (omega (arith, lt))
all-at p (y ∷ ys) zero x all lt here = ap p here ∙ (and_parts (p y) (list_all p ys) all).0
all-at p (y ∷ ys) (suc i) x all lt here = all-at p ys i x (and_parts (p y) (list_all p ys) all).1 (omega (arith, lt)) here
