-- The extents of a full set are those of its files, in their order.
use Rattle.std.proofs.Common.{◌≡◌, ◌≤◌, ◌<◌, ◌⊎◌, ℕ, zero, suc, ◌+◌, Bool, true, List, [], ◌∷◌, ◌++◌, map, inl, inr, refl, sym, ◌∙◌, ap, subst, arith}
use Rattle.std.specs.Prelude.{◌==◌, ◌&&◌, ◌||◌, nat_le, nat_lt}
use Rattle.std.specs.List.{AllByRecursion, list_any, range_with_len}
use Rattle.std.proofs.lemmas.Bool.{and_from, and_parts, cases_Bool, eq-eqb, eqb-true, le-leb, leb-true, lt-ltb, ltb-true, or_left, or_right}
use Rattle.std.proofs.lemmas.List.Folds.{list_any-append}
use Rattle.bk_body.specs.Body.{Body, Extent}
use Rattle.bk_body.specs.Conditions.{ExtentsRise, IsBody, KeepsExtent, has_extent, holds_extent, is_in_file}
use Rattle.bk_header.specs.Conditions.{AreNumbered}
use Rattle.bk_ids.specs.declared.record.ExtentId.{ExtentId}
use Rattle.bk_lemmas.specs.Lists.{all_joined, all_mapped}
use Rattle.bk_lemmas.specs.Tests.{equal_or_not}
use Rattle.bk_world.specs.declared.header.HeaderFile.{HeaderFile}
use Rattle.bk_carried.specs.Carried.{data_extents, id_of, is_extent, is_there}
use Rattle.bk_carried.proofs.Given.{before-all, rise-behind}

-- ---- lists that rise

abbrev Before : ExtentId → ExtentId → Type 0
Before a b = (a.file < b.file) ⊎ ((a.file ≡ b.file) × (a.extent < b.extent))

abbrev Rise : List ExtentId → Type 0
Rise [] = Unit {0}
Rise (x ∷ xs) = AllByRecursion (Before x) xs × Rise xs

abbrev is_id : ExtentId → ExtentId → Bool
is_id p x = x.file == p.file && x.extent == p.extent

abbrev among : ExtentId → List ExtentId → Bool
among p xs = list_any (is_id p) xs

never-both : (a b : ExtentId) → Before a b → Before b a → ⊥
never-both a b (inl one) (inl other) = omega (arith, one, other)
never-both a b (inl one) (inr other) = omega (arith, one, other.0)
never-both a b (inr one) (inl other) = omega (arith, one.0, other)
never-both a b (inr one) (inr other) = omega (arith, one.1, other.1)

itself : (p : ExtentId) → is_id p p ≡ true
itself p = and_from (p.file == p.file) (p.extent == p.extent) (eq-eqb p.file p.file refl) (eq-eqb p.extent p.extent refl)

same-id : (p x : ExtentId) → is_id p x ≡ true → x ≡ p
same-id p x is =
    let parts = and_parts (x.file == p.file) (x.extent == p.extent) is in
    let file : x.file ≡ p.file = eqb-true x.file p.file parts.0 in
    let extent : x.extent ≡ p.extent = eqb-true x.extent p.extent parts.1 in
    ap (λ (n : ℕ). record { file = n; extent = x.extent }) file ∙ ap (λ (n : ℕ). record { file = p.file; extent = n }) extent

-- the first one is it, or it is among the others
first-or : (p x : ExtentId) (xs : List ExtentId) → among p (x ∷ xs) ≡ true → (x ≡ p) ⊎ (among p xs ≡ true)
first-or p x xs there = elim (cases_Bool (is_id p x)) [
  | inl is ↦ inl (same-id p x is)
  | inr isnt ↦ inr (sym (ap (λ (t : Bool). t || among p xs) isnt) ∙ there)
]

all-among : (P : ExtentId → Type 0) (xs : List ExtentId) (p : ExtentId) → among p xs ≡ true → AllByRecursion P xs → P p
all-among P [] p there all = absurd cc
all-among P (x ∷ xs) p there all = by (first-or p x xs there) (λ later. all-among P xs p later all.1)
  where
    by : (x ≡ p) ⊎ (among p xs ≡ true) → (among p xs ≡ true → P p) → P p
    by (inl is) next = subst P is all.0
    by (inr later) next = next later

-- two that rise with the same ids are one
one-list : (xs ys : List ExtentId) → Rise xs → Rise ys → ((p : ExtentId) → among p xs ≡ true → among p ys ≡ true) → ((p : ExtentId) → among p ys ≡ true → among p xs ≡ true) → xs ≡ ys
one-list [] [] rise others to from = refl
one-list [] (y ∷ ys) rise others to from = let no : among y [] ≡ true = from y (or_left (is_id y y) (among y ys) (itself y)) in absurd cc
one-list (x ∷ xs) [] rise others to from = let no : among x [] ≡ true = to x (or_left (is_id x x) (among x xs) (itself x)) in absurd cc
one-list (x ∷ xs) (y ∷ ys) rise others to from = ap (λ (z : ExtentId). z ∷ xs) same ∙ ap (λ (zs : List ExtentId). y ∷ zs) (one-list xs ys rise.1 others.1 forth back)
  where
    first : (x ≡ y) ⊎ (among y xs ≡ true) → (y ≡ x) ⊎ (among x ys ≡ true) → x ≡ y
    first (inl is) other = is
    first (inr one) (inl is) = sym is
    first (inr one) (inr other) = absurd (never-both x y (all-among (Before x) xs y one rise.0) (all-among (Before y) ys x other others.0))

    same : x ≡ y
    same = first (first-or y x xs (from y (or_left (is_id y y) (among y ys) (itself y)))) (first-or x y ys (to x (or_left (is_id x x) (among x xs) (itself x))))

    only : (a b p : ExtentId) (us vs : List ExtentId) → a ≡ b → AllByRecursion (Before a) us → among p us ≡ true → (b ≡ p) ⊎ (among p vs ≡ true) → among p vs ≡ true
    only a b p us vs alike all there (inl is) =
        let own : a ≡ p = alike ∙ is in
        let low : Before p p = subst (λ (q : ExtentId). Before q p) own (all-among (Before a) us p there all) in absurd (never-both p p low low)
    only a b p us vs alike all there (inr later) = later

    forth : (p : ExtentId) → among p xs ≡ true → among p ys ≡ true
    forth p there = only x y p xs ys same rise.0 there (first-or p y ys (to p (or_right (is_id p x) (among p xs) there)))

    back : (p : ExtentId) → among p ys ≡ true → among p xs ≡ true
    back p there = only y x p ys xs (sym same) others.0 there (first-or p x xs (from p (or_right (is_id p y) (among p ys) there)))

rise-joined : (xs ys : List ExtentId) → Rise xs → Rise ys → AllByRecursion (λ (x : ExtentId). AllByRecursion (Before x) ys) xs → Rise (xs ++ ys)
rise-joined [] ys rise others all = others
rise-joined (x ∷ xs) ys rise others all = (all_joined (Before x) xs ys rise.0 all.0, rise-joined xs ys rise.1 others all.1)

-- ---- the extents of files rise

abbrev some_of : ℕ → ℕ → ℕ → List ExtentId
some_of file from n = map (λ (k : ℕ). record { file = file; extent = k }) (range_with_len from n)

some-of : (file from n : ℕ) → AllByRecursion (λ (x : ExtentId). (x.file ≡ file) × (from ≤ x.extent)) (some_of file from n)
some-of file from zero = tt
some-of file from (suc n) =
    ((refl, omega arith), all_mapped (λ (x : ExtentId). (x.file ≡ file) × (from + 1 ≤ x.extent)) (λ x. (x.file ≡ file) × (from ≤ x.extent)) (λ x both. (both.0, omega (arith, both.1))) (some_of file (from + 1) n) (some-of file (from + 1) n))

some-rise : (file from n : ℕ) → Rise (some_of file from n)
some-rise file from zero = tt
some-rise file from (suc n) =
    let one : ExtentId = record { file = file; extent = from } in (
      all_mapped (λ (x : ExtentId). (x.file ≡ file) × (from + 1 ≤ x.extent)) (Before one) (λ x both. inr (sym both.0, omega (arith, both.1))) (some_of file (from + 1) n) (some-of file (from + 1) n),
      some-rise file (from + 1) n,
    )

files-from : (n : ℕ) (files : List HeaderFile) → AreNumbered n files → AllByRecursion (λ (x : ExtentId). n ≤ x.file) (data_extents files)
files-from n [] numbers = tt
files-from n (f ∷ files) numbers = all_joined (λ (x : ExtentId). n ≤ x.file) (some_of f.spec.number 1 f.spec.extents) (data_extents files)
    (all_mapped (λ (x : ExtentId). (x.file ≡ f.spec.number) × (1 ≤ x.extent)) (λ x. n ≤ x.file) (λ x both. omega (arith, both.0, numbers.0)) (some_of f.spec.number 1 f.spec.extents) (some-of f.spec.number 1 f.spec.extents))
    (all_mapped (λ (x : ExtentId). n + 1 ≤ x.file) (λ x. n ≤ x.file) (λ x low. omega (arith, low)) (data_extents files) (files-from (n + 1) files numbers.1))

files-rise : (n : ℕ) (files : List HeaderFile) → AreNumbered n files → Rise (data_extents files)
files-rise n [] numbers = tt
files-rise n (f ∷ files) numbers =
    rise-joined (some_of f.spec.number 1 f.spec.extents) (data_extents files) (some-rise f.spec.number 1 f.spec.extents) (files-rise (n + 1) files numbers.1)
    (all_mapped (λ (x : ExtentId). (x.file ≡ f.spec.number) × (1 ≤ x.extent)) (λ x. AllByRecursion (Before x) (data_extents files))
    (λ x both. all_mapped (λ (y : ExtentId). n + 1 ≤ y.file) (Before x) (λ y low. inl (omega (arith, low, both.0, numbers.0))) (data_extents files) (files-from (n + 1) files numbers.1))
    (some_of f.spec.number 1 f.spec.extents) (some-of f.spec.number 1 f.spec.extents))

-- ---- they are those that the files have

-- a file has these extents
abbrev in_some : ℕ → ℕ → ℕ → ExtentId → Type 0
in_some file from n p = (p.file ≡ file) × (from ≤ p.extent) × (p.extent < from + n)

among-some : (file from n : ℕ) (p : ExtentId) → in_some file from n p → among p (some_of file from n) ≡ true
among-some file from zero p is = absurd (omega (arith, is.1, is.2))
among-some file from (suc n) p is = elim (equal_or_not from p.extent) [
  | inl here ↦
      let one : ExtentId = record { file = file; extent = from } in
      or_left (is_id p one) (among p (some_of file (from + 1) n)) (and_from (file == p.file) (from == p.extent) (eq-eqb file p.file (sym is.0)) (eq-eqb from p.extent here))
  | inr later ↦
      let one : ExtentId = record { file = file; extent = from } in
      or_right (is_id p one) (among p (some_of file (from + 1) n)) (among-some file (from + 1) n p (is.0, omega (arith, is.1, later), omega (arith, is.2)))
]

some-among : (file from n : ℕ) (p : ExtentId) → among p (some_of file from n) ≡ true → in_some file from n p
some-among file from zero p there = absurd cc
some-among file from (suc n) p there = by (first-or p (record { file = file; extent = from }) (some_of file (from + 1) n) there) (some-among file (from + 1) n p)
  where
    by : ((record { file = file; extent = from }) ≡ p) ⊎ (among p (some_of file (from + 1) n) ≡ true) → (among p (some_of file (from + 1) n) ≡ true → in_some file (from + 1) n p) → in_some file from (suc n) p
    by (inl here) next =
        let extent : from ≡ p.extent = ap (λ (x : ExtentId). x.extent) here in
        (sym (ap (λ (x : ExtentId). x.file) here), omega (arith, extent), omega (arith, extent))
    by (inr later) next = let is = next later in (is.0, omega (arith, is.1), omega (arith, is.2))

file-among : (f : HeaderFile) (p : ExtentId) → is_in_file p.file p.extent f ≡ true → among p (some_of f.spec.number 1 f.spec.extents) ≡ true
file-among f p is =
    let parts = and_parts (f.spec.number == p.file && nat_lt 0 p.extent) (nat_le p.extent f.spec.extents) is in
    let both = and_parts (f.spec.number == p.file) (nat_lt 0 p.extent) parts.0 in
    let some : 0 < p.extent = ltb-true 0 p.extent both.1 in
    let most : p.extent ≤ f.spec.extents = leb-true p.extent f.spec.extents parts.1 in
    among-some f.spec.number 1 f.spec.extents p (sym (eqb-true f.spec.number p.file both.0), omega (arith, some), omega (arith, most))

among-file : (f : HeaderFile) (p : ExtentId) → among p (some_of f.spec.number 1 f.spec.extents) ≡ true → is_in_file p.file p.extent f ≡ true
among-file f p there =
    let is : in_some f.spec.number 1 f.spec.extents p = some-among f.spec.number 1 f.spec.extents p there in
    let some : 0 < p.extent = omega (arith, is.1) in
    let most : p.extent ≤ f.spec.extents = omega (arith, is.2) in
    and_from (f.spec.number == p.file && nat_lt 0 p.extent) (nat_le p.extent f.spec.extents)
    (and_from (f.spec.number == p.file) (nat_lt 0 p.extent) (eq-eqb f.spec.number p.file (sym is.0)) (lt-ltb 0 p.extent some)) (le-leb p.extent f.spec.extents most)

has-among : (files : List HeaderFile) (p : ExtentId) → has_extent files p.file p.extent ≡ true → among p (data_extents files) ≡ true
has-among [] p has = absurd cc
has-among (f ∷ files) p has = list_any-append (is_id p) own rest ∙ elim (cases_Bool (is_in_file p.file p.extent f)) [
  | inl is ↦ or_left (among p own) (among p rest) (file-among f p is)
  | inr isnt ↦ or_right (among p own) (among p rest) (has-among files p (sym (ap (λ (t : Bool). t || has_extent files p.file p.extent) isnt) ∙ has))
]
  where
    own : List ExtentId
    own = some_of f.spec.number 1 f.spec.extents

    rest : List ExtentId
    rest = data_extents files

among-has : (files : List HeaderFile) (p : ExtentId) → among p (data_extents files) ≡ true → has_extent files p.file p.extent ≡ true
among-has [] p there = absurd cc
among-has (f ∷ files) p there = elim (cases_Bool (among p own)) [
  | inl here ↦ or_left (is_in_file p.file p.extent f) (has_extent files p.file p.extent) (among-file f p here)
  | inr later ↦ or_right (is_in_file p.file p.extent f) (has_extent files p.file p.extent) (among-has files p (sym (ap (λ (t : Bool). t || among p rest) later) ∙ sym (list_any-append (is_id p) own rest) ∙ there))
]
  where
    own : List ExtentId
    own = some_of f.spec.number 1 f.spec.extents

    rest : List ExtentId
    rest = data_extents files

-- ---- the extents of a set

there-among : (extents : List Extent) (p : ExtentId) → among p (map id_of extents) ≡ is_there extents p.file p.extent
there-among [] p = refl
there-among (e ∷ extents) p = ap (λ (t : Bool). is_extent p.file p.extent e || t) (there-among extents p)

ids-all : (P : ExtentId → Type 0) (extents : List Extent) → AllByRecursion (λ (e : Extent). P (id_of e)) extents → AllByRecursion P (map id_of extents)
ids-all P [] all = tt
ids-all P (e ∷ extents) all = (all.0, ids-all P extents all.1)

all-ids : (P : ExtentId → Type 0) (extents : List Extent) → AllByRecursion P (map id_of extents) → AllByRecursion (λ (e : Extent). P (id_of e)) extents
all-ids P [] all = tt
all-ids P (e ∷ extents) all = (all.0, all-ids P extents all.1)

ids-rise : (extents : List Extent) → ExtentsRise extents → Rise (map id_of extents)
ids-rise [] rise = tt
ids-rise (e ∷ extents) rise = (ids-all (Before (id_of e)) extents (before-all e extents rise), ids-rise extents (rise-behind e extents rise))

rise-ids : (extents : List Extent) → Rise (map id_of extents) → ExtentsRise extents
rise-ids [] rise = tt
rise-ids (e ∷ []) rise = tt
rise-ids (e ∷ other ∷ extents) rise = (rise.0.0, rise-ids (other ∷ extents) rise.1)

held-has : (files : List HeaderFile) (file extent : ℕ) → holds_extent files file extent ≡ true → has_extent files file extent ≡ true
held-has [] file extent held = held
held-has (f ∷ files) file extent held = elim (cases_Bool (f.in_set && is_in_file file extent f)) [
  | inl is ↦ or_left (is_in_file file extent f) (has_extent files file extent) (and_parts f.in_set (is_in_file file extent f) is).1
  | inr isnt ↦ or_right (is_in_file file extent f) (has_extent files file extent) (held-has files file extent (sym (ap (λ (t : Bool). t || holds_extent files file extent) isnt) ∙ held))
]

has-held : (files : List HeaderFile) (file extent : ℕ) → AllByRecursion (λ (f : HeaderFile). f.in_set ≡ true) files → has_extent files file extent ≡ true → holds_extent files file extent ≡ true
has-held [] file extent all has = has
has-held (f ∷ files) file extent all has = elim (cases_Bool (is_in_file file extent f)) [
  | inl is ↦ or_left (f.in_set && is_in_file file extent f) (holds_extent files file extent) (and_from f.in_set (is_in_file file extent f) all.0 is)
  | inr isnt ↦ or_right (f.in_set && is_in_file file extent f) (holds_extent files file extent) (has-held files file extent all.1 (sym (ap (λ (t : Bool). t || has_extent files file extent) isnt) ∙ has))
]

ids-held : (files : List HeaderFile) (extents : List Extent) → AllByRecursion (KeepsExtent files) extents → (p : ExtentId) → among p (map id_of extents) ≡ true → has_extent files p.file p.extent ≡ true
ids-held files extents all p there =
    all-among (λ (x : ExtentId). has_extent files x.file x.extent ≡ true) (map id_of extents) p there
    (ids-all (λ (x : ExtentId). has_extent files x.file x.extent ≡ true) extents
    (all_mapped (KeepsExtent files) (λ e. has_extent files e.file e.extent ≡ true) (λ e keeps. held-has files e.file e.extent keeps.there) extents all))

pub listed : (body : Body) → IsBody body → ((file extent : ℕ) → has_extent body.header.files file extent ≡ true → is_there body.extents file extent ≡ true) → map id_of body.extents ≡ data_extents body.header.files
listed body is all =
    let files : List HeaderFile = body.header.files in
    one-list (map id_of body.extents) (data_extents files) (ids-rise body.extents is.rise) (files-rise 1 files is.header.files.numbered)
    (λ p there. has-among files p (ids-held files body.extents is.extents p there))
    (λ p there. there-among body.extents p ∙ all p.file p.extent (among-has files p there))

pub listed-there : (files : List HeaderFile) (extents : List Extent) → map id_of extents ≡ data_extents files → (file extent : ℕ) → has_extent files file extent ≡ true → is_there extents file extent ≡ true
listed-there files extents same file extent has =
    let p : ExtentId = record { file = file; extent = extent } in
    sym (there-among extents p) ∙ ap (among p) same ∙ has-among files p has

pub listed-rise : (files : List HeaderFile) (extents : List Extent) → AreNumbered 1 files → map id_of extents ≡ data_extents files → ExtentsRise extents
listed-rise files extents numbers same = rise-ids extents (subst Rise (sym same) (files-rise 1 files numbers))

all-has : (files : List HeaderFile) (xs : List ExtentId) → ((p : ExtentId) → among p xs ≡ true → has_extent files p.file p.extent ≡ true) → AllByRecursion (λ (x : ExtentId). has_extent files x.file x.extent ≡ true) xs
all-has files [] is = tt
all-has files (x ∷ xs) is = (is x (or_left (is_id x x) (among x xs) (itself x)), all-has files xs (λ p there. is p (or_right (is_id p x) (among p xs) there)))

pub listed-held : (files : List HeaderFile) (extents : List Extent) → AllByRecursion (λ (f : HeaderFile). f.in_set ≡ true) files → map id_of extents ≡ data_extents files → AllByRecursion (λ (e : Extent). holds_extent files e.file e.extent ≡ true) extents
listed-held files extents all same =
    all_mapped (λ (e : Extent). has_extent files e.file e.extent ≡ true) (λ e. holds_extent files e.file e.extent ≡ true) (λ e has. has-held files e.file e.extent all has) extents
    (all-ids (λ (x : ExtentId). has_extent files x.file x.extent ≡ true) extents (subst (AllByRecursion (λ (x : ExtentId). has_extent files x.file x.extent ≡ true)) (sym same) (all-has files (data_extents files) (among-has files))))
