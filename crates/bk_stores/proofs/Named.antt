-- Names of data files by their places.
use Rattle.std.proofs.Common.{◌≡◌, ◌≤◌, ◌<◌, ◌+◌, ℕ, zero, suc, List, [], ◌∷◌, length, Option, Some, inl, inr, refl, sym, ap, subst, ◌∙◌, arith}
use Rattle.std.proofs.lemmas.Bool.{cases_lt}
use Rattle.std.specs.Prelude.{slice_get}
use Rattle.bk_facts.specs.declared.facts.DataFile.{DataFile}
use Rattle.bk_paged.specs.Names.{names_of}
use Rattle.bk_side.specs.Names.{IsData, data_file as data_name, name_of}
use Rattle.bk_stores.specs.ListLaws.{got-inside, got-one}
use Rattle.bk_stores.specs.Stores.{at_paths}

-- ---- what holds of each element before a place

pub each-more : {X : Type 0} (P : X → Type 0) (xs : List X) (n : ℕ) (x : X) → slice_get xs n ≡ Some x → P x → ((k : ℕ) (y : X) → k < n → slice_get xs k ≡ Some y → P y) → (k : ℕ) (y : X) → k < n + 1 → slice_get xs k ≡ Some y → P y
each-more P xs n x at here before k y below there = elim (cases_lt k n) [
  | inl less ↦ before k y less there
  | inr more ↦ let last : k ≡ n = omega (arith, below, more) in subst P (got-one xs n x y at (ap (slice_get xs) (sym last) ∙ there)) here
]

pub each-all : {X : Type 0} (P : X → Type 0) (xs : List X) (n : ℕ) → length xs ≤ n → ((k : ℕ) (y : X) → k < n → slice_get xs k ≡ Some y → P y) → (k : ℕ) (y : X) → slice_get xs k ≡ Some y → P y
each-all P xs n all before k y there = let inside = got-inside xs k y there in before k y (omega (arith, inside, all)) there

-- ---- names

named : (f : DataFile) (g : DataFile) → Some f ≡ Some g → Some (data_name f.path) ≡ Some (data_name g.path)
named f g is = let same : f ≡ g = cc in ap (λ (h : DataFile). let name : Option (List ℕ) = Some (data_name h.path) in name) same

-- the name of a data file
pub got-name : (files : List DataFile) (i : ℕ) (f : DataFile) → slice_get files i ≡ Some f → slice_get (names_of files) i ≡ Some (data_name f.path)
got-name [] i f is = absurd cc
got-name (g ∷ files) zero f is = named g f is
got-name (g ∷ files) (suc i) f is = got-name files i f is

pub is-data : (files : List DataFile) (i : ℕ) (f : DataFile) (name : List ℕ) → slice_get files i ≡ Some f → data_name f.path ≡ name → IsData (names_of files) name
is-data files i f name there same = (suc i, got-name files i f there ∙ ap (λ (n : List ℕ). let some : Option (List ℕ) = Some n in some) same)

-- the data file of a name
name-got : (files : List DataFile) (i : ℕ) (name : List ℕ) → slice_get (names_of files) i ≡ Some name → (f : DataFile) × (slice_get files i ≡ Some f) × (data_name f.path ≡ name)
name-got [] i name is = absurd cc
name-got (g ∷ files) zero name is = let same : Some (data_name g.path) ≡ Some name = is in (g, refl, cc)
name-got (g ∷ files) (suc i) name is = name-got files i name is

pub data-is : (files : List DataFile) (name : List ℕ) → IsData (names_of files) name → (i : ℕ) × (f : DataFile) × (slice_get files i ≡ Some f) × (data_name f.path ≡ name)
data-is files name its = at its.0 its.1
  where
    at : (file : ℕ) → name_of (names_of files) file ≡ Some name → (i : ℕ) × (f : DataFile) × (slice_get files i ≡ Some f) × (data_name f.path ≡ name)
    at zero is = absurd cc
    at (suc i) is = let one = name-got files i name is in (i, one.0, one.1, one.2)

-- ---- paths

-- the data file at a path
pub path-got : (paths : List (List ℕ)) (i : ℕ) (path : List ℕ) → slice_get paths i ≡ Some path → slice_get (at_paths paths) i ≡ Some (record { path = path; pages = 0 })
path-got [] i path is = absurd cc
path-got (p ∷ paths) zero path is = let same : p ≡ path = let both : Some p ≡ Some path = is in cc in ap (λ (q : List ℕ). let file : Option DataFile = Some (record { path = q; pages = 0 }) in file) same
path-got (p ∷ paths) (suc i) path is = path-got paths i path is

pub got-path : (paths : List (List ℕ)) (i : ℕ) (f : DataFile) → slice_get (at_paths paths) i ≡ Some f → slice_get paths i ≡ Some f.path
got-path [] i f is = absurd cc
got-path (p ∷ paths) zero f is =
    let both : Some (record { path = p; pages = 0 }) ≡ Some f = is in
    let same : record { path = p; pages = 0 } ≡ f = cc in
    ap (λ (g : DataFile). let some : Option (List ℕ) = Some g.path in some) same
got-path (p ∷ paths) (suc i) f is = got-path paths i f is
