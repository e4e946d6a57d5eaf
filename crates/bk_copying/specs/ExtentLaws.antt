-- What data extents are.
use Rattle.std.proofs.Common.{◌≡◌, ◌⊎◌, ◌≤◌, ◌<◌, ◌+◌, ◌*◌, ◌^◌, ℕ, zero, suc, List, [], ◌∷◌, ◌++◌, length, Some, refl, inl, inr, sym, ap, subst, append_assoc, length-append, arith}
use Rattle.std.specs.List.{All, AllByRecursion}
use Rattle.std.specs.Option.{option_map_or}
use Rattle.std.specs.Prelude.{min, slice_get}
use Rattle.std.proofs.lemmas.Bool.{cases_lt}
use Rattle.std.proofs.lemmas.List.{append-nil}
use Rattle.std.proofs.lemmas.List.Elements.{All-push}
use Rattle.bk_facts.specs.declared.facts.DataFile.{DataFile}
use Rattle.bk_ids.specs.declared.record.ExtentId.{ExtentId}
use Rattle.bk_paged.specs.Names.{pages_in}
use Rattle.bk_copying.specs.Extents.{HasExtent, IdsRise, IsBefore, extent_count, extents_below, extents_of, extents_to}

-- so many data extents lie within so many pages
count-within : (pages n : ℕ) → n + 1 ≤ extent_count pages → (8 * (n + 1) + 8 ≤ pages) × (n + 1 ≤ 4096)
count-within pages n low = (omega (arith, low), omega (arith, low))

to-there : (files : List DataFile) (before : List ExtentId) (file n : ℕ) → n ≤ extent_count (pages_in files file) → All (HasExtent files) before → All (HasExtent files) (before ++ extents_to file n)
to-there files before file zero low all = subst (All (HasExtent files)) (sym (append-nil before)) all
to-there files before file (suc n) low all =
    let size : n + 1 ≤ extent_count (pages_in files file) = omega (arith, low) in
    let fits = count-within (pages_in files file) n size in
    let last : ExtentId = record { file = file; extent = n + 1 } in
    let front : All (HasExtent files) (before ++ extents_to file n) = to-there files before file n (omega (arith, low)) all in
    let one : HasExtent files last = record { some = omega arith; low = fits.1; there = fits.0 } in
    subst (All (HasExtent files)) (append_assoc before (extents_to file n) (last ∷ [])) (All-push (HasExtent files) (before ++ extents_to file n) last front one)

below-there : (files : List DataFile) (n : ℕ) → All (HasExtent files) (extents_below files n)
below-there files zero = λ k d within. absurd (omega (arith, within))
below-there files (suc n) = to-there files (extents_below files n) (n + 1) (extent_count (pages_in files (n + 1))) (omega arith) (below-there files n)

-- the files have them
pub extents-there : (files : List DataFile) → All (HasExtent files) (extents_of files)
extents-there files = below-there files (min (length files) 65535)

to-length : (file n : ℕ) → length (extents_to file n) ≡ n
to-length file zero = refl
to-length file (suc n) = omega (arith, length-append (extents_to file n) ((record { file = file; extent = n + 1 }) ∷ []), to-length file n)

below-few : (files : List DataFile) (n : ℕ) → length (extents_below files n) ≤ 4096 * n
below-few files zero = omega arith
below-few files (suc n) =
    let more : List ExtentId = extents_to (n + 1) (extent_count (pages_in files (n + 1))) in
    omega (arith, length-append (extents_below files n) more, to-length (n + 1) (extent_count (pages_in files (n + 1))), below-few files n)

-- and they are few
pub extents-few : (files : List DataFile) → length (extents_of files) < 2 ^ 28
extents-few files = omega (arith, below-few files (min (length files) 65535))

-- ---- they rise

all-push : {X : Type 0} (P : X → Type 0) (xs : List X) (x : X) → AllByRecursion P xs → P x → AllByRecursion P (xs ++ x ∷ [])
all-push P [] x all is = (is, tt)
all-push P (y ∷ xs) x all is = (all.0, all-push P xs x all.1 is)

all-as : {X : Type 0} (P Q : X → Type 0) → ((x : X) → P x → Q x) → (xs : List X) → AllByRecursion P xs → AllByRecursion Q xs
all-as P Q leads [] all = tt
all-as P Q leads (x ∷ xs) all = (leads x all.0, all-as P Q leads xs all.1)

rise-push : (ids : List ExtentId) (e : ExtentId) → IdsRise ids → AllByRecursion (λ (x : ExtentId). IsBefore x e) ids → IdsRise (ids ++ e ∷ [])
rise-push [] e rise all = tt
rise-push (x ∷ []) e rise all = (all.0, tt)
rise-push (x ∷ y ∷ ids) e rise all = (rise.0, rise-push (y ∷ ids) e rise.1 all.1)

-- of a file below this one, or one of the first n of it
abbrev UpTo : ℕ → ℕ → ExtentId → Type 0
UpTo file n e = (e.file < file) ⊎ ((e.file ≡ file) × (e.extent ≤ n))

to-up : (file : ℕ) (before : List ExtentId) (n : ℕ) → AllByRecursion (λ (x : ExtentId). x.file < file) before → AllByRecursion (UpTo file n) (before ++ extents_to file n)
to-up file before zero low = subst (AllByRecursion (UpTo file 0)) (sym (append-nil before)) (all-as (λ (x : ExtentId). x.file < file) (UpTo file 0) (λ x is. inl is) before low)
to-up file before (suc n) low =
    let last : ExtentId = record { file = file; extent = n + 1 } in
    let wider : (x : ExtentId) → UpTo file n x → UpTo file (suc n) x = λ x is. elim is [ inl before' ↦ inl before' | inr here ↦ inr (here.0, omega (arith, here.1)) ] in
    let front : AllByRecursion (UpTo file (suc n)) (before ++ extents_to file n) = all-as (UpTo file n) (UpTo file (suc n)) wider (before ++ extents_to file n) (to-up file before n low) in
    subst (AllByRecursion (UpTo file (suc n))) (append_assoc before (extents_to file n) (last ∷ [])) (all-push (UpTo file (suc n)) (before ++ extents_to file n) last front (inr (refl, omega arith)))

to-rise : (file : ℕ) (before : List ExtentId) (n : ℕ) → AllByRecursion (λ (x : ExtentId). x.file < file) before → IdsRise before → IdsRise (before ++ extents_to file n)
to-rise file before zero low rise = subst IdsRise (sym (append-nil before)) rise
to-rise file before (suc n) low rise =
    let last : ExtentId = record { file = file; extent = n + 1 } in
    let under : (x : ExtentId) → UpTo file n x → IsBefore x last = λ x is. elim is [ inl before' ↦ inl before' | inr here ↦ inr (here.0, omega (arith, here.1)) ] in
    let front : AllByRecursion (λ (x : ExtentId). IsBefore x last) (before ++ extents_to file n) = all-as (UpTo file n) (λ (x : ExtentId). IsBefore x last) under (before ++ extents_to file n) (to-up file before n low) in
    subst IdsRise (append_assoc before (extents_to file n) (last ∷ [])) (rise-push (before ++ extents_to file n) last (to-rise file before n low rise) front)

below-low : (files : List DataFile) (n : ℕ) → AllByRecursion (λ (x : ExtentId). x.file < n + 1) (extents_below files n)
below-low files zero = tt
below-low files (suc n) =
    let count : ℕ = extent_count (pages_in files (n + 1)) in
    let low : (x : ExtentId) → UpTo (n + 1) count x → x.file < suc n + 1 = λ x is. elim is [ inl before ↦ omega (arith, before) | inr here ↦ omega (arith, here.0) ] in
    all-as (UpTo (n + 1) count) (λ (x : ExtentId). x.file < suc n + 1) low (extents_below files (suc n)) (to-up (n + 1) (extents_below files n) count (below-low files n))

below-rise : (files : List DataFile) (n : ℕ) → IdsRise (extents_below files n)
below-rise files zero = tt
below-rise files (suc n) = to-rise (n + 1) (extents_below files n) (extent_count (pages_in files (n + 1))) (below-low files n) (below-rise files n)

pub extents-rise : (files : List DataFile) → IdsRise (extents_of files)
extents-rise files = below-rise files (min (length files) 65535)

-- ---- no other is there

at-front : (xs ys : List ExtentId) (i : ℕ) (x : ExtentId) → slice_get xs i ≡ Some x → slice_get (xs ++ ys) i ≡ Some x
at-front [] ys i x there = absurd cc
at-front (y ∷ xs) ys zero x there = there
at-front (y ∷ xs) ys (suc i) x there = at-front xs ys i x there

at-back : (xs ys : List ExtentId) (i k : ℕ) (x : ExtentId) → k ≡ length xs + i → slice_get ys i ≡ Some x → slice_get (xs ++ ys) k ≡ Some x
at-back [] ys i k x is there = let same : i ≡ k = omega (arith, is) in subst (λ (n : ℕ). slice_get ys n ≡ Some x) same there
at-back (y ∷ xs) ys i zero x is there = absurd (omega (arith, is))
at-back (y ∷ xs) ys i (suc k) x is there = at-back xs ys i k x (omega (arith, is)) there

-- it is one of these
abbrev Among : ExtentId → List ExtentId → Type 0
Among x xs = (i : ℕ) × (slice_get xs i ≡ Some x)

to-all : (file n k : ℕ) → 1 ≤ k → k ≤ n → Among (record { file = file; extent = k }) (extents_to file n)
to-all file zero k some low = absurd (omega (arith, some, low))
to-all file (suc n) k some low =
    let last : ExtentId = record { file = file; extent = n + 1 } in
    elim (cases_lt n k) [
      | inl past ↦
          let same : n + 1 ≡ k = omega (arith, past, low) in
          subst (λ (m : ℕ). Among (record { file = file; extent = m }) (extents_to file (suc n))) same (length (extents_to file n) + 0, at-back (extents_to file n) (last ∷ []) 0 (length (extents_to file n) + 0) last refl refl)
      | inr within ↦ let front = to-all file n k some within in (front.0, at-front (extents_to file n) (last ∷ []) front.0 (record { file = file; extent = k }) front.1)
    ]

below-all : (files : List DataFile) (n file k : ℕ) → 1 ≤ file → file ≤ n → 1 ≤ k → k ≤ extent_count (pages_in files file) → Among (record { file = file; extent = k }) (extents_below files n)
below-all files zero file k some low first few = absurd (omega (arith, some, low))
below-all files (suc n) file k some low first few =
    let next : List ExtentId = extents_to (n + 1) (extent_count (pages_in files (n + 1))) in
    elim (cases_lt n file) [
      | inl past ↦
          let same : n + 1 ≡ file = omega (arith, past, low) in
          let here : Among (record { file = n + 1; extent = k }) next = to-all (n + 1) (extent_count (pages_in files (n + 1))) k first (omega (arith, few, ap (λ (m : ℕ). extent_count (pages_in files m)) same)) in
          subst (λ (m : ℕ). Among (record { file = m; extent = k }) (extents_below files (suc n))) same (length (extents_below files n) + here.0, at-back (extents_below files n) next here.0 (length (extents_below files n) + here.0) (record { file = n + 1; extent = k }) refl here.1)
      | inr within ↦ let front = below-all files n file k some within first few in (front.0, at-front (extents_below files n) next front.0 (record { file = file; extent = k }) front.1)
    ]

got-inside : (files : List DataFile) (i : ℕ) → 1 ≤ option_map_or (λ (f : DataFile). f.pages) (slice_get files i) 0 → i < length files
got-inside [] i some = absurd (omega (arith, some))
got-inside (f ∷ files) zero some = omega arith
got-inside (f ∷ files) (suc i) some = omega (arith, got-inside files i some)

-- a page lies in a file that is there
pub file-inside : (files : List DataFile) (file : ℕ) → 1 ≤ pages_in files file → (1 ≤ file) × (file ≤ length files)
file-inside files zero some = absurd (omega (arith, some))
file-inside files (suc i) some = (omega arith, omega (arith, got-inside files i some))

count-all : (pages n : ℕ) → 8 * n + 8 ≤ pages → n ≤ 4096 → n ≤ extent_count pages
count-all pages n there low = omega (arith, there, low)

-- each data extent of the files is among them
pub extents-all : (files : List DataFile) (file k : ℕ) → length files < 2 ^ 16 → HasExtent files (record { file = file; extent = k }) → (i : ℕ) × (slice_get (extents_of files) i ≡ Some (record { file = file; extent = k }))
extents-all files file k few has =
    let inside = file-inside files file (omega (arith, has.there)) in
    below-all files (min (length files) 65535) file k inside.0 (omega (arith, few, inside.1)) has.some (count-all (pages_in files file) k has.there has.low)
