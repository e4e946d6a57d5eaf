-- What the layers above may take of the pages that a set makes.
use Rattle.std.proofs.Common.{◌≡◌, ◌⊎◌, ◌≤◌, ◌<◌, ◌+◌, ◌*◌, ◌/◌, ◌%◌, ℕ, zero, suc, Bool, true, false, ◌||◌, List, [], ◌∷◌, Some, refl, inl, inr, sym, ap, subst, ◌∙◌, arith}
use Rattle.std.specs.List.{AllByRecursion}
use Rattle.std.specs.Prelude.{◌==◌, ◌&&◌, nat_le, nat_lt, slice_get}
use Rattle.std.proofs.lemmas.Bool.{cond-false, cond-true, le-ltb, lt-ltb}
use Rattle.std.proofs.lemmas.Grind.{common_steps}
use Rattle.std.proofs.lemmas.Option.{same_Some}
use Rattle.bk_body.specs.Body.{Body, Extent}
use Rattle.bk_body.specs.Conditions.{ComesBefore, ExtentsRise, IsBody, KeepsExtent, holds_extent}
use Rattle.bk_page.specs.Page.{fresh_page, part}
use Rattle.bk_world.specs.declared.header.HeaderFile.{HeaderFile}
use Rattle.bk_arriving.specs.Sets.{bytes_in, pages_of}

-- ---- the extent of a file and number

same_place : (file number : ℕ) → (file == file && number == number) ≡ true
same_place file number = grind (arith, common_steps)

other_place : (file number other_file other_number : ℕ) → (file < other_file) ⊎ ((file ≡ other_file) × (number < other_number)) → (file == other_file && number == other_number) ≡ false
other_place file number other_file other_number before = grind (arith, common_steps)

before_then : (x y z : Extent) → ComesBefore x y → ComesBefore y z → ComesBefore x z
before_then x y z first second = elim first [
  | inl less ↦ elim second [ inl more ↦ inl (omega (arith, less, more)) | inr same ↦ inl (omega (arith, less, same.0)) ]
  | inr in_file ↦ elim second [ inl more ↦ inl (omega (arith, in_file.0, more)) | inr same ↦ inr (in_file.0 ∙ same.0, omega (arith, in_file.1, same.1)) ]
]

-- extents that rise come behind the first one
behind_first : (x : Extent) (extents : List Extent) (i : ℕ) (e : Extent) → ExtentsRise (x ∷ extents) → slice_get extents i ≡ Some e → ComesBefore x e
behind_first x [] i e rise there = absurd cc
behind_first x (y ∷ extents) zero e rise there = subst (ComesBefore x) (same_Some y e there) rise.0
behind_first x (y ∷ extents) (suc i) e rise there = before_then x y e rise.0 (behind_first y extents i e rise.1 there)

rise_behind : (x : Extent) (extents : List Extent) → ExtentsRise (x ∷ extents) → ExtentsRise extents
rise_behind x [] rise = tt
rise_behind x (y ∷ extents) rise = rise.1

-- extents that rise have each file and number once
pub found : (extents : List Extent) (i : ℕ) (e : Extent) → ExtentsRise extents → slice_get extents i ≡ Some e → bytes_in extents e.file e.extent ≡ e.bytes
found [] i e rise there = absurd cc
found (x ∷ extents) zero e rise there =
    let Is : Extent → Type 0 = λ y. bytes_in (x ∷ extents) y.file y.extent ≡ y.bytes in
    subst Is (same_Some x e there) (cond-true (x.file == x.file && x.extent == x.extent) x.bytes (bytes_in extents x.file x.extent) (same_place x.file x.extent))
found (x ∷ extents) (suc i) e rise there =
    cond-false (x.file == e.file && x.extent == e.extent) x.bytes (bytes_in extents e.file e.extent) (other_place x.file x.extent e.file e.extent (behind_first x extents i e rise there))
    ∙ found extents i e (rise_behind x extents rise) there

-- ---- pages

-- header pages are fresh
pub header_page : (body : Body) (file number : ℕ) → number < 8 → pages_of body (file, number) ≡ fresh_page file number
header_page body file number below = cond-true (nat_lt number 8) (fresh_page file number) (part (bytes_in body.extents file (number / 8)) (8192 * (number % 8)) 8192) (lt-ltb number 8 below)

-- the others are those of the extent of that file and number
pub page_behind : (body : Body) (file number j : ℕ) (bytes : List ℕ) → 8 ≤ number → number % 8 ≡ 0 → j < 8 → bytes_in body.extents file (number / 8) ≡ bytes → pages_of body (file, number + j) ≡ part bytes (8192 * j) 8192
page_behind body file number j bytes past even below same =
    let Page : ℕ → ℕ → List ℕ = λ e k. part (bytes_in body.extents file e) (8192 * k) 8192 in
    let of_extent : (number + j) / 8 ≡ number / 8 = omega (arith, even, below) in
    let in_extent : (number + j) % 8 ≡ j = omega (arith, even, below) in
    cond-false (nat_lt (number + j) 8) (fresh_page file (number + j)) (Page ((number + j) / 8) ((number + j) % 8)) (le-ltb (number + j) 8 (omega (arith, past)))
    ∙ ap (λ (e : ℕ). Page e ((number + j) % 8)) of_extent ∙ ap (Page (number / 8)) in_extent ∙ ap (λ (b : List ℕ). part b (8192 * j) 8192) same

-- no data extent has the number 0
no_file : (in_set same there rest : Bool) → rest ≡ false → (in_set && (same && false && there) || rest) ≡ false
no_file true true there rest none = none
no_file true false there rest none = none
no_file false same there rest none = none

none_first : (files : List HeaderFile) (file : ℕ) → holds_extent files file 0 ≡ false
none_first [] file = refl
none_first (f ∷ files) file = no_file f.in_set (f.spec.number == file) (nat_le 0 f.spec.extents) (holds_extent files file 0) (none_first files file)

numbered : (files : List HeaderFile) (file number : ℕ) → holds_extent files file number ≡ true → 1 ≤ number
numbered files file zero holds = let both : true ≡ false = sym holds ∙ none_first files file in absurd (cc)
numbered files file (suc number) holds = omega arith

kept_at : (P : Extent → Type 0) (extents : List Extent) (i : ℕ) (e : Extent) → AllByRecursion P extents → slice_get extents i ≡ Some e → P e
kept_at P [] i e all there = absurd cc
kept_at P (x ∷ extents) zero e all there = subst P (same_Some x e there) all.0
kept_at P (x ∷ extents) (suc i) e all there = kept_at P extents i e all.1 there

-- so a set's extents are the pages with their numbers
pub extent_page : (body : Body) (i : ℕ) (e : Extent) (j : ℕ) → IsBody body → slice_get body.extents i ≡ Some e → j < 8 → pages_of body (e.file, 8 * e.extent + j) ≡ part e.bytes (8192 * j) 8192
extent_page body i e j is there below =
    let keeps = kept_at (KeepsExtent body.header.files) body.extents i e is.extents there in
    let some : 1 ≤ e.extent = numbered body.header.files e.file e.extent keeps.there in
    let number : e.extent ≡ 8 * e.extent / 8 = omega arith in
    let same : bytes_in body.extents e.file (8 * e.extent / 8) ≡ e.bytes = subst (λ (n : ℕ). bytes_in body.extents e.file n ≡ e.bytes) number (found body.extents i e is.rise there) in
    page_behind body e.file (8 * e.extent) j e.bytes (omega (arith, some)) (omega arith) below same
