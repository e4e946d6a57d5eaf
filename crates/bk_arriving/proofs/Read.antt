-- The extents of a set, as pages.
use Rattle.std.proofs.Common.{◌≡◌, ◌<◌, ◌+◌, ◌*◌, ◌/◌, ℕ, zero, suc, List, [], ◌∷◌, length, Option, Some, None, ap, subst, ◌∙◌, arith}
use Rattle.std.specs.Prelude.{slice_get}
use Rattle.bk_body.specs.Body.{Body, Extent}
use Rattle.bk_body.specs.Conditions.{ExtentsRise}
use Rattle.bk_filling.specs.Filling.{Kept, place_of}
use Rattle.bk_page.specs.Page.{part}
use Rattle.bk_volume.specs.Stored.{GivesExtent}
use Rattle.bk_arriving.specs.Laws.{found, header_page, page_behind}
use Rattle.bk_arriving.specs.Sets.{bytes_in, pages_of}
use Rattle.bk_arriving.specs.Steps.{AreAt, HasHeaders, IsEven, IsNext, IsPast, Remain, ahead}
use Rattle.bk_arriving.proofs.Rest.{is_next, put_back, taken}

pub headers_of : (body : Body) → HasHeaders (pages_of body)
headers_of body file number below = header_page body file number below

-- the extent that was read, and that comes next
pub read_pages : (f : Kept) (place : Option (ℕ × ℕ)) (bytes : List ℕ) (body : Body) (i : ℕ) → IsEven f → IsPast f → ExtentsRise body.extents → GivesExtent place bytes (slice_get body.extents i) → IsNext f place → AreAt (pages_of body) (place_of f) 8 (λ j. part bytes (8192 * j) 8192)
read_pages f None bytes body i even past rise given next = absurd next
read_pages f (Some place) bytes body i even past rise given next = λ j below.
    let e : Extent = record { file = place.0; extent = place.1; bytes = bytes } in
    let there : bytes_in body.extents place.0 place.1 ≡ bytes = found body.extents i e rise given in
    let here : bytes_in body.extents (f.whole + 1) (f.page / 8) ≡ bytes = subst (λ (n : ℕ). bytes_in body.extents (f.whole + 1) n ≡ bytes) next.2 (subst (λ (n : ℕ). bytes_in body.extents n place.1 ≡ bytes) next.1 there) in
    page_behind body (f.whole + 1) f.page j bytes (past next.0) even.even below here

pub read_rest : (f : Kept) (place : Option (ℕ × ℕ)) (bytes : List ℕ) (extents : List Extent) (i : ℕ) → IsEven f → IsPast f → GivesExtent place bytes (slice_get extents i) → IsNext f place → Remain i extents f → Remain (i + 1) extents (ahead f 8)
read_rest f None bytes extents i even past given next remain = absurd next
read_rest f (Some place) bytes extents i even past given next remain = (taken f extents i (record { file = place.0; extent = place.1; bytes = bytes }) even past given next.0 remain).1

pub read_back : (f : Kept) (place : Option (ℕ × ℕ)) (bytes : List ℕ) (extents : List Extent) (i : ℕ) → IsEven f → IsPast f → GivesExtent place bytes (slice_get extents i) → IsNext f place → Remain (i + 1) extents (ahead f 8) → Remain i extents f
read_back f None bytes extents i even past given next remain = absurd next
read_back f (Some place) bytes extents i even past given next remain =
    let same : (place.0, place.1) ≡ (f.whole + 1, f.page / 8) = ap (λ (n : ℕ). (n, place.1)) next.1 ∙ ap (λ (n : ℕ). (f.whole + 1, n)) next.2 in
    put_back f extents i (record { file = place.0; extent = place.1; bytes = bytes }) even past given next.0 same remain

pub read_next : (f : Kept) (place : Option (ℕ × ℕ)) (bytes : List ℕ) (extents : List Extent) (i : ℕ) → IsEven f → IsPast f → GivesExtent place bytes (slice_get extents i) → i < length extents → Remain i extents f → IsNext f place
read_next f None bytes extents i even past given inside remain = none extents i given inside
  where
    none : (es : List Extent) (k : ℕ) → slice_get es k ≡ None → k < length es → IsNext f None
    none [] k gone below = absurd (omega (arith, below))
    none (e ∷ es) zero gone below = absurd cc
    none (e ∷ es) (suc k) gone below = none es k gone (omega (arith, below))
read_next f (Some place) bytes extents i even past given inside remain = is_next f extents i (record { file = place.0; extent = place.1; bytes = bytes }) even past given remain

pub next_more : (f : Kept) (place : Option (ℕ × ℕ)) → IsNext f place → f.whole < length f.files
next_more f None next = absurd next
next_more f (Some place) next = next.0
