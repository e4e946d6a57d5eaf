-- Lists that change at one place together.
use Rattle.std.proofs.Common.{◌≡◌, ◌∙◌, ℕ, zero, suc, List, [], ◌∷◌, ◌++◌, map, Some, refl, sym, ap, subst}
pub use Rattle.std.proofs.lemmas.List.{map-set, set-set}
use Rattle.std.specs.Prelude.{remove, set, slice_get}
use Rattle.std.specs.List.{AllByRecursion, AllZip}

pub zip-set : {A B : Type 0} (R : A → B → Type 0) (xs : List A) (ys : List B) (i : ℕ) (x : A) (y : B) → R x y → AllZip R xs ys → AllZip R (set xs i x) (set ys i y)
zip-set R [] [] i x y here zip = tt
zip-set R [] (b ∷ ys) i x y here zip = absurd zip
zip-set R (a ∷ xs) [] i x y here zip = absurd zip
zip-set R (a ∷ xs) (b ∷ ys) zero x y here zip = (here, zip.1)
zip-set R (a ∷ xs) (b ∷ ys) (suc i) x y here zip = (zip.0, zip-set R xs ys i x y here zip.1)

pub all-set : {A : Type 0} (P : A → Type 0) (xs : List A) (i : ℕ) (x : A) → P x → AllByRecursion P xs → AllByRecursion P (set xs i x)
all-set P [] i x here all = tt
all-set P (a ∷ xs) zero x here all = (here, all.1)
all-set P (a ∷ xs) (suc i) x here all = (all.0, all-set P xs i x here all.1)

pub all-at : {A : Type 0} (P : A → Type 0) (xs : List A) (i : ℕ) (x : A) → slice_get xs i ≡ Some x → AllByRecursion P xs → P x
all-at P [] i x there all = absurd (cc (there))
all-at P (a ∷ xs) zero x there all = let same : a ≡ x = cc (there) in subst P same all.0
all-at P (a ∷ xs) (suc i) x there all = all-at P xs i x there all.1

-- an element that stands beside another
pub zip-beside : {A B : Type 0} (R : A → B → Type 0) (xs : List A) (ys : List B) (i : ℕ) (y : B) → AllZip R xs ys → slice_get ys i ≡ Some y → (x : A) × (slice_get xs i ≡ Some x) × R x y
zip-beside R [] [] i y zip there = absurd (cc (there))
zip-beside R [] (b ∷ ys) i y zip there = absurd zip
zip-beside R (a ∷ xs) [] i y zip there = absurd zip
zip-beside R (a ∷ xs) (b ∷ ys) zero y zip there = let same : b ≡ y = cc (there) in (a, refl, subst (R a) same zip.0)
zip-beside R (a ∷ xs) (b ∷ ys) (suc i) y zip there = zip-beside R xs ys i y zip.1 there

-- what is mapped of an element
pub got-mapped : {A B : Type 0} (f : A → B) (xs : List A) (i : ℕ) (x : A) → slice_get xs i ≡ Some x → slice_get (map f xs) i ≡ Some (f x)
got-mapped f [] i x there = absurd (cc (there))
got-mapped f (a ∷ xs) zero x there = let same : a ≡ x = cc (there) in ap (λ y. Some (f y)) same
got-mapped f (a ∷ xs) (suc i) x there = got-mapped f xs i x there

-- another element of which the same is mapped
pub map-same : {A B : Type 0} (f : A → B) (xs : List A) (i : ℕ) (x y : A) → slice_get xs i ≡ Some x → f y ≡ f x → map f (set xs i y) ≡ map f xs
map-same f [] i x y there same = refl
map-same f (a ∷ xs) zero x y there same = let own : a ≡ x = cc (there) in ap (λ b. b ∷ map f xs) (same ∙ ap f (sym own))
map-same f (a ∷ xs) (suc i) x y there same = ap (λ (bs : List _). f a ∷ bs) (map-same f xs i x y there same)

-- ---- one more, and one less

pub zip-more : {A B : Type 0} (R : A → B → Type 0) (xs : List A) (ys : List B) (x : A) (y : B) → R x y → AllZip R xs ys → AllZip R (xs ++ x ∷ []) (ys ++ y ∷ [])
zip-more R [] [] x y here zip = (here, tt)
zip-more R [] (b ∷ ys) x y here zip = absurd zip
zip-more R (a ∷ xs) [] x y here zip = absurd zip
zip-more R (a ∷ xs) (b ∷ ys) x y here zip = (zip.0, zip-more R xs ys x y here zip.1)

pub all-more : {A : Type 0} (P : A → Type 0) (xs : List A) (x : A) → P x → AllByRecursion P xs → AllByRecursion P (xs ++ x ∷ [])
all-more P [] x here all = (here, tt)
all-more P (a ∷ xs) x here all = (all.0, all-more P xs x here all.1)

pub map-more : {A B : Type 0} (f : A → B) (xs : List A) (x : A) → map f (xs ++ x ∷ []) ≡ map f xs ++ f x ∷ []
map-more f [] x = refl
map-more f (a ∷ xs) x = ap (λ (ys : List _). f a ∷ ys) (map-more f xs x)

pub zip-less : {A B : Type 0} (R : A → B → Type 0) (xs : List A) (ys : List B) (i : ℕ) → AllZip R xs ys → AllZip R (remove xs i) (remove ys i)
zip-less R [] [] zero zip = tt
zip-less R [] [] (suc i) zip = tt
zip-less R [] (b ∷ ys) i zip = absurd zip
zip-less R (a ∷ xs) [] i zip = absurd zip
zip-less R (a ∷ xs) (b ∷ ys) zero zip = zip.1
zip-less R (a ∷ xs) (b ∷ ys) (suc i) zip = (zip.0, zip-less R xs ys i zip.1)

pub all-less : {A : Type 0} (P : A → Type 0) (xs : List A) (i : ℕ) → AllByRecursion P xs → AllByRecursion P (remove xs i)
all-less P [] zero all = tt
all-less P [] (suc i) all = tt
all-less P (a ∷ xs) zero all = all.1
all-less P (a ∷ xs) (suc i) all = (all.0, all-less P xs i all.1)

pub map-less : {A B : Type 0} (f : A → B) (xs : List A) (i : ℕ) → map f (remove xs i) ≡ remove (map f xs) i
map-less f [] zero = refl
map-less f [] (suc i) = refl
map-less f (a ∷ xs) zero = refl
map-less f (a ∷ xs) (suc i) = ap (λ (ys : List _). f a ∷ ys) (map-less f xs i)
