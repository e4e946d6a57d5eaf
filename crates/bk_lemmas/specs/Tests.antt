-- Plain facts on truth values, orderings, and errors.
use Rattle.std.proofs.Common.{◌≡◌, ◌≢◌, ◌⊎◌, ℕ, Bool, true, false, ◌||◌, Result, Err, refl, sym, ◌∙◌, ap, arith}
use Rattle.std.specs.Prelude.{◌==◌, IsErrOf}
use Rattle.std.specs.Ordering.{is_eq, nat_cmp}
use Rattle.std.specs.declared.cmp.Ordering.{Ordering}
use Rattle.std.specs.declared.cmp.Ordering.TheVariants.{Less, Equal, Greater}
use Rattle.std.specs.Cmp.{nat_cmp_is}
use Rattle.std.proofs.lemmas.Grind.{common_steps}

pub clash : {A : Type 0} (b : Bool) → b ≡ true → b ≡ false → A
clash b is isnt = let e : true ≡ false = sym is ∙ isnt in absurd (cc)

pub first_false : (a b : Bool) → (a || b) ≡ false → a ≡ false
first_false true b e = absurd cc
first_false false b e = refl

pub equal_or_not : (m n : ℕ) → (m ≡ n) ⊎ (m ≢ n)
equal_or_not m n = grind (arith, common_steps)

pub test_false : (m n : ℕ) → m ≢ n → (m == n) ≡ false
test_false m n differ = grind (arith, common_steps)

pub equal_from_is_eq : (o : Ordering) → is_eq o ≡ true → o ≡ Equal
equal_from_is_eq Less e = cc
equal_from_is_eq Equal e = refl
equal_from_is_eq Greater e = cc

pub nat_cmp-same : (a b : ℕ) → a ≡ b → nat_cmp a b ≡ Equal
nat_cmp-same a b e = sym (nat_cmp_is a b Equal e)

-- An error is this one, whatever the call would have returned.
pub same_error : {T U E : Type 0} (e d : E) → IsErrOf {T = T} (Err e) d → IsErrOf {T = U} (Err e) d
same_error {T} {U} {E} e d is = let same : e ≡ d = cc in ap (λ (x : E). let r : Result U E = Err x in r) same
