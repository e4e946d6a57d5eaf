-- What an answer that is passed on says.
use Rattle.std.proofs.Common.{◌≡◌, Result, Ok, Err, sym, subst}
use Rattle.std.proofs.lemmas.Result.{IfErr-at_err}
use Rattle.std.specs.Prelude.{IfErr, IfOk, IsErrOf, OnOk}

module _ {T E : Type 0} where
  -- it is this value, and what holds of this one holds of it
  pub same-has : (r : Result T E) (x : T) (Q : T → Type 0) → IfOk r (λ y. y ≡ x) → Q x → IfOk r Q
  same-has (Ok y) x Q same is = subst Q (sym same) is
  same-has (Err e) x Q same is = tt

  pub same-then : {P : Type 0} (r : Result T E) (x : T) (Q : T → Type 0) → IfOk r (λ y. y ≡ x) → (P → Q x) → OnOk r P → IfOk r Q
  same-then (Ok y) x Q same leads is = subst Q (sym same) (leads is)
  same-then (Err e) x Q same leads is = tt

  -- it is an error that is answered only for this reason
  pub refused : {P : Type 0} {e : E} (r : Result T E) → IsErrOf r e → IfErr r (λ d. (d ≡ e) × P) → P
  refused {P} {e} r is said = (IfErr-at_err (λ (d : E). (d ≡ e) × P) is said).1

  -- it says two things where it is a value
  pub both-ok : {P Q R : Type 0} (r : Result T E) → (P → Q → R) → OnOk r P → OnOk r Q → OnOk r R
  both-ok (Ok y) leads one two = leads one two
  both-ok (Err e) leads one two = tt
