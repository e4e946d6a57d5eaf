-- What follows of a last call, whose result is given as it is.
use Rattle.std.proofs.Common.{◌≡◌, Result, Ok, Err, sym, subst}
use Rattle.std.specs.Prelude.{IfOk, OnOk}

module _ {T E : Type 0} where
  -- a fact that holds anyway
  pub anyway : (r : Result T E) {P : Type 0} → P → OnOk r P
  anyway (Ok _) holds = holds
  anyway (Err _) holds = tt

  -- a value is given, if there is one, of which the fact is known
  pub given : (r : Result T E) (v : T) (P : T → Type 0) → IfOk r (λ x. x ≡ v) → P v → IfOk r P
  given (Ok x) v P same holds = subst P (sym same) holds
  given (Err _) v P same holds = tt

  -- what follows from two facts
  pub both_ok : (r : Result T E) {P Q R : Type 0} → (P → Q → R) → OnOk r P → OnOk r Q → OnOk r R
  both_ok (Ok _) f p q = f p q
  both_ok (Err _) f p q = tt

  pub both_given : (r : Result T E) (P Q R : T → Type 0) → ((x : T) → P x → Q x → R x) → IfOk r P → IfOk r Q → IfOk r R
  both_given (Ok x) P Q R f p q = f x p q
  both_given (Err _) P Q R f p q = tt
