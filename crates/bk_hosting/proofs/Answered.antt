-- What a last call answers is answered.
use Rattle.std.proofs.Common.{◌≡◌, Result, Ok, Err, refl}
use Rattle.std.proofs.lemmas.Result.{IfOk-at_ok}
use Rattle.std.specs.Prelude.{OnOk}

module _ {T E : Type 0} where
  -- it's enough where it is a value
  pub answered : {Q : Type 0} (r : Result T E) → ((x : T) → r ≡ Ok x → Q) → OnOk r Q
  answered (Ok x) leads = leads x refl
  answered (Err e) leads = tt

  -- what it says then
  pub so : {P : Type 0} {x : T} (r : Result T E) → r ≡ Ok x → OnOk r P → P
  so {P} r got is = IfOk-at_ok (λ _. P) got is
