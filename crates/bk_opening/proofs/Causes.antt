-- What an error that was answered says of the one that it comes from.
use Rattle.std.proofs.Common.{◌≡◌, Result, Err, refl, sym, ap, ◌∙◌}
use Rattle.std.specs.Prelude.{IsErrOf}
use Rattle.bk_segments.specs.declared.error.LogError.{LogError}
use Rattle.bk_segments.specs.declared.error.LogError.TheVariants as log
use Rattle.bk_paged.specs.declared.error.PagedError.{PagedError}
use Rattle.bk_paged.specs.declared.error.PagedError.TheVariants.{Foreign}
use Rattle.bk_paged.specs.Errors.{FromLog}

-- it was this one
pub same_cause : {T : Type 0} {r : Result T PagedError} (e d : PagedError) → r ≡ Err e → r ≡ Err d → e ≡ d
same_cause {T = T} e d is was = let both : ◌≡◌ {A = Result T PagedError} (Err e) (Err d) = sym is ∙ was in cc

-- a log's
pub foreign_log : (e : LogError) (p : PagedError) → FromLog e p → p ≡ Foreign → e ≡ log.Foreign
foreign_log log.Foreign p from is = refl
foreign_log log.Fault p from is = absurd cc
foreign_log log.NoMemory p from is = absurd cc

-- an error is this one, whatever the call would have returned
pub as_error : {T E : Type 0} {e d : E} → e ≡ d → IsErrOf {T = T} (Err e) d
as_error {T = T} {E = E} same = ap (λ (x : E). let r : Result T E = Err x in r) same
