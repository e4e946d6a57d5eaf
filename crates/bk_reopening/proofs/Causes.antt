-- What an error that was answered says of the one that it comes from.
use Rattle.std.proofs.Common.{◌≡◌, Result, Err, refl, sym, ◌∙◌, ap}
use Rattle.std.specs.Prelude.{IsErrOf}
use Rattle.bk_paged.specs.declared.error.PagedError.{PagedError}
use Rattle.bk_paged.specs.declared.error.PagedError.TheVariants as paged
use Rattle.bk_reading.specs.declared.unread.Unread.{Unread}
use Rattle.bk_reading.specs.declared.unread.Unread.TheVariants as unread
use Rattle.bk_shown.specs.declared.error.TakeError.{TakeError}
use Rattle.bk_shown.specs.declared.error.TakeError.TheVariants as taking
use Rattle.bk_reopening.specs.Errors.{FromNote, FromPaged, FromTaking}
use Rattle.bk_reopening.specs.declared.error.OpenError.{OpenError}
use Rattle.bk_reopening.specs.declared.error.OpenError.TheVariants.{Foreign}

-- it was this one
pub same_cause : {T : Type 0} {r : Result T OpenError} (e d : OpenError) → r ≡ Err e → r ≡ Err d → e ≡ d
same_cause {T = T} e d is was = let both : ◌≡◌ {A = Result T OpenError} (Err e) (Err d) = sym is ∙ was in cc

pub foreign-note : (e : Unread) (o : OpenError) → FromNote e o → o ≡ Foreign → e ≡ unread.Unspelled
foreign-note unread.Unspelled o from is = refl
foreign-note unread.NoMemory o from is = absurd cc

pub foreign-taking : (e : TakeError) (o : OpenError) → FromTaking e o → o ≡ Foreign → e ≡ taking.Unfit
foreign-taking taking.Unfit o from is = refl
foreign-taking taking.NoMemory o from is = absurd cc

pub foreign-paged : (e : PagedError) (o : OpenError) → FromPaged e o → o ≡ Foreign → e ≡ paged.Foreign
foreign-paged paged.Foreign o from is = refl
foreign-paged paged.Fault o from is = absurd cc
foreign-paged paged.NoMemory o from is = absurd cc

-- an error is this one, whatever the call would have returned
pub as_error : {T E : Type 0} {e d : E} → e ≡ d → IsErrOf {T = T} (Err e) d
as_error {T = T} {E = E} same = ap (λ (x : E). let r : Result T E = Err x in r) same
