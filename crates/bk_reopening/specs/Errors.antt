-- The causes of errors.
use Rattle.std.specs.Prelude.{◌≡◌}
use Rattle.bk_paged.specs.declared.error.PagedError.{PagedError}
use Rattle.bk_paged.specs.declared.error.PagedError.TheVariants as paged
use Rattle.bk_reading.specs.declared.unread.Unread.{Unread}
use Rattle.bk_reading.specs.declared.unread.Unread.TheVariants as unread
use Rattle.bk_shown.specs.declared.error.TakeError.{TakeError}
use Rattle.bk_shown.specs.declared.error.TakeError.TheVariants as taking
use Rattle.bk_reopening.specs.declared.error.OpenError.{OpenError}
use Rattle.bk_reopening.specs.declared.error.OpenError.TheVariants.{Foreign, Fault, NoMemory}

-- the error that one of a part is
abbrev pub FromPaged : PagedError → OpenError → Type 0
FromPaged paged.Foreign e = e ≡ Foreign
FromPaged paged.Fault e = e ≡ Fault
FromPaged paged.NoMemory e = e ≡ NoMemory

abbrev pub FromNote : Unread → OpenError → Type 0
FromNote unread.Unspelled e = e ≡ Foreign
FromNote unread.NoMemory e = e ≡ NoMemory

abbrev pub FromTaking : TakeError → OpenError → Type 0
FromTaking taking.Unfit e = e ≡ Foreign
FromTaking taking.NoMemory e = e ≡ NoMemory
