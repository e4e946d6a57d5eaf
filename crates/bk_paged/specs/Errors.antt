-- The causes of errors.
use Rattle.std.specs.Prelude.{◌≡◌}
use Rattle.bk_reading.specs.declared.unread.Unread.{Unread}
use Rattle.bk_reading.specs.declared.unread.Unread.TheVariants as unread
use Rattle.bk_segments.specs.declared.error.LogError.{LogError}
use Rattle.bk_segments.specs.declared.error.LogError.TheVariants as log
use Rattle.bk_side.specs.declared.error.SideError.{SideError}
use Rattle.bk_side.specs.declared.error.SideError.TheVariants as side
use Rattle.bk_paged.specs.declared.error.PagedError.{PagedError}
use Rattle.bk_paged.specs.declared.error.PagedError.TheVariants.{Foreign, Fault, NoMemory}

-- the error that a part's is
abbrev pub FromLog : LogError → PagedError → Type 0
FromLog log.Foreign e = e ≡ Foreign
FromLog log.Fault e = e ≡ Fault
FromLog log.NoMemory e = e ≡ NoMemory

abbrev pub FromSide : SideError → PagedError → Type 0
FromSide side.Fault e = e ≡ Fault
FromSide side.NoMemory e = e ≡ NoMemory

abbrev pub FromNote : Unread → PagedError → Type 0
FromNote unread.Unspelled e = e ≡ Foreign
FromNote unread.NoMemory e = e ≡ NoMemory
