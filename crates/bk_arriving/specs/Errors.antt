-- The causes of errors.
use Rattle.std.specs.Prelude.{◌≡◌}
use Rattle.bk_filling.specs.declared.error.FillError.{FillError}
use Rattle.bk_filling.specs.declared.error.FillError.TheVariants as fill
use Rattle.bk_volume.specs.declared.error.ReadError.{ReadError}
use Rattle.bk_volume.specs.declared.error.ReadError.TheVariants as read
use Rattle.bk_arriving.specs.declared.error.ArriveError.{ArriveError}
use Rattle.bk_arriving.specs.declared.error.ArriveError.TheVariants.{Fault, NoMemory}

-- the error that one of filling is
abbrev pub FromFill : FillError → ArriveError → Type 0
FromFill fill.Fault e = e ≡ Fault
FromFill fill.NoMemory e = e ≡ NoMemory

-- the error that one of reading a set is
abbrev pub FromRead : ReadError → ArriveError → Type 0
FromRead read.Fault e = e ≡ Fault
FromRead read.NoMemory e = e ≡ NoMemory
