-- The trouble that an error is.
use Rattle.std.specs.Prelude.{◌≡◌}
use Rattle.bk_device.specs.declared.trouble.Trouble.{Trouble}
use Rattle.bk_device.specs.declared.trouble.Trouble.TheVariants.{Fault, NoMemory}
use Rattle.bk_filling.specs.declared.error.FillError.{FillError}
use Rattle.bk_filling.specs.declared.error.FillError.TheVariants as fill

abbrev pub FromFill : FillError → Trouble → Type 0
FromFill fill.Fault e = e ≡ Fault
FromFill fill.NoMemory e = e ≡ NoMemory
