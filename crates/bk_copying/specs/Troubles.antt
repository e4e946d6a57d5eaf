-- The trouble that an error is.
use Rattle.std.specs.Prelude.{◌≡◌}
use Rattle.bk_device.specs.declared.trouble.Trouble.{Trouble}
use Rattle.bk_device.specs.declared.trouble.Trouble.TheVariants.{Fault, NoMemory}
use Rattle.bk_copying.specs.declared.error.CopyError.{CopyError}
use Rattle.bk_copying.specs.declared.error.CopyError.TheVariants as copying

abbrev pub FromCopy : CopyError → Trouble → Type 0
FromCopy copying.Fault e = e ≡ Fault
FromCopy copying.NoMemory e = e ≡ NoMemory
