-- The trouble that an error is.
use Rattle.std.specs.Prelude.{◌≡◌}
use Rattle.bk_device.specs.declared.trouble.Trouble.{Trouble}
use Rattle.bk_device.specs.declared.trouble.Trouble.TheVariants.{Fault, NoMemory, Broken}
use Rattle.bk_reopening.specs.declared.error.OpenError.{OpenError}
use Rattle.bk_reopening.specs.declared.error.OpenError.TheVariants as opening

abbrev pub FromOpen : OpenError → Trouble → Type 0
FromOpen opening.Foreign e = e ≡ Broken
FromOpen opening.Fault e = e ≡ Fault
FromOpen opening.NoMemory e = e ≡ NoMemory
