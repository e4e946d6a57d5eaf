-- The trouble that an error is.
use Rattle.std.specs.Prelude.{◌≡◌}
use Rattle.bk_device.specs.declared.trouble.Trouble.{Trouble}
use Rattle.bk_device.specs.declared.trouble.Trouble.TheVariants.{Fault, NoMemory, Broken}
use Rattle.bk_recovering.specs.declared.error.RecoverError.{RecoverError}
use Rattle.bk_recovering.specs.declared.error.RecoverError.TheVariants as recovering

abbrev pub FromRecover : RecoverError → Trouble → Type 0
FromRecover recovering.Unfit e = e ≡ Broken
FromRecover recovering.Fault e = e ≡ Fault
FromRecover recovering.NoMemory e = e ≡ NoMemory
