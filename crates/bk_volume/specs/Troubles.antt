-- The trouble that an error is.
use Rattle.std.specs.Prelude.{◌≡◌}
use Rattle.bk_device.specs.declared.trouble.Trouble.{Trouble}
use Rattle.bk_device.specs.declared.trouble.Trouble.TheVariants.{Fault, NoMemory}
use Rattle.bk_volume.specs.declared.error.WriteError.{WriteError}
use Rattle.bk_volume.specs.declared.error.WriteError.TheVariants as write

abbrev pub FromWrite : WriteError → Trouble → Type 0
FromWrite write.Fault e = e ≡ Fault
FromWrite write.NoMemory e = e ≡ NoMemory
