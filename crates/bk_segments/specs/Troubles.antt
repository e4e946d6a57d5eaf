-- The trouble that an error is.
use Rattle.std.specs.Prelude.{◌≡◌}
use Rattle.bk_device.specs.declared.trouble.Trouble.{Trouble}
use Rattle.bk_device.specs.declared.trouble.Trouble.TheVariants.{Fault, NoMemory, Broken}
use Rattle.bk_segments.specs.declared.error.LogError.{LogError}
use Rattle.bk_segments.specs.declared.error.LogError.TheVariants as log

abbrev pub FromLog : LogError → Trouble → Type 0
FromLog log.Foreign e = e ≡ Broken
FromLog log.Fault e = e ≡ Fault
FromLog log.NoMemory e = e ≡ NoMemory
