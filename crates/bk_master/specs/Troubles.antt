-- The trouble that an error is.
use Rattle.std.specs.Prelude.{◌≡◌}
use Rattle.bk_device.specs.declared.trouble.Trouble.{Trouble}
use Rattle.bk_device.specs.declared.trouble.Trouble.TheVariants.{Fault, NoMemory, Broken}
use Rattle.bk_master.specs.declared.error.MasterError.{MasterError}
use Rattle.bk_master.specs.declared.error.MasterError.TheVariants as master

abbrev pub FromMaster : MasterError → Trouble → Type 0
FromMaster master.NotAnInstance e = e ≡ Broken
FromMaster master.Broken e = e ≡ Broken
FromMaster master.Fault e = e ≡ Fault
FromMaster master.NoMemory e = e ≡ NoMemory
