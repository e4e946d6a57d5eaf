-- The causes of errors.
use Rattle.std.specs.Prelude.{◌≡◌}
use Rattle.bk_device.specs.declared.trouble.Trouble.{Trouble}
use Rattle.bk_device.specs.declared.trouble.Trouble.TheVariants as trouble
use Rattle.bk_master.specs.declared.error.MasterError.{MasterError}
use Rattle.bk_master.specs.declared.error.MasterError.TheVariants as master
use Rattle.bk_stores.specs.declared.error.LoadError.{LoadError}
use Rattle.bk_stores.specs.declared.error.LoadError.TheVariants.{NotAnInstance, Broken, Fault, NoMemory}

-- the error that one of a part is
abbrev pub FromMaster : MasterError → LoadError → Type 0
FromMaster master.NotAnInstance e = e ≡ NotAnInstance
FromMaster master.Broken e = e ≡ Broken
FromMaster master.Fault e = e ≡ Fault
FromMaster master.NoMemory e = e ≡ NoMemory

abbrev pub FromTrouble : Trouble → LoadError → Type 0
FromTrouble trouble.Fault e = e ≡ Fault
FromTrouble trouble.NoMemory e = e ≡ NoMemory
FromTrouble trouble.Broken e = e ≡ Broken
