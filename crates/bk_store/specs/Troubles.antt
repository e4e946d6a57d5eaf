-- The trouble that an error is.
use Rattle.std.specs.Prelude.{◌≡◌}
use Rattle.bk_device.specs.declared.trouble.Trouble.{Trouble}
use Rattle.bk_device.specs.declared.trouble.Trouble.TheVariants.{Fault, NoMemory}
use Rattle.bk_store.specs.declared.error.StoreError.{StoreError}
use Rattle.bk_store.specs.declared.error.StoreError.TheVariants as store

abbrev pub FromStore : StoreError → Trouble → Type 0
FromStore store.Fault e = e ≡ Fault
FromStore store.NoMemory e = e ≡ NoMemory
