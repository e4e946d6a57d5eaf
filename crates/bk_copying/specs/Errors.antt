-- The causes of errors.
use Rattle.std.specs.Prelude.{◌≡◌}
use Rattle.bk_store.specs.declared.error.StoreError.{StoreError}
use Rattle.bk_store.specs.declared.error.StoreError.TheVariants as store
use Rattle.bk_copying.specs.declared.error.CopyError.{CopyError}
use Rattle.bk_copying.specs.declared.error.CopyError.TheVariants.{Fault, NoMemory}

-- the error that a store's is
abbrev pub FromStore : StoreError → CopyError → Type 0
FromStore store.Fault e = e ≡ Fault
FromStore store.NoMemory e = e ≡ NoMemory
