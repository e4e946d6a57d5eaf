-- The causes of errors.
use Rattle.std.specs.Prelude.{◌≡◌}
use Rattle.bk_arriving.specs.declared.error.ArriveError.{ArriveError}
use Rattle.bk_arriving.specs.declared.error.ArriveError.TheVariants as arrive
use Rattle.bk_reopening.specs.declared.error.OpenError.{OpenError}
use Rattle.bk_reopening.specs.declared.error.OpenError.TheVariants as opening
use Rattle.bk_store.specs.declared.error.StoreError.{StoreError}
use Rattle.bk_store.specs.declared.error.StoreError.TheVariants as store
use Rattle.bk_recovering.specs.declared.error.RecoverError.{RecoverError}
use Rattle.bk_recovering.specs.declared.error.RecoverError.TheVariants.{Fault, NoMemory, Unfit}

-- the error that one of making the files is
abbrev pub FromArrive : ArriveError → RecoverError → Type 0
FromArrive arrive.Unfit e = e ≡ Unfit
FromArrive arrive.Fault e = e ≡ Fault
FromArrive arrive.NoMemory e = e ≡ NoMemory

-- the error that one of opening them is
abbrev pub FromOpen : OpenError → RecoverError → Type 0
FromOpen opening.Foreign e = e ≡ Unfit
FromOpen opening.Fault e = e ≡ Fault
FromOpen opening.NoMemory e = e ≡ NoMemory

-- the error that one of the store is
abbrev pub FromStore : StoreError → RecoverError → Type 0
FromStore store.Fault e = e ≡ Fault
FromStore store.NoMemory e = e ≡ NoMemory
