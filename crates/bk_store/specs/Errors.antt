-- The causes of errors.
use Rattle.std.specs.Prelude.{◌≡◌}
use Rattle.bk_paged.specs.declared.error.PagedError.{PagedError}
use Rattle.bk_paged.specs.declared.error.PagedError.TheVariants as paged
use Rattle.bk_store.specs.declared.error.StoreError.{StoreError}
use Rattle.bk_store.specs.declared.error.StoreError.TheVariants.{Fault, NoMemory}

-- the error that the layer below's is
abbrev pub FromPaged : PagedError → StoreError → Type 0
FromPaged paged.Foreign e = e ≡ NoMemory
FromPaged paged.Fault e = e ≡ Fault
FromPaged paged.NoMemory e = e ≡ NoMemory
