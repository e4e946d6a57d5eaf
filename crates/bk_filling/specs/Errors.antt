-- The causes of errors.
use Rattle.std.specs.Prelude.{◌≡◌}
use Rattle.bk_segments.specs.declared.error.LogError.{LogError}
use Rattle.bk_segments.specs.declared.error.LogError.TheVariants as log
use Rattle.bk_filling.specs.declared.error.FillError.{FillError}
use Rattle.bk_filling.specs.declared.error.FillError.TheVariants.{Fault, NoMemory}

-- the error that a log's is; that files are no log's isn't answered where a log is made
abbrev pub FromLog : LogError → FillError → Type 0
FromLog log.Foreign e = e ≡ NoMemory
FromLog log.Fault e = e ≡ Fault
FromLog log.NoMemory e = e ≡ NoMemory
