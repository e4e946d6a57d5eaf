-- Why a log couldn't be undone.
use Rattle.std.specs.Prelude.{ℕ, List, Some}
use Rattle.bk_ids.specs.declared.record.Rec.{Rec}
use Rattle.bk_record.specs.Log.{IsLog}
use Rattle.bk_undo.specs.declared.error.UndoError.{UndoError}
use Rattle.bk_undo.specs.declared.error.UndoError.TheVariants.{BadRecord, NoMemory}

-- reading the log breaks off at that place, or there was no memory
abbrev pub IsCause : List ℕ → UndoError → Type 0
IsCause log (BadRecord at) = (records : List Rec) × IsLog log records (Some at)
IsCause log NoMemory = Unit {0}
