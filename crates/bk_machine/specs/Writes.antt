-- What acts write to the media, and which outcomes change nothing that is stored.
use Rattle.std.specs.Prelude.{◌≡◌, ◌⊎◌, ℕ, List, [], ◌∷◌, Option, None, Some, option_and_then}
use Rattle.std.specs.List.{AllByRecursion}
use Rattle.bk_items.specs.declared.item.ScriptItem.{ScriptItem}
use Rattle.bk_items.specs.declared.item.ScriptItem.TheVariants.{BackupDatabase, Wait}
use Rattle.bk_machine.specs.Acts.{Act, turned, seated, readied, medium_made, set_sealed}
use Rattle.bk_machine.specs.Outcome.{Outcome}
use Rattle.bk_machine.specs.declared.job.Job.{Job}
use Rattle.bk_machine.specs.World.{World, Database, current_database}

-- Who writes to the medium at a path.

-- a job's set is sealed on its medium
abbrev pub JobWrites : Option Job → List ℕ → Type 0
JobWrites None path = ⊥
JobWrites (Some job) path = path ≡ job.medium

-- an act that makes it, or seals a set on it; a RESTORE has none
abbrev pub ActWrites : Act → List ℕ → Type 0
ActWrites (medium_made at) path = path ≡ at
ActWrites (set_sealed at header) path = path ≡ at
ActWrites _ path = ⊥

-- one of several acts
abbrev pub ActsWrite : List Act → List ℕ → Type 0
ActsWrite [] path = ⊥
ActsWrite (act ∷ acts) path = ActWrites act path ⊎ ActsWrite acts path

-- the backup of the current database
abbrev pub current_job : World → Option Job
current_job w = option_and_then (λ (db : Database). db.job) (current_database w)

-- a statement: BACKUP, to the medium that it names; and `:wait`, to that of the job of the current database
abbrev pub StatementWrites : World → ScriptItem → List ℕ → Type 0
StatementWrites w (BackupDatabase name units disk options) path = path ≡ disk
StatementWrites w Wait path = JobWrites (current_job w) path
StatementWrites w _ path = ⊥

-- What changes nothing.

-- an act that touches memory alone: that of USE, of `:session`, and of `:start`
abbrev pub IsTurn : Act → Type 0
IsTurn (turned name) = Unit {0}
IsTurn (seated session) = Unit {0}
IsTurn (readied starts) = Unit {0}
IsTurn _ = ⊥

-- An outcome that changes nothing that is stored: that of each refused statement, of USE, of `:session`, of `:start`, of SELECT.
abbrev pub IsStill : Outcome → Type 0
IsStill outcome = AllByRecursion IsTurn outcome.acts
