-- What statements and runs leave alone.
use Rattle.std.specs.Prelude.{◌≡◌, ◌⊎◌, ℕ, List, [], ◌∷◌, Some}
use Rattle.std.specs.List.{AllByRecursion}
use Rattle.bk_device.specs.Calls.{Elapses}
use Rattle.bk_device.specs.Disk.{Files, Disk}
use Rattle.bk_device.specs.Effects.{KeepsFiles, MayLeaveOthers}
use Rattle.bk_executing.specs.EngineStands.{Kept, own_in}
use Rattle.bk_master.specs.Master.{record_of}
use Rattle.bk_master.specs.declared.record.Record.{Record}
use Rattle.bk_machine.specs.Outcome.{Outcome}
use Rattle.bk_machine.specs.Writes.{ActsWrite, IsStill}

-- the record of these files says that a medium is being made at a path: the next run lets it go
abbrev pub IsMaking : Files → List ℕ → Type 0
IsMaking files path = (r : Record) × (record_of files ≡ Some r) × (r.own.making ≡ Some path)

-- it has reserved no GUID beyond those that were drawn
abbrev pub ReservesNone : Kept → Type 0
ReservesNone e = (own_in e).counter ≡ e.drawn

-- no file at all
abbrev pub NoName : List ℕ → Type 0
NoName name = ⊥

-- No file but these was touched: a read of another gives the same, a crash now may leave nothing more of it, and meanwhile one left what it might have left before.
pub record Spares (touched : List ℕ → Type 0) (old new : Disk) : Type 0 where
  pub files : KeepsFiles (λ name. touched name → ⊥) old new
  pub crashes : Elapses old new (λ image heard. MayLeaveOthers touched old image)

-- an act of one of these outcomes writes to the medium at this path
abbrev pub OutcomesWrite : List Outcome → List ℕ → Type 0
OutcomesWrite [] path = ⊥
OutcomesWrite (outcome ∷ outcomes) path = ActsWrite outcome.acts path ⊎ OutcomesWrite outcomes path

-- it does, or a medium is being made there when a run begins on these files
abbrev pub RunWrites : Files → List Outcome → List ℕ → Type 0
RunWrites files outcomes path = IsMaking files path ⊎ OutcomesWrite outcomes path

-- these outcomes change nothing that is stored
abbrev pub AreStill : List Outcome → Type 0
AreStill outcomes = AllByRecursion IsStill outcomes

-- No file was touched, and no GUID reserved.
pub record LeavesAlone (old : Kept) (disk : Disk) (new : Kept) (disk_after : Disk) : Type 0 where
  pub files : Spares NoName disk disk_after
  pub reserves : ReservesNone old → ReservesNone new
