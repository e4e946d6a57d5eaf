-- What the end of a run does, act by act, and what is left of it.
-- SQL Server: ROLLBACK TRANSACTION (Transact-SQL). That backups that run are dropped first is this project's own.
use Rattle.std.specs.Prelude.{◌≡◌, ◌⊎◌, ℕ, List, [], Option, None, Some}
use Rattle.std.specs.List.{AllByRecursion}
use Rattle.bk_acts.specs.declared.act.StoredAct.{StoredAct}
use Rattle.bk_device.specs.Disk.{Disk, Files}
use Rattle.bk_device.specs.Effects.{Effect}
use Rattle.bk_engine.specs.Loading.{Stands}
use Rattle.bk_engine.specs.Stands.{IsOurs, Kept as KeptEngine, StandsFor}
use Rattle.bk_engine.specs.Viewing.{Remembers}
use Rattle.bk_kept.specs.declared.kept.Kept.{Kept}
use Rattle.bk_kept.specs.Keeps.{Sees}
use Rattle.bk_kept.specs.Stored.{IsDone}
use Rattle.bk_machine.specs.Acts.{Act, done_all}
use Rattle.bk_machine.specs.Closing.{HasNoJobs, IsClosingFront, IsFirst, count_open}
use Rattle.bk_machine.specs.Sound.{IsSound}
use Rattle.bk_machine.specs.World.{Database, Held, World, ended}
use Rattle.bk_machine.specs.statements.Rollback.{rolls_back}
use Rattle.bk_restarts.specs.Crashes.{CutIn}

-- ---- one rollback

-- no transaction is open in it
abbrev pub HasNoneOpen : World → Type 0
HasNoneOpen w = AllByRecursion (λ (db : Database). db.transactions ≡ []) w.databases

-- a stored act rolls the first transaction of a world back; or none is open in it
abbrev pub RollsBack : World → Option StoredAct → Type 0
RollsBack w None = HasNoneOpen w
RollsBack w (Some stored) = (held : Held) × IsFirst w held × IsDone w stored (rolls_back w held)

-- in each world that is seen
abbrev pub RollsSeen : Kept → Option StoredAct → Type 0
RollsSeen k stored = (w : World) → IsSound w → Sees w k → RollsBack w stored

-- in each world that an engine has in memory
abbrev pub RollsFirst : KeptEngine → Option StoredAct → Type 0
RollsFirst e stored = (w : World) → IsSound w → Remembers e w → RollsBack w stored

-- ---- acts that close

-- so many acts of a closing were done, one after another
pub record ClosesBy (w : World) (before : Disk) (new : KeptEngine) (after : Disk) : Type 0 where
  pub acts : List Act
  pub closes : IsClosingFront w acts
  pub cuts : Effect IsOurs (CutIn w acts) before after
  pub stands : StandsFor after new (done_all w acts)

-- behind them no backup runs
pub record DropsJobs (w : World) (before : Disk) (new : KeptEngine) (after : Disk) : Type 0 where
  pub by : ClosesBy w before new after
  pub none : HasNoJobs (done_all w by.acts)

-- behind them nothing is open
pub record RollsAll (w : World) (before : Disk) (new : KeptEngine) (after : Disk) : Type 0 where
  pub by : ClosesBy w before new after
  pub none : count_open (done_all w by.acts).databases ≡ 0

-- a closing was cut off inside of some acts
pub record CutsClosing (w : World) (before after : Disk) : Type 0 where
  pub acts : List Act
  pub closes : IsClosingFront w acts
  pub cuts : Effect IsOurs (CutIn w acts) before after

-- a crash leaves what it may leave inside of the acts that close a run, or the run has ended
abbrev pub CutsEnd : ℕ → World → List Act → Files → Type 0
CutsEnd number w acts image = CutIn w acts image ⊎ Stands number image (ended (done_all w acts))
