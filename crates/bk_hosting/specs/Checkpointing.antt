-- A hosted database of which a checkpoint is made.
-- SQL Server: "Database Checkpoints (SQL Server)"; "Transaction Log Architecture and Management Guide", log truncation.
use Rattle.std.specs.Prelude.{◌⊎◌, ℕ, List, set}
use Rattle.bk_device.specs.Disk.{Files}
use Rattle.bk_hosted.specs.Hosted.{Hosted, awaiting, saying}
use Rattle.bk_master.specs.declared.record.Own.{Own}
use Rattle.bk_store.specs.Told.{Told}
use Rattle.bk_world.specs.Cut.{end_behind}
use Rattle.bk_world.specs.Records.{checkpointed, numbered}
use Rattle.bk_world.specs.Says.{alone}
use Rattle.bk_hosting.specs.Hosting.{LeavesHosted}
use Rattle.bk_hosting.specs.Saying.{telling}

-- a checkpoint was said at the end of a log
abbrev pub marked : Told → ℕ → Told
marked told time = telling told (numbered (end_behind told.records) (alone (checkpointed time)))

-- it is noted as the next one, and the live log then holds what comes from a number on
abbrev pub to_check : Hosted → ℕ → Hosted
to_check h kept = record h { points = awaiting h.points h.records kept }

-- it is made
abbrev pub checked : Hosted → ℕ → ℕ → Hosted
checked h time kept = saying (alone (checkpointed time)) h.transactions (to_check h kept)

-- a crash leaves the databases as before, or one with a checkpoint noted, or made
abbrev pub LeavesChecked : Own → List Hosted → ℕ → Hosted → ℕ → ℕ → Files → Type 0
LeavesChecked own hosted at h time kept image = LeavesHosted own hosted image ⊎ (LeavesHosted own (set hosted at (to_check h kept)) image ⊎ LeavesHosted own (set hosted at (checked h time kept)) image)
