-- How the fields of a device in memory stand for what it holds.
use Rattle.std.specs.Prelude.{◌≡◌, ◌≤◌, ℕ, List, length, map, Option, string_bytes}
use Rattle.bk_device.specs.Held.{name_of, begin_of, durable_files, current_files}
use Rattle.bk_device.specs.Replay.{Step, Memory, disk_of, durable_files_of}
use Rattle.bk_device.specs.Replay.Step.{Wrote, Synced, CutTo, Removed, Told}
use Rattle.bk_device.specs.declared.held.Held.{Held}
use Rattle.bk_device.specs.declared.call.Call.{Call}
use Rattle.bk_device.specs.declared.call.Call.TheVariants.{Write, Sync, Cut, Remove, Tell}

-- the files when the device began, each by its name
abbrev pub begin_list : List Held → List (List ℕ × Option (List ℕ))
begin_list held = map (λ file. (name_of file, begin_of file)) held

abbrev pub step_of : Call → Step
step_of (Write name at bytes) = Wrote (string_bytes name) at bytes.items
step_of (Sync name) = Synced (string_bytes name)
step_of (Cut name len) = CutTo (string_bytes name) len
step_of (Remove name) = Removed (string_bytes name)
step_of (Tell bytes) = Told bytes.items

-- what the kept files and bytes are, is what the calls that were done give
pub record IsReplayed (held : List Held) (heard : List ℕ) (before : ℕ) (memory : Memory) : Type 0 where
  pub current : current_files held ≡ (disk_of memory).files
  pub durable : durable_files held ≡ durable_files_of memory
  pub told : heard ≡ (disk_of memory).told
  pub enough : before ≤ length heard
