-- What a device in memory holds, as the calls that it did give it, one after the other.
use Rattle.std.specs.Prelude.{◌≡◌, ◌≢◌, ◌⊎◌, ◌≤◌, ℕ, ◌+◌, List, [], ◌∷◌, ◌++◌, length, take, Option, None, Some, option_map, if◌then◌else◌, Bool, Contains, IsSomeAnd}
use Rattle.std.specs.Str.{bytes_eq}
use Rattle.bk_device.specs.Calls.{contents, written, LeavesWrite, LeavesCut, LeavesRemoval, TellsFront}
use Rattle.bk_device.specs.Counts.{one_more}
use Rattle.bk_device.specs.Disk.{Files, Disk, MayLeave, replaced}

-- contents by name, each that of the first entry that has the name
abbrev pub look : {X : Type 0} → (X → List ℕ) → (X → Option (List ℕ)) → List X → Files
look key content [] name = None
look key content (entry ∷ rest) name = if bytes_eq (key entry) name then content entry else look key content rest name

-- a call that was done
pub data Step : Type 0 where
  Wrote : List ℕ → ℕ → List ℕ → Step
  Synced : List ℕ → Step
  CutTo : List ℕ → ℕ → Step
  Removed : List ℕ → Step
  Told : List ℕ → Step

-- nothing is pending, and no moment has gone by
abbrev pub begun : Files → List ℕ → Disk
begun files told = record {
  files = files;
  may = λ name content. content ≡ files name;
  told = told;
  moment = 0;
  left = λ since image heard. (since ≤ 0) × ((name : List ℕ) → image name ≡ files name) × (heard ≡ told);
}

-- what a crash may leave under each name, after a call on one: there what the call leaves
abbrev pub left_by : Disk → List ℕ → (Option (List ℕ) → Option (List ℕ) → Type 0) → List ℕ → Option (List ℕ) → Type 0
left_by disk name leaves other content =
    ((other ≡ name) × ((before : Option (List ℕ)) × disk.may other before × leaves before content))
    ⊎ ((other ≢ name) × disk.may other content)

-- the next moment: a crash since then left what may be left now, or what was left before
abbrev pub later : Disk → Files → (List ℕ → Option (List ℕ) → Type 0) → Disk
later disk files may = record {
  files = files;
  may = may;
  told = disk.told;
  moment = disk.moment + 1;
  left = λ since image heard.
      ((since ≤ disk.moment) × disk.left since image heard)
      ⊎ ((since ≤ disk.moment + 1) × ((name : List ℕ) → may name (image name)) × (heard ≡ disk.told));
}

-- the next moment, these bytes told: a crash meanwhile left a front of them told
abbrev pub later_told : Disk → List ℕ → Disk
later_told disk bytes = record {
  files = disk.files;
  may = disk.may;
  told = disk.told ++ bytes;
  moment = disk.moment + 1;
  left = λ since image heard.
      ((since ≤ disk.moment) × disk.left since image heard)
      ⊎ (((since ≤ disk.moment) × MayLeave disk image × TellsFront bytes disk.told heard)
      ⊎ ((since ≤ disk.moment + 1) × MayLeave disk image × (heard ≡ disk.told ++ bytes)));
}

-- the device after one more call
unfoldable pub after : Disk → Step → Disk
after disk (Wrote name at bytes) =
    later disk (replaced disk.files name (Some (written (contents (disk.files name)) at bytes))) (left_by disk name (LeavesWrite at (length bytes)))
after disk (Synced name) = later disk disk.files (left_by disk name (λ _ content. content ≡ disk.files name))
after disk (CutTo name len) = later disk (replaced disk.files name (option_map (take len) (disk.files name))) (left_by disk name (LeavesCut len))
after disk (Removed name) = later disk (replaced disk.files name None) (left_by disk name LeavesRemoval)
after disk (Told bytes) = later_told disk bytes

abbrev pub replay : Disk → List Step → Disk
replay disk [] = disk
replay disk (step ∷ steps) = replay (after disk step) steps

-- the files as each was last synced, or as they were when the device began
abbrev pub durable_after : Disk → Files → Step → Files
durable_after disk durable (Wrote name at bytes) = durable
durable_after disk durable (Synced name) = replaced durable name (disk.files name)
durable_after disk durable (CutTo name len) = durable
durable_after disk durable (Removed name) = durable
durable_after disk durable (Told bytes) = durable

abbrev pub replay_durable : Disk → Files → List Step → Files
replay_durable disk durable [] = durable
replay_durable disk durable (step ∷ steps) = replay_durable (after disk step) (durable_after disk durable step) steps

-- what a device in memory holds
pub record Memory : Type 0 where
  -- the files when it began, each by its name, and the bytes told by then
  pub begin : List (List ℕ × Option (List ℕ))
  pub told_before : List ℕ
  -- the calls that were done since
  pub steps : List Step
  -- the calls that are to fail, counted from 1
  pub failing : List ℕ
  -- how many calls were made
  pub calls : ℕ
  -- the write, counted from 1, from which on each call is to fail
  pub stop : Option ℕ
  -- how many writes were made
  pub writes : ℕ
  pub disk_faults : ℕ
  pub tell_faults : ℕ

-- what a new device in memory holds
abbrev pub unused : Memory
unused = record { begin = []; told_before = []; steps = []; failing = []; calls = 0; stop = None; writes = 0; disk_faults = 0; tell_faults = 0 }

-- a list of files as files by name: the first of a name counts
abbrev pub files_of : List (List ℕ × Option (List ℕ)) → Files
files_of files = look (λ file. file.0) (λ file. file.1) files

-- what it holds now, by replay
abbrev pub disk_of : Memory → Disk
disk_of memory = replay (begun (files_of memory.begin) memory.told_before) memory.steps

-- its files as each was last synced
abbrev pub durable_files_of : Memory → Files
durable_files_of memory = replay_durable (begun (files_of memory.begin) memory.told_before) (files_of memory.begin) memory.steps

-- one more call was done
pub record IsNext (old new : Memory) (step : Step) : Type 0 where
  pub begin : files_of new.begin ≡ files_of old.begin
  pub told_before : new.told_before ≡ old.told_before
  pub steps : new.steps ≡ old.steps ++ step ∷ []

-- no call was done
pub record IsStill (old new : Memory) : Type 0 where
  pub begin : files_of new.begin ≡ files_of old.begin
  pub told_before : new.told_before ≡ old.told_before
  pub steps : new.steps ≡ old.steps

-- what is to fail, and what was counted, stays
pub record KeepsCounts (old new : Memory) : Type 0 where
  pub failing : new.failing ≡ old.failing
  pub calls : new.calls ≡ old.calls
  pub stop : new.stop ≡ old.stop
  pub writes : new.writes ≡ old.writes
  pub disk_faults : new.disk_faults ≡ old.disk_faults
  pub tell_faults : new.tell_faults ≡ old.tell_faults

-- what is counted at a call on a file, by whether it was done
abbrev pub counted_call : Bool → Memory → Memory
counted_call ok memory = record memory { calls = one_more memory.calls; disk_faults = if ok then memory.disk_faults else one_more memory.disk_faults }

-- the same at a write
abbrev pub counted_write : Bool → Memory → Memory
counted_write ok memory = record memory { calls = one_more memory.calls; writes = one_more memory.writes; disk_faults = if ok then memory.disk_faults else one_more memory.disk_faults }

-- the same at a telling
abbrev pub counted_telling : Bool → Memory → Memory
counted_telling ok memory = record memory { calls = one_more memory.calls; tell_faults = if ok then memory.tell_faults else one_more memory.tell_faults }

-- the call that was counted last is to fail
abbrev pub IsToFail : Memory → Type 0
IsToFail memory = Contains memory.failing memory.calls ⊎ IsSomeAnd memory.stop (λ stop. stop ≤ memory.writes)

-- what a crash during a call, or after it at its moment, leaves: a call that tells may have told a front
unfoldable pub LeftBy : Disk → Step → ℕ → Files → List ℕ → Type 0
LeftBy disk step since image heard =
    ((since ≤ disk.moment) × MayLeave disk image × ((bytes : List ℕ) × (step ≡ Told bytes) × TellsFront bytes disk.told heard))
    ⊎ ((since ≤ disk.moment + 1) × MayLeave (after disk step) image × (heard ≡ (after disk step).told))

-- A crash at some moment from that one on left these files, with these bytes told by then: when the device began, or by one of its calls.
abbrev pub WasLeft : Memory → ℕ → Files → List ℕ → Type 0
WasLeft memory since image heard =
    ((since ≤ 0) × ((name : List ℕ) → image name ≡ files_of memory.begin name) × (heard ≡ memory.told_before))
    ⊎ ((front : List Step) × (step : Step) × (back : List Step) × (memory.steps ≡ front ++ step ∷ back) × LeftBy (replay (begun (files_of memory.begin) memory.told_before) front) step since image heard)
