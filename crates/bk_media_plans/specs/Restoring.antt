-- What a whole restore brings up, and what its plan is told.
use Rattle.std.specs.Prelude.{◌≡◌, ◌≤◌, ℕ, ◌+◌, max, min, Bool, ◌&&◌, List, [], length, Option, None}
use Rattle.bk_ids.specs.declared.guid.Guid.{Guid}
use Rattle.bk_items.specs.declared.item.RestoredUnits.{RestoredUnits}
use Rattle.bk_items.specs.declared.options.RestoreOptions.{RestoreOptions}
use Rattle.bk_machine.specs.Acts.{latest}
use Rattle.bk_machine.specs.Checks.{is_name, is_path, last_number}
use Rattle.bk_machine.specs.World.{World, database_named}
use Rattle.bk_machine.specs.statements.Restore.{disk_path, is_recovery, is_whole_restore, name_known}
use Rattle.bk_shown.specs.Ends.{HoldsPending}
use Rattle.bk_shown.specs.Shown.{ArePlaced}
use Rattle.bk_world.specs.Pending.{Pending, pending}
use Rattle.bk_world.specs.Records.{Counts, Logged}
use Rattle.bk_world.specs.SoundLogs.{IsSound}
use Rattle.bk_world.specs.declared.database.FileSpec.{FileSpec}
use Rattle.bk_world.specs.declared.header.Header.{Header}
use Rattle.bk_world.specs.declared.msdb.RestoreKind.TheVariants.{Set}
use Rattle.bk_world.specs.declared.msdb.RestoreRow.{RestoreRow}
use Rattle.bk_kept.specs.declared.kept.Kept.{Kept}
use Rattle.bk_kept.specs.Keeps.{Sees}
use Rattle.bk_plans.specs.declared.refusal.Refusal.{Refusal}
use Rattle.bk_plans.specs.declared.refusal.Refusal.TheVariants.{Broken, NoMemory}
use Rattle.bk_media_plans.specs.declared.restore_plan.RestorePlan.{RestorePlan}
use Rattle.bk_media_plans.specs.declared.restore_plan.RestorePlan.TheVariants.{Refused, BringsUp}
use Rattle.bk_media_plans.specs.Found.{Found}

-- these writes are pending in each log that ends in these bytes
abbrev pub ArePending : List ℕ → List Pending → Type 0
ArePending held ws = (files : List FileSpec) (rs : List Logged) (first «end» : ℕ) → Counts 1 rs «end» → IsSound rs → ArePlaced files [] rs → HoldsPending rs first held → ws ≡ pending rs

-- The recovery of a log that ends in these bytes, at a number, says its last record under this one: one record for each pending write, and behind them the one that names the branch.
pub record EndsRecovery (held : List ℕ) (at last : ℕ) : Type 0 where
  pub writes : List Pending
  pub are : ArePending held writes
  pub last_is : last ≡ at + length writes

-- These bytes are the end of a log up to below a number, with all that is pending in it, and numbers are left from there on for its recovery: to undo each
-- pending write, and to name the branch.
pub record LeavesRecovery (held : List ℕ) (at : ℕ) : Type 0 where
  pub files : List FileSpec
  pub log : List Logged
  pub first : ℕ
  pub counts : Counts 1 log at
  pub sound : IsSound log
  pub placed : ArePlaced files [] log
  pub holds : HoldsPending log first held
  pub numbers : at + (length (pending log) + 1) ≤ last_number

-- a database that is asked for by one name has this one in all worlds that are seen, or there is none and this is what was asked for
abbrev pub IsKnown : Kept → List ℕ → List ℕ → Type 0
IsKnown k asked name = (w : World) → Sees w k → name ≡ name_known (database_named w.databases asked) asked

-- what is asked for is restored under the name that is known, on the next GUID, up to the record that names the branch
pub record IsOfRestore (k : Kept) (asked : List ℕ) (set : Found) (name : List ℕ) (branch : Guid) (last : ℕ) : Type 0 where
  pub known : IsKnown k asked name
  pub branch_is : branch ≡ record { high = k.number; low = k.counter }
  pub ends : EndsRecovery set.log set.header.last last

-- the row of restorehistory of a restore at a moment, by the time that its set was finished
abbrev pub row_by : ℕ → List ℕ → RestoreOptions → Header → RestoreRow
row_by now name options header = record {
  time = max (min now latest) header.finish;
  database = name;
  set = header.set;
  kind = Set header.kind;
  replace = options.replace;
  recovery = is_recovery options.ending;
  stop = None;
}

-- a plan restores it so at a moment, by this header and with this row
abbrev pub RestoresWhole : Kept → List ℕ → ℕ → RestoreOptions → Found → RestorePlan → Type 0
RestoresWhole k asked now options set (BringsUp name branch last header row) = (header ≡ set.header) × IsOfRestore k asked set name branch last × (row ≡ row_by now name options set.header)
RestoresWhole k asked now options set (Refused rule) = ⊥

-- a plan refuses by the rule of a refusal
abbrev pub IsRefusedRestore : Refusal → RestorePlan → Type 0
IsRefusedRestore (Broken rule) plan = plan ≡ Refused rule
IsRefusedRestore NoMemory plan = ⊥

-- a RESTORE DATABASE is built: a whole restore, of a name and from a path
abbrev pub is_built : List ℕ → RestoredUnits → Option (List ℕ) → RestoreOptions → Bool
is_built name units disk options = is_whole_restore units disk options && is_name name && is_path (disk_path disk)
