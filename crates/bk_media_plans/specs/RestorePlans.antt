-- Plans of whole restores, as outcomes of the machine.
-- SQL Server: "Complete Database Restores"; "Restore and Recovery Overview", redo and undo.
use Rattle.std.specs.Prelude.{◌≡◌, ◌≤◌, ℕ, ◌+◌, false, List, [], ◌∷◌, ◌++◌, length, Result, Ok, Err}
use Rattle.bk_header.specs.Conditions.{IsHeader}
use Rattle.bk_hosted.specs.Hosted.{bringing_up, set_log}
use Rattle.bk_ids.specs.declared.guid.Guid.{Guid}
use Rattle.bk_items.specs.declared.item.ScriptEntry.{ScriptEntry}
use Rattle.bk_items.specs.declared.options.RestoreOptions.{RestoreOptions}
use Rattle.bk_machine.specs.Acts.{Act, Recovery, noted, replaced}
use Rattle.bk_machine.specs.Checks.{free_paths, most_branches, others, paths_of, used_up}
use Rattle.bk_machine.specs.Fits.{FitsStorage}
use Rattle.bk_machine.specs.Machine.{May}
use Rattle.bk_machine.specs.MayDo.{MayDoAll}
use Rattle.bk_machine.specs.Outcome.{Outcome}
use Rattle.bk_machine.specs.Sound.{IsSound, storage_in}
use Rattle.bk_machine.specs.World.{World}
use Rattle.bk_machine.specs.statements.CreateTable.{most_tables}
use Rattle.bk_machine.specs.declared.history_row.HistoryRow.TheVariants.{Restore}
use Rattle.bk_machine.specs.statements.Restore.{moved, restored_row, set_paths}
use Rattle.bk_world.specs.Pending.{pending}
use Rattle.bk_world.specs.Records.{recovered}
use Rattle.bk_world.specs.Says.{alone, settle_said}
use Rattle.bk_world.specs.Telling.{tables}
use Rattle.bk_world.specs.declared.database.TableSpec.{TableSpec}
use Rattle.bk_world.specs.declared.header.Header.{Header}
use Rattle.bk_world.specs.declared.msdb.RestoreRow.{RestoreRow}
use Rattle.bk_world.specs.declared.reply.Reply.{Reply}
use Rattle.bk_world.specs.declared.reply.Reply.TheVariants as reply
use Rattle.bk_world.specs.declared.rule.Rule.{Rule}
use Rattle.bk_kept.specs.declared.kept.Kept.{Kept}
use Rattle.bk_kept.specs.Keeps.{Sees}
use Rattle.bk_plans.specs.Planning.{KeepsRow}
use Rattle.bk_media_plans.specs.declared.restore_plan.RestorePlan.{RestorePlan}
use Rattle.bk_media_plans.specs.declared.restore_plan.RestorePlan.TheVariants.{Refused, BringsUp}
use Rattle.bk_media_plans.specs.Found.{Found, under}

-- what a recovery at a set's end says: all that is pending there is undone, the last write first, and one record names the branch
abbrev pub ending_of : World → Header → Guid → Recovery
ending_of w header branch = record { at = header.last; branch = branch; said = settle_said (pending (set_log w header)) ++ alone (recovered branch) }

-- These acts of a world bring up the database of a name by a set: it takes the database's place, its files are restored, and it is recovered at its end on a branch, which the record of the last
-- number names. Its tables are those of its path, no database of another name has the path of one of its files, and GUIDs are left.
pub record AreOfRestore (w : World) (set : Found) (name : List ℕ) (branch : Guid) (last : ℕ) (acts : List Act) : Type 0 where
  pub are : acts ≡ replaced name set.header ∷ bringing_up name set.header (ending_of w set.header branch)
  pub may : MayDoAll w acts
  pub last_is : last ≡ set.header.last + length (pending (set_log w set.header))
  pub tables_are : tables (set_log w set.header) ≡ set.tables
  pub unused : free_paths (paths_of (others w.databases name)) (set_paths set.header) ≡ Ok tt
  pub draws : used_up w.counter ≡ false

-- These acts of a world are a restore at a moment by these options: they bring up the database so, and behind that its row comes to restorehistory.
pub record AreNotedRestore (w : World) (now : ℕ) (options : RestoreOptions) (set : Found) (name : List ℕ) (branch : Guid) (last : ℕ) (row : RestoreRow) (acts : List Act) : Type 0 where
  pub bringing : List Act
  pub of : AreOfRestore w set name branch last bringing
  pub are : acts ≡ bringing ++ noted (Restore row) ∷ []
  pub row_is : row ≡ restored_row w now name options set.header

-- the acts of a restore that is planned by the set that was found, under the header of the plan
abbrev pub AreRestoreActs : World → ℕ → RestoreOptions → Result Found Rule → RestorePlan → List Act → Type 0
AreRestoreActs w now options found (Refused rule) acts = acts ≡ []
AreRestoreActs w now options (Ok set) (BringsUp name branch last header row) acts = AreNotedRestore w now options (under header set) name branch last row acts
AreRestoreActs w now options (Err rule) (BringsUp name branch last header row) acts = ⊥

-- what it replies
abbrev pub restore_reply : Result Found Rule → RestorePlan → Reply
restore_reply found (Refused rule) = reply.Refused rule
restore_reply (Ok set) (BringsUp name branch last header row) = reply.Recovered header.last
restore_reply (Err rule) (BringsUp name branch last header row) = reply.Refused rule

-- A plan of a restore at a moment by these options, by the set that was found: one outcome, to which the restore may come in each world that is seen and of which this is known, and whose acts are
-- then those of the plan.
pub record PlansRestore (k : Kept) (Known : World → Type 0) (options : RestoreOptions) (found : Result Found Rule) (s : ScriptEntry) (now : ℕ) (plan : RestorePlan) : Type 0 where
  pub outcome : Outcome
  pub replies : outcome.reply ≡ restore_reply found plan
  pub may : (w : World) → IsSound w → Sees w k → Known w → May w s now outcome
  pub acts : (w : World) → IsSound w → Sees w k → Known w → AreRestoreActs w now options found plan outcome.acts

-- a database has room for what a set has: filegroups, files, branches and tables
pub record KeepsSet (header : Header) (made : List TableSpec) : Type 0 where
  pub storage : FitsStorage (storage_in header)
  pub branches : length header.path ≤ most_branches
  pub few : length made ≤ most_tables

-- What a plan keeps beside its types that brings up a set: its header is the set's with files moved, and fits a set; a database has room for it; and its row fits its table.
pub record KeepsBringing (options : RestoreOptions) (set : Found) (header : Header) (row : RestoreRow) : Type 0 where
  pub is_moved : header ≡ moved options.moves set.header
  pub is_header : IsHeader header
  pub room : KeepsSet header set.tables
  pub keeps_row : KeepsRow (Restore row)

-- what a plan of a restore by these options keeps beside its types
abbrev pub KeepsRestore : RestoreOptions → Result Found Rule → RestorePlan → Type 0
KeepsRestore options found (Refused rule) = Unit {0}
KeepsRestore options (Ok set) (BringsUp name branch last header row) = KeepsBringing options set header row
KeepsRestore options (Err rule) (BringsUp name branch last header row) = Unit {0}
