-- The columns of a backup set. SQL Server: "RESTORE HEADERONLY", "backupset".
use Rattle.std.specs.Prelude.{ℕ, ◌-◌, max, Bool, ◌&&◌, nat_le, nat_eq, if◌then◌else◌, List, [], ◌∷◌, codes, Option, Some, None}
use Rattle.std.specs.Fmt.{decimal}
use Rattle.bk_ids.specs.declared.guid.Guid.{Guid}
use Rattle.bk_ids.specs.declared.path.Branch.{Branch}
use Rattle.bk_ids.specs.declared.record.RecoveryModel.{RecoveryModel}
use Rattle.bk_ids.specs.declared.record.RecoveryModel.TheVariants as model
use Rattle.bk_ids.specs.Guid.{guid_text}
use Rattle.bk_world.specs.declared.database.Base.{Base}
use Rattle.bk_world.specs.declared.header.Header.{Header}
use Rattle.bk_world.specs.declared.header.SetKind.{SetKind}
use Rattle.bk_world.specs.declared.header.SetKind.TheVariants as kind
use Rattle.bk_world.specs.declared.msdb.BackupRow.{BackupRow}
use Rattle.bk_report.specs.Cells.{tabbed, line, null, flag, text_or_null, maybe_time}
use Rattle.bk_report.specs.Times.{time_text}

-- the type as HEADERONLY numbers it
abbrev pub type_number : SetKind → List ℕ
type_number kind.Full = codes "1"
type_number kind.Log = codes "2"
type_number kind.File = codes "4"
type_number kind.Differential = codes "5"

-- the type as the tables of msdb have it
abbrev pub type_letter : SetKind → List ℕ
type_letter kind.Full = codes "D"
type_letter kind.Log = codes "L"
type_letter kind.File = codes "F"
type_letter kind.Differential = codes "I"

-- recovery_model
abbrev pub model_word : RecoveryModel → List ℕ
model_word model.Simple = codes "SIMPLE"
model_word model.Full = codes "FULL"
model_word model.BulkLogged = codes "BULK-LOGGED"

-- position, type, database_name, name, backup_set_uuid, family_guid
abbrev pub set_cells : List ℕ → ℕ → Header → List ℕ
set_cells type position h =
    tabbed (decimal position ∷ type ∷ h.database ∷ text_or_null h.name ∷ guid_text h.set ∷ guid_text h.family ∷ [])

-- a differential set names its base; the others don't
abbrev pub named_base : SetKind → Option Base → Option Base
named_base kind.Differential base = base
named_base _ base = None

-- differential_base_lsn, differential_base_guid
abbrev pub base_cells : Option Base → List ℕ
base_cells None = tabbed (null ∷ null ∷ [])
base_cells (Some base) = tabbed (decimal base.lsn ∷ guid_text base.set ∷ [])

-- first_lsn, last_lsn, checkpoint_lsn, database_backup_lsn, and the base
abbrev pub log_cells : Header → List ℕ
log_cells h =
    tabbed (decimal h.first ∷ decimal h.last ∷ decimal h.checkpoint ∷ decimal h.database_backup ∷ base_cells (named_base h.kind h.base) ∷ [])

-- the last branch of a path that starts at n or below, or else the one found before
abbrev pub branch_from : Option Branch → List Branch → ℕ → Option Branch
branch_from found [] n = found
branch_from found (branch ∷ path) n = branch_from (if nat_le branch.start n then Some branch else found) path n

-- the branch of a path at n
abbrev pub fork_at : List Branch → ℕ → Option Branch
fork_at path n = branch_from None path n

-- where the first fork of a set is looked for: a log set's just below its first record, a data set's just below its last
abbrev pub first_at : SetKind → ℕ → ℕ → ℕ
first_at kind.Log first last = max (first - 1) 1
first_at _ first last = last - 1

-- a fork's GUID
abbrev pub fork_guid : Option Branch → List ℕ
fork_guid None = null
fork_guid (Some branch) = guid_text branch.guid

abbrev pub same_guid : Guid → Guid → Bool
same_guid a b = nat_eq a.high b.high && nat_eq a.low b.low

-- where the second of two forks starts, if it isn't the first
abbrev pub fork_point : Option Branch → Option Branch → List ℕ
fork_point (Some a) (Some b) = if same_guid a.guid b.guid then null else decimal b.start
fork_point _ _ = null

-- first_recovery_fork_guid, last_recovery_fork_guid, fork_point_lsn
abbrev pub fork_cells : Header → List ℕ
fork_cells h =
    let first = fork_at h.path (first_at h.kind h.first h.last) in
    let last = fork_at h.path (h.last - 1) in
    tabbed (fork_guid first ∷ fork_guid last ∷ fork_point first last ∷ [])

-- recovery_model, has_bulk_logged_data, is_copy_only, begins_log_chain, has_backup_checksums
abbrev pub flag_cells : Header → List ℕ
flag_cells h = tabbed (model_word h.model ∷ flag h.bulk ∷ flag h.copy_only ∷ flag h.begins_chain ∷ flag h.checksums ∷ [])

-- backup_start_date, backup_finish_date, expiration_date
abbrev pub date_cells : Header → List ℕ
date_cells h = tabbed (time_text h.start ∷ time_text h.finish ∷ maybe_time h.expiry ∷ [])

-- the columns of a set
abbrev pub columns : List ℕ → ℕ → Header → List ℕ
columns type position h = tabbed (set_cells type position h ∷ log_cells h ∷ fork_cells h ∷ flag_cells h ∷ date_cells h ∷ [])

-- a set, as HEADERONLY shows it
abbrev pub header_line : ℕ → Header → List ℕ
header_line position h = line (columns (type_number h.kind) position h ∷ [])

-- a row of backupset
abbrev pub backup_line : ℕ → BackupRow → List ℕ
backup_line id row = line (decimal id ∷ columns (type_letter row.header.kind) row.position row.header ∷ [])
