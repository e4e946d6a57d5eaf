-- RESTORE DATABASE: a whole restore from a set of a medium, with recovery.
-- SQL Server: RESTORE (Transact-SQL); "Complete Database Restores"; "Restore a Database to a New Location"; "Tail-Log Backups"; "Recovery Paths".
use Rattle.std.specs.Prelude.{◌≡◌, ◌≤◌, ℕ, zero, suc, max, min, Bool, true, false, not, ◌&&◌, ◌||◌, List, [], ◌∷◌, length, map, nat_lt, nat_le, slice_get, Option, Some, None, is_none, Ok, Err, if◌then◌else◌}
use Rattle.std.specs.List.{AllByRecursion, count_by, list_all, list_any}
use Rattle.bk_ids.specs.declared.guid.Guid.{Guid}
use Rattle.bk_items.specs.declared.item.RestoredUnits.{RestoredUnits}
use Rattle.bk_items.specs.declared.item.RestoredUnits.TheVariants.{Named, Pages}
use Rattle.bk_items.specs.declared.options.Ending.{Ending}
use Rattle.bk_items.specs.declared.options.Ending.TheVariants.{Recovery as EndRecovery}
use Rattle.bk_items.specs.declared.options.FileMove.{FileMove}
use Rattle.bk_items.specs.declared.options.RestoreOptions.{RestoreOptions}
use Rattle.bk_world.specs.declared.database.Base.{Base}
use Rattle.bk_world.specs.declared.database.Status.{Status}
use Rattle.bk_world.specs.declared.database.Status.TheVariants as status
use Rattle.bk_ids.specs.Name.{same_name}
use Rattle.bk_world.specs.declared.header.Header.{Header}
use Rattle.bk_world.specs.declared.header.HeaderFile.{HeaderFile}
use Rattle.bk_world.specs.declared.msdb.RestoreKind.TheVariants.{Set}
use Rattle.bk_world.specs.declared.msdb.RestoreRow.{RestoreRow}
use Rattle.bk_world.specs.declared.reply.Reply.TheVariants.{Recovered}
use Rattle.bk_world.specs.declared.rule.Limit.TheVariants.{Databases}
use Rattle.bk_world.specs.declared.rule.Rule.TheVariants.{MediaMissing, NotMedia, NoSuchSet, SetDamaged, OtherFamily, TailNotBackedUp, UnitNotInSet, PathFull, LimitReached, NotBuilt}
use Rattle.bk_world.specs.History.{is_guid}
use Rattle.bk_world.specs.Lines.{log_below}
use Rattle.bk_world.specs.Medium.{Slot, Reading, readable, damaged, no_set, not_media, medium, medium_at}
use Rattle.bk_world.specs.Pending.{pending}
use Rattle.bk_world.specs.Records.{Deed, Logged, Said, more, numbered, undone, rolled_back, recovered as recovery_deed}
use Rattle.bk_world.specs.SoundLogs.{MayFollow}
use Rattle.bk_world.specs.Telling.{model, time}
use Rattle.bk_machine.specs.declared.history_row.HistoryRow.TheVariants.{Restore}
use Rattle.bk_machine.specs.Acts.{Act, Recovery, latest, noted, replaced, restored, recovered, drawn, is_simple}
use Rattle.bk_machine.specs.Checks.{Checked, ◌>>=◌, refuse_if, or_refuse, outside, unused, without_job, limit, used_up, is_name, is_path, most_branches, most_databases, paths_of, others, free_paths, different_paths}
use Rattle.bk_machine.specs.Outcome.{Outcome}
use Rattle.bk_machine.specs.World.{World, Database, database_named, log_of}

-- Which of them are built.

abbrev pub is_recovery : Option Ending → Bool
is_recovery None = true
is_recovery (Some EndRecovery) = true
is_recovery (Some _) = false

-- a file is moved by its name to a path (a script has no others)
abbrev pub is_move : FileMove → Bool
is_move m = is_name m.name && is_path m.path

-- FILE, MOVE, RECOVERY and REPLACE may be there, beside CHECKSUM and options without effect
abbrev pub is_plain : RestoreOptions → Bool
is_plain o = is_recovery o.ending && is_none o.stop && not o.partial && list_all is_move o.moves

abbrev pub lists_none : RestoredUnits → Bool
lists_none (Named []) = true
lists_none (Named (unit ∷ units)) = false
lists_none (Pages pages) = false

abbrev pub is_whole_restore : RestoredUnits → Option (List ℕ) → RestoreOptions → Bool
is_whole_restore units None options = false
is_whole_restore units (Some disk) options = lists_none units && is_plain options

-- Sets.

-- the header of a slot, where it is a set that can be read
abbrev pub read_slot : Slot → Checked Header
read_slot (readable header) = Ok header
read_slot (damaged stored found) = Err (SetDamaged (record { bytes = stored }) (record { bytes = found }))
read_slot no_set = Err NotMedia

-- the slot at a position, which counts from 1
abbrev pub slot_at : List Slot → ℕ → Option Slot
slot_at slots zero = None
slot_at slots (suc n) = slice_get slots n

-- the slots of a medium
abbrev pub slots_of : Option Reading → Checked (List Slot)
slots_of None = Err MediaMissing
slots_of (Some not_media) = Err NotMedia
slots_of (Some (medium slots)) = Ok slots

-- the header of the set at a position of a medium
unfoldable pub set_at : ℕ → Option Reading → Checked Header
set_at n reading = do
  slots ← slots_of reading
  slot ← or_refuse (slot_at slots n) (NoSuchSet n (length slots))
  read_slot slot

-- the set that FILE chooses, the first one where there is no FILE
abbrev pub position_of : Option ℕ → ℕ
position_of None = 1
position_of (Some n) = n

-- Moves.

-- the path that moves give a file of this name: that of the last one that names it
abbrev pub moved_path : List FileMove → List ℕ → List ℕ → List ℕ
moved_path [] name path = path
moved_path (m ∷ moves) name path = moved_path moves name (if same_name m.name name then m.path else path)

-- a data file of a set, moved
abbrev pub moved_file : List FileMove → HeaderFile → HeaderFile
moved_file moves file = record file { spec = record file.spec { path = moved_path moves file.spec.name file.spec.path } }

-- a data file of the set has this name
abbrev pub names_file : Header → List ℕ → Bool
names_file header name = list_any (λ (file : HeaderFile). same_name file.spec.name name) header.files

-- the path of its log: a name that is a data file's means that one
abbrev pub moved_log : List FileMove → Header → List ℕ
moved_log moves header = if names_file header header.log_name then header.log_path else moved_path moves header.log_name header.log_path

-- a set as it is restored, with its files at the paths to which they are moved
abbrev pub moved : List FileMove → Header → Header
moved moves header = record header { files = map (moved_file moves) header.files; log_path = moved_log moves header }

-- refused at the first name that no file of the set has
abbrev pub check_moves : Header → List FileMove → Checked (Unit {0})
check_moves header [] = Ok tt
check_moves header (m ∷ moves) = if names_file header m.name || same_name header.log_name m.name then check_moves header moves else Err (UnitNotInSet m.name)

-- Rules.

-- a session has an open transaction in the database, if it is there, or a backup of it runs
abbrev pub check_unused : Option Database → Checked (Unit {0})
check_unused None = Ok tt
check_unused (Some db) = do
  _ ← unused db
  without_job db

-- a set of another family, unless the database may be replaced
abbrev pub check_family : Option Database → Bool → Header → Checked (Unit {0})
check_family None replace header = Ok tt
check_family (Some db) replace header = refuse_if (not replace && not (is_guid db.family header.family)) (OtherFamily db.family header.family)

abbrev pub is_online : Status → Bool
is_online status.Online = true
is_online (status.Standby file) = false
is_online status.Down = false

-- the end of the log isn't backed up, and would be lost
abbrev pub has_tail : World → Database → Bool
has_tail w db = is_online db.status && not (is_simple (model (log_of w.history db))) && db.chain && nat_lt db.archive db.end

abbrev pub check_tail : World → Option Database → Bool → Checked (Unit {0})
check_tail w None replace = Ok tt
check_tail w (Some db) replace = refuse_if (has_tail w db && not replace) (TailNotBackedUp db.archive db.end)

-- one database more than there may be
abbrev pub check_number : List Database → Option Database → Checked (Unit {0})
check_number databases None = refuse_if (nat_le most_databases (length databases)) (LimitReached Databases)
check_number databases (Some db) = Ok tt

-- the paths of a set's data files, in which no file of another database may lie, and no two of its own
abbrev pub set_paths : Header → List (List ℕ)
set_paths header = map (λ file. file.spec.path) header.files

-- the path of the medium, empty where none is named
abbrev pub disk_path : Option (List ℕ) → List ℕ
disk_path None = []
disk_path (Some path) = path

-- its files lie at paths that no other file has; its path takes one more branch; there are numbers left
unfoldable pub check_room : World → List ℕ → Header → Checked Header
check_room w name header = do
  _ ← free_paths (paths_of (others w.databases name)) (set_paths header)
  _ ← different_paths [] (set_paths header)
  _ ← refuse_if (nat_le most_branches (length header.path)) PathFull
  _ ← limit (used_up header.last || used_up w.counter)
  Ok header

-- what is checked of a set by its header, and of what it is restored as
unfoldable pub check_set : World → List ℕ → RestoreOptions → Header → Checked Header
check_set w name options header = do
  _ ← check_unused (database_named w.databases name)
  _ ← check_family (database_named w.databases name) options.replace header
  _ ← check_moves header options.moves
  _ ← check_tail w (database_named w.databases name) options.replace
  _ ← check_number w.databases (database_named w.databases name)
  check_room w name (moved options.moves header)

unfoldable pub check_restore : World → ℕ → List ℕ → RestoredUnits → Option (List ℕ) → RestoreOptions → Checked Header
check_restore w line name units disk options = do
  _ ← refuse_if (not (is_whole_restore units disk options && is_name name && is_path (disk_path disk))) (NotBuilt line)
  _ ← outside w
  header ← set_at (position_of options.file) (medium_at w.media (disk_path disk))
  check_set w name options header

-- Parts.

-- the database's name: as it is known, or as it is asked for
abbrev pub name_known : Option Database → List ℕ → List ℕ
name_known None name = name
name_known (Some db) name = db.name

-- what a differential is based on behind this set: none behind a copy
abbrev pub base_of : Header → Option Base
base_of header = if header.copy_only then None else Some (record { set = header.set; lsn = header.checkpoint })

-- a record that a recovery says: it undoes a write or ends a rollback, or it names the branch, of no transaction
abbrev pub IsOfRecovery : Guid → ℕ → Deed → Type 0
IsOfRecovery branch begin (undone at c n) = Unit {0}
IsOfRecovery branch begin rolled_back = Unit {0}
IsOfRecovery branch begin (recovery_deed other) = (begin ≡ 0) × (other ≡ branch)
IsOfRecovery branch begin _ = ⊥

abbrev pub is_recovery_deed : Said → Bool
is_recovery_deed s = by_deed s.deed
  where
    by_deed : Deed → Bool
    by_deed (recovery_deed branch) = true
    by_deed _ = false

-- What a recovery behind these records says: it undoes all that is pending, and one record names the branch.
pub record Recovers (rs : List Logged) (r : Recovery) : Type 0 where
  pub may : MayFollow rs (numbered r.at r.said)
  pub each : AllByRecursion (λ (s : Said). IsOfRecovery r.branch s.begin s.deed) r.said
  pub one : count_by is_recovery_deed r.said ≡ 1
  pub settles : pending (more rs r.at r.said) ≡ []
  pub few : length r.said ≤ min r.at 4194304

-- its row of restorehistory, with a time that isn't below the last one in the log of the set
unfoldable pub restored_row : World → ℕ → List ℕ → RestoreOptions → Header → RestoreRow
restored_row w now name options header = record {
  time = max (min now latest) (time (log_below w.history header.path header.last));
  database = name;
  set = header.set;
  kind = Set header.kind;
  replace = options.replace;
  recovery = is_recovery options.ending;
  stop = None;
}

-- the database is replaced and its files are Bad; they are restored; it is recovered; its row of restorehistory
abbrev pub whole_restore : List ℕ → Header → Recovery → RestoreRow → List Act
whole_restore name header r row = replaced name header ∷ restored name (base_of header) header.last ∷ recovered name r ∷ noted (Restore row) ∷ []

abbrev pub restored_whole : List ℕ → Header → Recovery → RestoreRow → Outcome
restored_whole name header r row = record { acts = whole_restore name header r row; reply = Recovered header.last }

-- it is recovered at the end of its set, on a branch that is drawn for it
abbrev pub DoesRestore : World → List ℕ → RestoreOptions → ℕ → Header → Outcome → Type 0
DoesRestore w name options now header outcome = (r : Recovery) × (r.at ≡ header.last) × (r.branch ≡ drawn w w.counter) × Recovers (log_below w.history header.path header.last) r
    × (outcome ≡ restored_whole (name_known (database_named w.databases name) name) header r (restored_row w now (name_known (database_named w.databases name) name) options header))
