-- Databases that are brought up of a set on a medium.
-- SQL Server: RESTORE (Transact-SQL), WITH RECOVERY; "Complete Database Restores (Full Recovery Model)".
use Rattle.std.specs.Prelude.{◌≡◌, ◌+◌, ◌⊎◌, ℕ, true, not, List, [], ◌∷◌, ◌++◌, length, map, Option, None, Some, set, slice_get}
use Rattle.std.specs.List.{AllByRecursion, position}
use Rattle.bk_archive.specs.Media.{KeepsMedia}
use Rattle.bk_body.specs.Body.{Body}
use Rattle.bk_body.specs.Conditions.{IsBody, has_extent}
use Rattle.bk_body.specs.Slots.{holds}
use Rattle.bk_carried.specs.Arrived.{IsFor, MayName, arrived, known_of}
use Rattle.bk_carried.specs.Carried.{Carries, data_extents, given, id_of, is_there}
use Rattle.bk_device.specs.Calls.{contents}
use Rattle.bk_device.specs.Disk.{Files}
use Rattle.bk_facts.specs.declared.facts.DataFile.{DataFile}
use Rattle.bk_hosted.specs.Hosted.{Hosted, Hosts, bringing_up, names, parking, restoring, set_log, set_storage}
use Rattle.bk_ids.specs.declared.guid.Guid.{Guid}
use Rattle.bk_ids.specs.declared.record.Rec.{Rec}
use Rattle.bk_known.specs.declared.known.DatabaseSpec.{DatabaseSpec}
use Rattle.bk_known.specs.declared.known.Known.{Known}
use Rattle.bk_machine.specs.Acts.{Act, Recovery, done_all, file_units, is_simple, taken_over}
use Rattle.bk_machine.specs.MayDo.{MayDoAll}
use Rattle.bk_machine.specs.Sound.{IsSound, IsSoundSet}
use Rattle.bk_machine.specs.World.{Database, World, database_named}
use Rattle.bk_machine.specs.Writes.{ActsWrite}
use Rattle.bk_machine.specs.statements.Restore.{base_of, is_online}
use Rattle.bk_points.specs.declared.points.Points.{Points}
use Rattle.bk_record.specs.Log.{IsLog}
use Rattle.bk_carried.specs.Restored.{SufficesTold}
use Rattle.bk_hosting.specs.RestoringArriving.{Kept as KeptArriving}
use Rattle.bk_store.specs.Told.{data_file}
use Rattle.bk_stores.specs.Beside.{ShareNoFile}
use Rattle.bk_volume.specs.Media.{slot_at}
use Rattle.bk_volume.specs.Stored.{IsOf, Stored}
use Rattle.bk_world.specs.declared.database.FileSpec.{FileSpec}
use Rattle.bk_world.specs.declared.database.State.TheVariants as state
use Rattle.bk_world.specs.declared.database.Status.TheVariants.{Online}
use Rattle.bk_world.specs.declared.database.TableSpec.{TableSpec}
use Rattle.bk_world.specs.declared.header.Header.{Header}
use Rattle.bk_world.specs.declared.header.HeaderFile.{HeaderFile}
use Rattle.bk_world.specs.Pending.{pending}
use Rattle.bk_world.specs.Records.{recovered}
use Rattle.bk_world.specs.Says.{alone, settle_said}
use Rattle.bk_engine.specs.Stands.{Covers}

-- ---- a set that is restored to other paths

-- a data file at another path
abbrev pub put_at : (FileSpec → List ℕ) → HeaderFile → HeaderFile
put_at to file = record file { spec = record file.spec { path = to file.spec } }

-- A set is restored under this header: its own, with its data files and its log at these paths.
pub record MovesOnly (set header : Header) : Type 0 where
  pub to : FileSpec → List ℕ
  pub log_path : List ℕ
  pub is : header ≡ record set { files = map (put_at to) set.files; log_path = log_path }

-- ---- what a header says of the database

-- its data files
abbrev pub files_on : Header → List DataFile
files_on header = map data_file (set_storage header).files

-- its description, under a name and with a branch of its own from the set's end on
abbrev pub spec_on : List ℕ → Header → Guid → DatabaseSpec
spec_on name header branch = record { name = name; family = header.family; path = header.path ++ (record { guid = branch; start = header.last }) ∷ []; storage = set_storage header }

-- what is known of it as of the set's end, where it has these tables
abbrev pub known_on : List ℕ → Header → List TableSpec → Guid → Known
known_on name header tables branch = record {
  spec = spec_on name header branch;
  as_of = record { from = header.last; tables = tables; model = header.model; time = header.finish };
}

-- its points: it is online, and its log begins with the set's end
abbrev pub points_at : Header → Points
points_at header = record {
  next_checkpoint = 0;
  next_kept = 0;
  archive = header.last;
  kept = header.last;
  checkpoint = header.last;
  chain = not (is_simple header.model);
  began = true;
  base = base_of header;
  status = Online;
  units = file_units state.Online header.files;
}

-- ---- the recovery

-- at the set's end, on a branch: all is undone that was pending, and then one record names the branch
abbrev pub recovery_of : World → Header → Guid → Recovery
recovery_of w header branch = record { at = header.last; branch = branch; said = settle_said (pending (set_log w header)) ++ alone (recovered branch) }

-- the number of that record
abbrev pub last_said : World → Header → ℕ
last_said w header = header.last + length (pending (set_log w header))

-- the acts: the files are restored, and the database is recovered so
abbrev pub coming_up : World → List ℕ → Header → Guid → List Act
coming_up w name header branch = bringing_up name header (recovery_of w header branch)

-- ---- when it may be done

-- no database that can be used has a data file of the set's
abbrev pub HaveNoneOf : World → Header → Type 0
HaveNoneOf w header = AllByRecursion (λ (db : Database). is_online db.status ≡ true → ShareNoFile (files_on header) (map data_file db.files)) w.databases

-- The database of the name is still as a sound set took its place, and it may be brought up on this branch; this is the number of the last record of its recovery.
pub record MayComeUp (w : World) (name : List ℕ) (header : Header) (branch : Guid) (last : ℕ) : Type 0 where
  pub sound : IsSoundSet w header
  pub parked : database_named w.databases name ≡ Some (taken_over name header)
  pub none : HaveNoneOf w header
  pub may : MayDoAll w (coming_up w name header branch)
  pub last_is : last ≡ last_said w header

-- A set of the medium in the file of this name was opened so.
pub record IsSetOn (files : Files) (medium : List ℕ) (stored : Stored) : Type 0 where
  pub body : Body
  pub position : ℕ
  pub there : slot_at (files medium) position ≡ Some (holds body)
  pub is : IsOf (contents (files medium)) body stored

-- a crash leaves the world before these acts, or the one behind all of them
abbrev pub CutsActs : World → List Act → Files → Type 0
CutsActs w acts image = Covers w image ⊎ Covers (done_all w acts) image

-- ---- what the laws of the crates below say

-- a database behind a whole restore is hosted as it comes up
abbrev pub BringsUp : Type 0
BringsUp = (w : World) (name : List ℕ) (header : Header) (r : Recovery) (hosted : List Hosted) (i : ℕ) → IsSound w → Hosts w hosted → IsSoundSet w header → MayDoAll w (bringing_up name header r) → r.at ≡ header.last
    → position (names name) hosted ≡ Some i → slice_get hosted i ≡ Some (parking (set_log w header) name header) → Hosts (done_all w (bringing_up name header r)) (set hosted i (restoring (set_log w header) name header r))

-- Sets are enough to restore them, and what a restore does to worlds, to their media and to what is hosted.
pub record Laws : Type 0 where
  pub listed : (body : Body) → IsBody body → ((file extent : ℕ) → has_extent body.header.files file extent ≡ true → is_there body.extents file extent ≡ true) → map id_of body.extents ≡ data_extents body.header.files
  pub suffices : (w : World) (body : Body) (name : List ℕ) (r : Recovery) (note : List ℕ) (a : KeptArriving) (records : List Rec) → Carries w.history body → IsSoundSet w body.header → IsBody body → MayName name body.header r note
      → IsFor a body.header.first (arrived w name body.header r note) → IsLog body.log records None
      → SufficesTold a body.header.checkpoint note (given body) records (known_of (arrived w name body.header r note).spec body) (arrived w name body.header r note)
  pub brings : BringsUp
  pub sound : (w : World) (acts : List Act) → IsSound w → MayDoAll w acts → IsSound (done_all w acts)
  pub media : (w : World) (acts : List Act) (making : Option (List ℕ)) (files : Files) → IsSound w → MayDoAll w acts → ((path : List ℕ) → ActsWrite acts path → ⊥) → KeepsMedia w making files → KeepsMedia (done_all w acts) making files
