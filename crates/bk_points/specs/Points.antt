-- What a note keeps of a database beside its names, files and tables: the points of its log, what a differential would be based on, its status, and its units of restore behind their
-- number of two bytes. Numbers of log records have eight bytes; where there is a choice a byte says which it is, and what is chosen comes behind it.
use Rattle.std.specs.Prelude.{ℕ, zero, suc, ◌+◌, ◌*◌, ◌^◌, ◌<◌, ◌≤◌, Bool, true, false, List, ◌++◌, length, Option, Some, None}
use Rattle.std.specs.List.{AllByRecursion, flat_map}
use Rattle.bk_bytes.specs.Codec.{◌>>=◌, Codec, IsString, number, number_at, string, followed, converted, counted}
use Rattle.bk_bytes.specs.Field.{bytes_of}
use Rattle.bk_fields.specs.Guids.{IsGuid, guid_bytes, guid_form}
use Rattle.bk_ids.specs.declared.guid.Guid.{Guid}
use Rattle.bk_ids.specs.declared.unit.UnitId.{UnitId}
use Rattle.bk_ids.specs.declared.unit.UnitId.TheVariants.{File, Page}
use Rattle.bk_world.specs.declared.database.Base.{Base}
use Rattle.bk_world.specs.declared.database.State.{State}
use Rattle.bk_world.specs.declared.database.State.TheVariants as state
use Rattle.bk_world.specs.declared.database.Status.{Status}
use Rattle.bk_world.specs.declared.database.Status.TheVariants as status
use Rattle.bk_world.specs.declared.database.Unit.{Unit as RestoreUnit}
use Rattle.bk_points.specs.declared.points.LogPoints.{LogPoints}
use Rattle.bk_points.specs.declared.points.Points.{Points}

-- ---- its spelling

abbrev pub bit : Bool → ℕ
bit false = 0
bit true = 1

-- bit 0 says whether its log can be backed up, bit 1 whether a log backup began the chain
abbrev pub flags_number : Bool → Bool → ℕ
flags_number chain began = bit chain + 2 * bit began

abbrev pub log_points_bytes : LogPoints → List ℕ
log_points_bytes log =
    bytes_of 8 log.next_checkpoint ++ (bytes_of 8 log.next_kept ++ (bytes_of 8 log.archive ++ (bytes_of 8 log.kept ++ (bytes_of 8 log.checkpoint ++ bytes_of 1 (flags_number log.chain log.began)))))

-- 0 where there is no base, else 1, its set and its checkpoint
abbrev pub base_bytes : Option Base → List ℕ
base_bytes None = bytes_of 1 0
base_bytes (Some base) = bytes_of 1 1 ++ (guid_bytes base.set ++ bytes_of 8 base.lsn)

-- the path of a standby file is behind its length of two bytes
abbrev pub status_bytes : Status → List ℕ
status_bytes status.Online = bytes_of 1 0
status_bytes status.Down = bytes_of 1 1
status_bytes (status.Standby path) = bytes_of 1 2 ++ (bytes_of 2 (length path) ++ path)

-- a file's number has two bytes, a page's four
abbrev pub id_bytes : UnitId → List ℕ
id_bytes (File file) = bytes_of 1 0 ++ bytes_of 2 file
id_bytes (Page file page) = bytes_of 1 1 ++ (bytes_of 2 file ++ bytes_of 4 page)

abbrev pub state_bytes : State → List ℕ
state_bytes state.Online = bytes_of 1 0
state_bytes state.Offline = bytes_of 1 1
state_bytes state.Bad = bytes_of 1 2
state_bytes (state.Restoring base redo) = bytes_of 1 3 ++ (base_bytes base ++ bytes_of 8 redo)

abbrev pub unit_bytes : RestoreUnit → List ℕ
unit_bytes unit = id_bytes unit.id ++ state_bytes unit.state

abbrev pub units_bytes : List RestoreUnit → List ℕ
units_bytes units = bytes_of 2 (length units) ++ flat_map unit_bytes units

abbrev pub log_points_of : Points → LogPoints
log_points_of points = record { next_checkpoint = points.next_checkpoint; next_kept = points.next_kept; archive = points.archive; kept = points.kept; checkpoint = points.checkpoint; chain = points.chain; began = points.began }

abbrev pub points_bytes : Points → List ℕ
points_bytes points = log_points_bytes (log_points_of points) ++ (base_bytes points.base ++ (status_bytes points.status ++ units_bytes points.units))

-- ---- which have a spelling

pub record IsLogPoints (log : LogPoints) : Type 0 where
  pub next_checkpoint : log.next_checkpoint < 2 ^ 64
  pub next_kept : log.next_kept < 2 ^ 64
  pub archive : log.archive < 2 ^ 64
  pub kept : log.kept < 2 ^ 64
  pub checkpoint : log.checkpoint < 2 ^ 64

abbrev pub IsBase : Option Base → Type 0
IsBase None = Unit {0}
IsBase (Some base) = IsGuid base.set × (base.lsn < 2 ^ 64)

abbrev pub IsStatus : Status → Type 0
IsStatus status.Online = Unit {0}
IsStatus status.Down = Unit {0}
IsStatus (status.Standby path) = IsString 1 100 path

abbrev pub IsId : UnitId → Type 0
IsId (File file) = file < 2 ^ 16
IsId (Page file page) = (file < 2 ^ 16) × (page < 2 ^ 32)

abbrev pub IsState : State → Type 0
IsState state.Online = Unit {0}
IsState state.Offline = Unit {0}
IsState state.Bad = Unit {0}
IsState (state.Restoring base redo) = IsBase base × (redo < 2 ^ 64)

pub record IsUnit (unit : RestoreUnit) : Type 0 where
  pub id : IsId unit.id
  pub state : IsState unit.state

pub record IsPoints (points : Points) : Type 0 where
  pub log : IsLogPoints (log_points_of points)
  pub base : IsBase points.base
  pub status : IsStatus points.status
  pub units : (length points.units < 256 ^ 2) × AllByRecursion IsUnit points.units

-- the path of a standby file has 1 to 100 bytes
abbrev pub KeepsStatus : Status → Type 0
KeepsStatus status.Online = Unit {0}
KeepsStatus status.Down = Unit {0}
KeepsStatus (status.Standby path) = (1 ≤ length path) × (length path ≤ 100)

-- what they keep beside their types: that, and at most 256 units
pub record KeepsPoints (points : Points) : Type 0 where
  pub status : KeepsStatus points.status
  pub units : length points.units ≤ 256

-- ---- how they are read

-- a byte that says how the bytes behind it are read
abbrev pub by_kind : {A : Type 0} → (ℕ → List ℕ → Option (A × List ℕ)) → List ℕ → Option (A × List ℕ)
by_kind behind bytes = do
  kind ← number_at 1 bytes
  behind kind.0 kind.1

-- read fields, and make a value of them
abbrev pub made_of : {A B : Type 0} → Codec A → (A → B) → List ℕ → Option (B × List ℕ)
made_of fields make bytes = do
  x ← fields.reading bytes
  Some (make x.0, x.1)

abbrev pub flags_at : ℕ → Option (Bool × Bool)
flags_at zero = Some (false, false)
flags_at (suc zero) = Some (true, false)
flags_at (suc (suc zero)) = Some (false, true)
flags_at (suc (suc (suc zero))) = Some (true, true)
flags_at (suc (suc (suc (suc n)))) = None

unfoldable pub flags_form : Codec (Bool × Bool)
flags_form = converted (number 1) flags_at (λ flags. flags_number flags.0 flags.1) (λ _. Unit {0})

unfoldable pub log_points_form : Codec LogPoints
log_points_form = converted (followed (number 8) (λ _. followed (number 8) (λ _. followed (number 8) (λ _. followed (number 8) (λ _. followed (number 8) (λ _. flags_form))))))
    (λ x. Some (record { next_checkpoint = x.0; next_kept = x.1.0; archive = x.1.1.0; kept = x.1.1.1.0; checkpoint = x.1.1.1.1.0; chain = x.1.1.1.1.1.0; began = x.1.1.1.1.1.1 }))
    (λ log. (log.next_checkpoint, (log.next_kept, (log.archive, (log.kept, (log.checkpoint, (log.chain, log.began)))))))
    IsLogPoints

abbrev pub base_fields : Codec (Guid × ℕ)
base_fields = followed guid_form (λ _. number 8)

abbrev pub base_behind : ℕ → List ℕ → Option (Option Base × List ℕ)
base_behind zero bytes = Some (None, bytes)
base_behind (suc zero) bytes = made_of base_fields (λ x. Some (record { set = x.0; lsn = x.1 })) bytes
base_behind (suc (suc kind)) bytes = None

unfoldable pub base_form : Codec (Option Base)
base_form = record { spelling = base_bytes; Fits = IsBase; reading = by_kind base_behind }

abbrev pub status_behind : ℕ → List ℕ → Option (Status × List ℕ)
status_behind zero bytes = Some (status.Online, bytes)
status_behind (suc zero) bytes = Some (status.Down, bytes)
status_behind (suc (suc zero)) bytes = made_of (string 1 100) status.Standby bytes
status_behind (suc (suc (suc kind))) bytes = None

unfoldable pub status_form : Codec Status
status_form = record { spelling = status_bytes; Fits = IsStatus; reading = by_kind status_behind }

abbrev pub page_fields : Codec (ℕ × ℕ)
page_fields = followed (number 2) (λ _. number 4)

abbrev pub id_behind : ℕ → List ℕ → Option (UnitId × List ℕ)
id_behind zero bytes = made_of (number 2) File bytes
id_behind (suc zero) bytes = made_of page_fields (λ x. Page x.0 x.1) bytes
id_behind (suc (suc kind)) bytes = None

unfoldable pub id_form : Codec UnitId
id_form = record { spelling = id_bytes; Fits = IsId; reading = by_kind id_behind }

abbrev pub restoring_fields : Codec (Option Base × ℕ)
restoring_fields = followed base_form (λ _. number 8)

abbrev pub state_behind : ℕ → List ℕ → Option (State × List ℕ)
state_behind zero bytes = Some (state.Online, bytes)
state_behind (suc zero) bytes = Some (state.Offline, bytes)
state_behind (suc (suc zero)) bytes = Some (state.Bad, bytes)
state_behind (suc (suc (suc zero))) bytes = made_of restoring_fields (λ x. state.Restoring x.0 x.1) bytes
state_behind (suc (suc (suc (suc kind)))) bytes = None

unfoldable pub state_form : Codec State
state_form = record { spelling = state_bytes; Fits = IsState; reading = by_kind state_behind }

unfoldable pub unit_form : Codec RestoreUnit
unit_form = converted (followed id_form (λ _. state_form)) (λ x. Some (record { id = x.0; state = x.1 })) (λ unit. (unit.id, unit.state)) IsUnit

unfoldable pub points_form : Codec Points
points_form = converted (followed log_points_form (λ _. followed base_form (λ _. followed status_form (λ _. counted 2 unit_form))))
    (λ x. Some (record { next_checkpoint = x.0.next_checkpoint; next_kept = x.0.next_kept; archive = x.0.archive; kept = x.0.kept; checkpoint = x.0.checkpoint; chain = x.0.chain; began = x.0.began; base = x.1.0; status = x.1.1.0; units = x.1.1.1 }))
    (λ points. (log_points_of points, (points.base, (points.status, points.units))))
    IsPoints
