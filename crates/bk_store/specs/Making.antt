-- Databases that are made.
use Rattle.std.specs.Prelude.{◌≤◌, ◌⊎◌, ℕ, [], length}
use Rattle.bk_device.specs.Disk.{Disk}
use Rattle.bk_device.specs.Effects.{Effect}
use Rattle.bk_groups.specs.Groups.{AreFiles}
use Rattle.bk_ids.specs.declared.guid.Guid.{Guid}
use Rattle.bk_ids.specs.declared.record.RecoveryModel.TheVariants.{Full}
use Rattle.bk_known.specs.declared.known.DatabaseSpec.{DatabaseSpec}
use Rattle.bk_known.specs.declared.known.Known.{Known}
use Rattle.bk_known.specs.Known.{FitsNote}
use Rattle.bk_paged.specs.Making.{HoldsNone}
use Rattle.bk_paged.specs.Names.{IsOwn}
use Rattle.bk_world.specs.Records.{Logged, database_made}
use Rattle.bk_store.specs.Told.{LeavesRecords, Told, data_files, said, unsaid}

-- which descriptions a database may have: at most 8 groups, 16 data files and 64 branches; its files are numbered 1, 2, .., each with a path of 1 to 100 bytes and at most 4,096 extents
pub record MayDescribe (spec : DatabaseSpec) : Type 0 where
  pub path : length spec.path ≤ 64
  pub storage : FitsNote spec.storage
  pub files : AreFiles spec.storage.files

-- what is known of a database without a record
abbrev pub first_known : DatabaseSpec → Known
first_known spec = record { spec = spec; as_of = record { from = 1; tables = []; model = Full; time = 0 } }

-- its first record
abbrev pub founding : ℕ → Guid → Guid → Logged
founding time family branch = record { lsn = 1; begin = 0; deed = database_made time family branch }

-- a database as it is made: with its first record alone
abbrev pub founded : DatabaseSpec → ℕ → Guid → Told
founded spec time branch = said (unsaid spec []) (founding time spec.family branch)

-- A crash in what makes a database leaves none, or a front of its records: also one without a record.
abbrev pub Makes : ℕ → Told → Disk → Disk → Type 0
Makes db told old new = Effect (IsOwn db (data_files told)) (λ image. HoldsNone db image ⊎ LeavesRecords db 0 told image) old new
