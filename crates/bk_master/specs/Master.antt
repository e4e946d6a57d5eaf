-- The own files of an instance: whether it is made, and its record.
use Rattle.std.specs.Prelude.{◌≡◌, ◌≢◌, ◌⊎◌, ℕ, Bool, List, [], Option, Some, None, codes}
use Rattle.bk_bytes.specs.Codec.{◌>>=◌}
use Rattle.bk_device.specs.Disk.{Files, Disk, IsDurable}
use Rattle.bk_control.specs.Control.{IsControl, Kept as KeptControl}
use Rattle.bk_control.specs.Slots.{control_of}
use Rattle.bk_master.specs.declared.error.MasterError.{MasterError}
use Rattle.bk_master.specs.declared.error.MasterError.TheVariants.{NotAnInstance, Broken, Fault, NoMemory}
use Rattle.bk_master.specs.declared.record.Own.{Own}
use Rattle.bk_master.specs.declared.record.Record.{Record}
use Rattle.bk_master.specs.Spelling.{read_record}

-- the empty file whose existence says that the instance is made
abbrev pub made_file : List ℕ
made_file = codes "sqlbak.made"

-- the control file whose content is the instance's record
abbrev pub control_file : List ℕ
control_file = codes "sqlbak.control"

-- the name is one of the two
abbrev pub IsOwn : List ℕ → Type 0
IsOwn name = (name ≡ made_file) ⊎ (name ≡ control_file)

-- the instance isn't made
abbrev pub IsNotMade : Files → Type 0
IsNotMade files = files made_file ≡ None

-- the instance is made
abbrev pub IsMade : Files → Type 0
IsMade files = files made_file ≢ None

-- the record in the control file
unfoldable pub record_of : Files → Option Record
record_of files = control_of (files control_file) >>= read_record

-- the files are a made instance's with this record
pub record HoldsRecord (files : Files) (r : Record) : Type 0 where
  pub made : IsMade files
  pub is : record_of files ≡ Some r

-- what an instance that was just made keeps beside its databases
abbrev pub fresh_own : ℕ → Own
fresh_own number = record { number = number; counter = 1; making = None; staging = None; copying = [] }

-- the record of an instance that was just made
abbrev pub fresh : ℕ → Record
fresh number = record { own = fresh_own number; next = 1; databases = []; unfinished = [] }

-- a crash of what makes an instance leaves none, or a fresh one
abbrev pub Makes : ℕ → Files → Type 0
Makes number image = IsNotMade image ⊎ HoldsRecord image (fresh number)

-- made, and without a control
abbrev pub IsNoInstance : Files → Type 0
IsNoInstance files = IsMade files × (control_of (files control_file) ≡ None)

-- made, with a control, and no record is read of it
pub record IsBroken (files : Files) : Type 0 where
  pub made : IsMade files
  pub control : control_of (files control_file) ≢ None
  pub none : record_of files ≡ None

-- what contracts see of an instance's own files
pub record Kept : Type 0 where
  pub control : KeptControl
  pub «record» : Record
  pub failed : Bool

-- they stand on the disk, and each crash leaves them
pub record IsMaster (disk : Disk) (kept : Kept) : Type 0 where
  pub control_name : kept.control.name ≡ control_file
  pub controls : IsControl disk kept.control
  pub made : IsMade disk.files
  pub made_durable : IsDurable disk made_file
  pub reads : read_record kept.control.content ≡ Some kept.record

-- nothing is pending under the two names
abbrev pub AreDurable : Disk → Type 0
AreDurable disk = (name : List ℕ) → IsOwn name → IsDurable disk name

-- the device failed, or there was no memory
abbrev pub IsTrouble : MasterError → Type 0
IsTrouble NotAnInstance = ⊥
IsTrouble Broken = ⊥
IsTrouble Fault = Unit {0}
IsTrouble NoMemory = Unit {0}
