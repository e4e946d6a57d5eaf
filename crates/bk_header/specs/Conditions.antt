-- Which headers have a spelling.
use Rattle.std.specs.Prelude.{◌≡◌, ℕ, ◌+◌, ◌^◌, ◌<◌, ◌≤◌, List, [], ◌∷◌, length, Option, Some, None, IsSome}
use Rattle.std.specs.List.{sum_by, All, AllByRecursion}
use Rattle.bk_ids.specs.declared.path.Branch.{Branch}
use Rattle.bk_ids.specs.Path.{StartsRiseFrom}
use Rattle.bk_world.specs.declared.database.Base.{Base}
use Rattle.bk_world.specs.declared.header.SetKind.{SetKind}
use Rattle.bk_world.specs.declared.header.SetKind.TheVariants.{Full, Log, File, Differential}
use Rattle.bk_world.specs.declared.header.HeaderFile.{HeaderFile}
use Rattle.bk_world.specs.declared.header.Header.{Header}
use Rattle.bk_bytes.specs.Codec.{IsString}
use Rattle.bk_fields.specs.Guids.{IsGuid}

-- 9999-12-31 23:59:59.999 is the last time
abbrev pub IsTime : ℕ → Type 0
IsTime time = time ≤ 253402300799999

-- the order of the log records: a set of data holds the log from its checkpoint on
abbrev pub IsRange : SetKind → ℕ → ℕ → ℕ → Type 0
IsRange Log first checkpoint last = first < last
IsRange Full first checkpoint last = (first ≤ checkpoint) × (checkpoint < last)
IsRange File first checkpoint last = (first ≤ checkpoint) × (checkpoint < last)
IsRange Differential first checkpoint last = (first ≤ checkpoint) × (checkpoint < last)

-- a differential has a base
abbrev pub HasItsBase : SetKind → Option Base → Type 0
HasItsBase Differential base = IsSome base
HasItsBase Full base = Unit {0}
HasItsBase Log base = Unit {0}
HasItsBase File base = Unit {0}

abbrev pub IsBase : Option Base → Type 0
IsBase None = Unit {0}
IsBase (Some base) = IsGuid base.set × (base.lsn < 2 ^ 64)

abbrev pub IsExpiry : Option ℕ → Type 0
IsExpiry None = Unit {0}
IsExpiry (Some time) = IsTime time

-- the first branch starts at 1, starts don't fall, and all are below last
abbrev pub IsHeaderPath : ℕ → List Branch → Type 0
IsHeaderPath last [] = ⊥
IsHeaderPath last (branch ∷ path) =
    (branch.start ≡ 1) × (StartsRiseFrom 1 path × AllByRecursion (λ b. IsGuid b.guid × (b.start < last)) (branch ∷ path))

-- a file's group is there, its sizes fit, and it has a name and a path
pub record IsHeaderFile (groups : ℕ) (file : HeaderFile) : Type 0 where
  pub group : file.spec.group < groups
  pub extents : file.spec.extents < 2 ^ 32
  pub name : IsString 1 64 file.spec.name
  pub path : IsString 1 100 file.spec.path

-- files are numbered on, from this number
abbrev pub AreNumbered : ℕ → List HeaderFile → Type 0
AreNumbered number [] = Unit {0}
AreNumbered number (file ∷ files) = (file.spec.number ≡ number) × AreNumbered (number + 1) files

abbrev pub total_extents : List HeaderFile → ℕ
total_extents files = sum_by (λ file. file.spec.extents) files

-- 1 to 16 data files, numbered from 1, with at most 4,096 extents in all
pub record AreHeaderFiles (groups : ℕ) (files : List HeaderFile) : Type 0 where
  pub some : 0 < length files
  pub few : length files ≤ 16
  pub numbered : AreNumbered 1 files
  pub each : AllByRecursion (IsHeaderFile groups) files
  pub small : total_extents files ≤ 4096

pub record IsHeader (h : Header) : Type 0 where
  pub version : h.version ≡ 1
  pub set : IsGuid h.set
  pub family : IsGuid h.family
  pub first : h.first < 2 ^ 64
  pub checkpoint : h.checkpoint < 2 ^ 64
  pub last : h.last < 2 ^ 64
  pub range : IsRange h.kind h.first h.checkpoint h.last
  pub database_backup : h.database_backup < 2 ^ 64
  pub base : IsBase h.base
  pub base_there : HasItsBase h.kind h.base
  pub start : IsTime h.start
  pub finish : IsTime h.finish
  pub expiry : IsExpiry h.expiry
  pub database : IsString 1 64 h.database
  pub name : IsString 0 65535 h.name
  pub path : IsHeaderPath h.last h.path
  pub path_short : length h.path ≤ 64
  pub groups_some : 0 < length h.groups
  pub groups_few : length h.groups ≤ 8
  pub groups : AllByRecursion (IsString 1 64) h.groups
  pub files : AreHeaderFiles (length h.groups) h.files
  pub log_name : IsString 1 64 h.log_name
  pub log_path : IsString 1 100 h.log_path

-- what a header keeps beside its types

-- the first branch starts at 1, starts don't fall, and all are below last
abbrev pub KeepsPath : ℕ → List Branch → Type 0
KeepsPath last [] = ⊥
KeepsPath last (branch ∷ path) =
    (branch.start ≡ 1) × (StartsRiseFrom 1 path × AllByRecursion (λ b. b.start < last) (branch ∷ path))

-- a path of 1 to 100 bytes
abbrev pub HasPath : HeaderFile → Type 0
HasPath file = (1 ≤ length file.spec.path) × (length file.spec.path ≤ 100)

-- 1 to 16 data files, numbered from 1, whose groups are there, with at most 4,096 extents in all
pub record KeepFiles (groups : ℕ) (files : List HeaderFile) : Type 0 where
  pub some : 0 < length files
  pub few : length files ≤ 16
  pub numbered : AreNumbered 1 files
  pub groups_there : AllByRecursion (λ file. file.spec.group < groups) files
  pub paths : All HasPath files
  pub small : total_extents files ≤ 4096

pub record KeepsConditions (h : Header) : Type 0 where
  pub version : h.version ≡ 1
  pub range : IsRange h.kind h.first h.checkpoint h.last
  pub base_there : HasItsBase h.kind h.base
  pub start : IsTime h.start
  pub finish : IsTime h.finish
  pub expiry : IsExpiry h.expiry
  pub name_short : length h.name < 2 ^ 16
  pub path : KeepsPath h.last h.path
  pub path_short : length h.path ≤ 64
  pub groups_some : 0 < length h.groups
  pub groups_few : length h.groups ≤ 8
  pub files : KeepFiles (length h.groups) h.files
  pub log_path_some : 1 ≤ length h.log_path
  pub log_path_short : length h.log_path ≤ 100

-- what the types of a header's fields of one length say
pub record HasRanges (h : Header) : Type 0 where
  pub set : IsGuid h.set
  pub family : IsGuid h.family
  pub first : h.first < 2 ^ 64
  pub checkpoint : h.checkpoint < 2 ^ 64
  pub last : h.last < 2 ^ 64
  pub database_backup : h.database_backup < 2 ^ 64
  pub base : IsBase h.base

-- what the types of a file's fields say
pub record HasFileRanges (file : HeaderFile) : Type 0 where
  pub extents : file.spec.extents < 2 ^ 32
  pub name : IsString 1 64 file.spec.name
  pub path : IsString 1 100 file.spec.path

-- what the types of a header's lists and texts say
pub record HasListRanges (h : Header) : Type 0 where
  pub database : IsString 1 64 h.database
  pub name : IsString 0 65535 h.name
  pub guids : AllByRecursion (λ b. IsGuid b.guid) h.path
  pub groups : AllByRecursion (IsString 1 64) h.groups
  pub files : AllByRecursion HasFileRanges h.files
  pub log_name : IsString 1 64 h.log_name
  pub log_path : IsString 1 100 h.log_path
