-- A set that is being written: its extents and its log lie in a file of their own.
use Rattle.std.specs.Prelude.{◌≡◌, ℕ, ◌+◌, ◌*◌, Bool, List, ◌++◌, length}
use Rattle.std.specs.List.{flat_map}
use Rattle.bk_device.specs.Calls.{contents}
use Rattle.bk_device.specs.Disk.{Disk}
use Rattle.bk_body.specs.Body.{Extent, Body}
use Rattle.bk_body.specs.Conditions.{KeepsBody}
use Rattle.bk_body.specs.Spelling.{extent_bytes}
use Rattle.bk_world.specs.declared.database.TableSpec.{TableSpec}
use Rattle.bk_world.specs.declared.header.Header.{Header}

-- what contracts see of such a set
pub record Staging : Type 0 where
  -- the name of its file
  pub name : List ℕ
  -- how many extents were added, and how many bytes of log
  pub extents : ℕ
  pub log : ℕ
  pub failed : Bool

-- the bytes of its file
abbrev pub staged : Disk → Staging → List ℕ
staged disk set = contents (disk.files set.name)

-- its file has the bytes of so many extents and so much log
abbrev pub IsStaged : Disk → Staging → Type 0
IsStaged disk set = length (staged disk set) ≡ 65542 * set.extents + set.log

-- these extents were added, and then this log
pub record HoldsParts (disk : Disk) (set : Staging) (extents : List Extent) (log : List ℕ) : Type 0 where
  pub count : length extents ≡ set.extents
  pub size : length log ≡ set.log
  pub bytes : staged disk set ≡ flat_map extent_bytes extents ++ log

-- the set of what was added, with this header and these tables, keeps the conditions of a set
pub record IsSetOf (disk : Disk) (set : Staging) (h : Header) (ts : List TableSpec) (body : Body) : Type 0 where
  pub header : body.header ≡ h
  pub tables : body.tables ≡ ts
  pub parts : HoldsParts disk set body.extents body.log
  pub keeps : KeepsBody body
