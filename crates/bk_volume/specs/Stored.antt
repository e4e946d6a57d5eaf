-- A set that is read from a medium.
use Rattle.std.specs.Prelude.{◌≡◌, ◌≤◌, ℕ, zero, suc, ◌+◌, ◌*◌, List, length, Option, Some, None, Result, Ok, Err, slice_get}
use Rattle.std.specs.List.{flat_map}
use Rattle.sha2.specs.Sha256.{sha256}
use Rattle.bk_device.specs.Calls.{read_at}
use Rattle.bk_world.specs.declared.database.TableSpec.{TableSpec}
use Rattle.bk_world.specs.declared.header.Header.{Header}
use Rattle.bk_body.specs.Body.{Extent, Body}
use Rattle.bk_body.specs.Conditions.{IsBody}
use Rattle.bk_body.specs.Reading.{IsExtent}
use Rattle.bk_body.specs.Slots.{holds, damaged, no_set, front_of, digest_in, ReadsAs}
use Rattle.bk_body.specs.Spelling.{extent_bytes}
use Rattle.bk_volume.specs.declared.error.SetError.{SetError}
use Rattle.bk_volume.specs.declared.error.SetError.TheVariants.{NoSuchSet, Damaged, NotMedia, Fault, NoMemory}
use Rattle.bk_volume.specs.Media.{sets_of}

-- what contracts see of a set that was opened on a medium
pub record Stored : Type 0 where
  pub header : Header
  pub tables : List TableSpec
  -- how many extents it has, and how many bytes of log
  pub extents : ℕ
  pub log : ℕ
  -- where its extents begin in the medium's file
  pub at : ℕ

-- where its log begins, behind the extents and the length of the log
abbrev pub log_place : Stored → ℕ
log_place set = set.at + 65542 * set.extents + 8

-- it is this body, whose extents and log lie there in the file
pub record IsOf (file : List ℕ) (body : Body) (set : Stored) : Type 0 where
  pub is_body : IsBody body
  pub header : set.header ≡ body.header
  pub tables : set.tables ≡ body.tables
  pub extents : set.extents ≡ length body.extents
  pub log : set.log ≡ length body.log
  pub inside : log_place set + set.log ≤ length file
  pub extents_there : read_at file set.at (65542 * set.extents) ≡ flat_map extent_bytes body.extents
  pub log_there : read_at file (log_place set) set.log ≡ body.log

-- the set at this position of a file, from 1, has these bytes
abbrev pub IsSetAt : Option (List ℕ) → ℕ → List ℕ → Type 0
IsSetAt file zero blob = ⊥
IsSetAt file (suc before) blob = slice_get (sets_of file) before ≡ Some blob

-- the digest that the bytes of a set store is the one of the others
pub record IsWhole (blob : List ℕ) : Type 0 where
  pub long : 32 ≤ length blob
  pub same : digest_in blob ≡ sha256 (front_of blob)

-- what was opened for a set with these bytes: its parts in the file, where it is one; that it is damaged, exactly where its
-- digest says so; or that it is none
abbrev pub Opens : List ℕ → List ℕ → Result Stored SetError → Type 0
Opens file blob (Ok set) = IsWhole blob × ((body : Body) → ReadsAs blob (holds body) → IsOf file body set)
Opens file blob (Err NoSuchSet) = ⊥
Opens file blob (Err (Damaged stored found)) = ReadsAs blob (damaged stored found)
Opens file blob (Err NotMedia) = ReadsAs blob no_set
Opens file blob (Err Fault) = Unit {0}
Opens file blob (Err NoMemory) = Unit {0}

-- this extent stands whole at a place of a file
pub record IsExtentAt (file : List ℕ) (at : ℕ) (extent : Extent) : Type 0 where
  pub is : IsExtent extent
  pub inside : at + 65542 ≤ length file
  pub there : read_at file at 65542 ≡ extent_bytes extent

-- what was read for an extent: its file and number, with its bytes beside; or nothing, where there is none
abbrev pub GivesExtent : Option (ℕ × ℕ) → List ℕ → Option Extent → Type 0
GivesExtent None bytes there = there ≡ None
GivesExtent (Some place) bytes there = there ≡ Some (record { file = place.0; extent = place.1; bytes = bytes })
