-- How a log record is spelled, and which records have a spelling.
use Rattle.std.specs.Prelude.{◌≡◌, ℕ, ◌+◌, ◌*◌, ◌^◌, ◌<◌, List, [], ◌++◌, length, replicate, Option, Some, None}
use Rattle.std.specs.List.{flat_map, AllByRecursion}
use Rattle.bk_ids.specs.declared.record.Place.{Place}
use Rattle.bk_ids.specs.declared.record.ExtentId.{ExtentId}
use Rattle.bk_ids.specs.declared.record.Mark.{Mark}
use Rattle.bk_ids.specs.declared.record.Rec.{Rec}
use Rattle.bk_ids.specs.declared.record.Body.{Body}
use Rattle.bk_ids.specs.declared.record.Body.TheVariants.{Database, Table, Begin, Write, Commit, RollbackEnd, Compensation, Checkpoint, Stamp, Model, Bulk, Recovery}
use Rattle.bk_bytes.specs.Field.{bytes_of}
use Rattle.bk_bytes.specs.Codec.{IsString}
use Rattle.bk_bytes.specs.Cell.{IsCell}
use Rattle.bk_fields.specs.Guids.{guid_bytes, IsGuid}
use Rattle.bk_fields.specs.Models.{model_bytes}

-- a text: its length in 2 bytes, and its bytes
abbrev pub text_bytes : List ℕ → List ℕ
text_bytes text = bytes_of 2 (length text) ++ text

abbrev pub place_bytes : Place → List ℕ
place_bytes place = bytes_of 2 place.file ++ (bytes_of 4 place.page ++ bytes_of 2 place.slot)

abbrev pub extent_bytes : ExtentId → List ℕ
extent_bytes extent = bytes_of 2 extent.file ++ bytes_of 4 extent.extent

-- a mark's name and description, where there is none an empty text
abbrev pub description_of : Option (List ℕ) → List ℕ
description_of None = []
description_of (Some text) = text

abbrev pub mark_bytes : Option Mark → List ℕ
mark_bytes None = text_bytes [] ++ text_bytes []
mark_bytes (Some mark) = text_bytes mark.name ++ text_bytes (description_of mark.description)

-- the number of a kind of record
abbrev pub kind_of : Body → ℕ
kind_of (Database time family branch) = 1
kind_of (Table time number name group) = 2
kind_of Begin = 3
kind_of (Write place before after) = 4
kind_of (Commit time mark) = 5
kind_of RollbackEnd = 6
kind_of (Compensation place cell undone) = 7
kind_of (Checkpoint time) = 8
kind_of (Stamp time set) = 9
kind_of (Model time model) = 10
kind_of (Bulk table first count value extents) = 11
kind_of (Recovery branch) = 12

-- the fields of a kind, in their order
abbrev pub body_bytes : Body → List ℕ
body_bytes (Database time family branch) = bytes_of 8 time ++ (guid_bytes family ++ guid_bytes branch)
body_bytes (Table time number name group) = bytes_of 8 time ++ (bytes_of 4 number ++ (text_bytes name ++ bytes_of 1 group))
body_bytes Begin = []
body_bytes (Write place before after) = place_bytes place ++ (before.bytes ++ after.bytes)
body_bytes (Commit time mark) = bytes_of 8 time ++ mark_bytes mark
body_bytes RollbackEnd = []
body_bytes (Compensation place cell undone) = place_bytes place ++ (cell.bytes ++ bytes_of 8 undone)
body_bytes (Checkpoint time) = bytes_of 8 time
body_bytes (Stamp time set) = bytes_of 8 time ++ guid_bytes set
body_bytes (Model time model) = bytes_of 8 time ++ model_bytes model
body_bytes (Bulk table first count value extents) =
    bytes_of 4 table ++ (bytes_of 8 first ++ (bytes_of 4 count ++ (text_bytes value ++ (bytes_of 4 (length extents) ++ flat_map extent_bytes extents))))
body_bytes (Recovery branch) = guid_bytes branch

-- what follows the length of a record
abbrev pub inside : Rec → List ℕ
inside r = (bytes_of 1 (kind_of r.body) ++ (replicate 3 0 ++ (bytes_of 8 r.lsn ++ bytes_of 8 r.begin))) ++ body_bytes r.body

-- the one spelling of a record: the length of all of it in 4 bytes, its kind, 3 zero bytes, its number, the number of
-- its transaction's first record, and the fields of its kind
unfoldable pub spelling : Rec → List ℕ
spelling r = bytes_of 4 (4 + length (inside r)) ++ inside r

pub record IsPlace (place : Place) : Type 0 where
  pub file : place.file < 2 ^ 16
  pub page : place.page < 2 ^ 32
  pub slot : place.slot < 63

pub record IsExtent (place : ExtentId) : Type 0 where
  pub file : place.file < 2 ^ 16
  pub extent : place.extent < 2 ^ 32

-- a mark has a name of 1 to 64 bytes, and a description that isn't empty where there is one
abbrev pub IsDescription : Option (List ℕ) → Type 0
IsDescription None = Unit {0}
IsDescription (Some text) = IsString 1 65535 text

abbrev pub IsMark : Option Mark → Type 0
IsMark None = Unit {0}
IsMark (Some mark) = IsString 1 64 mark.name × IsDescription mark.description

-- which fields of a kind have a spelling: cells are cells, names have 1 to 64 bytes, values at most 112
abbrev pub IsBody : Body → Type 0
IsBody (Database time family branch) = (time < 2 ^ 64) × (IsGuid family × IsGuid branch)
IsBody (Table time number name group) = (time < 2 ^ 64) × ((number < 2 ^ 32) × (IsString 1 64 name × (group < 2 ^ 8)))
IsBody Begin = Unit {0}
IsBody (Write place before after) = IsPlace place × (IsCell before.bytes × IsCell after.bytes)
IsBody (Commit time mark) = (time < 2 ^ 64) × IsMark mark
IsBody RollbackEnd = Unit {0}
IsBody (Compensation place cell undone) = IsPlace place × (IsCell cell.bytes × (undone < 2 ^ 64))
IsBody (Checkpoint time) = time < 2 ^ 64
IsBody (Stamp time set) = (time < 2 ^ 64) × IsGuid set
IsBody (Model time model) = (time < 2 ^ 64) × Unit {0}
IsBody (Bulk table first count value extents) =
    (table < 2 ^ 32) × ((first < 2 ^ 64) × ((count < 2 ^ 32) × (IsString 0 112 value × ((length extents < 2 ^ 32) × AllByRecursion IsExtent extents))))
IsBody (Recovery branch) = IsGuid branch

-- which records have a spelling
pub record IsRecord (r : Rec) : Type 0 where
  pub lsn : r.lsn < 2 ^ 64
  pub begin : r.begin < 2 ^ 64
  pub body : IsBody r.body
  pub len : 4 + length (inside r) < 2 ^ 32

-- the bytes begin with the spelling of this record, and these follow
pub record BeginsWith (bytes : List ℕ) (r : Rec) (rest : List ℕ) : Type 0 where
  pub spelled : bytes ≡ spelling r ++ rest
  pub is_record : IsRecord r

-- no record is spelled at the front of the bytes
abbrev pub IsUnspelled : List ℕ → Type 0
IsUnspelled bytes = (r : Rec) (rest : List ℕ) → ¬ BeginsWith bytes r rest

-- what the fields of a kind keep beside their types: cells that are cells, and extents so few that the whole record has less
-- than 2 ^ 32 bytes
abbrev pub KeepsLimits : Body → Type 0
KeepsLimits (Database time family branch) = Unit {0}
KeepsLimits (Table time number name group) = Unit {0}
KeepsLimits Begin = Unit {0}
KeepsLimits (Write place before after) = IsCell before.bytes × IsCell after.bytes
KeepsLimits (Commit time mark) = Unit {0}
KeepsLimits RollbackEnd = Unit {0}
KeepsLimits (Compensation place cell undone) = IsCell cell.bytes
KeepsLimits (Checkpoint time) = Unit {0}
KeepsLimits (Stamp time set) = Unit {0}
KeepsLimits (Model time model) = Unit {0}
KeepsLimits (Bulk table first count value extents) = 46 + length value + 6 * length extents < 2 ^ 32
KeepsLimits (Recovery branch) = Unit {0}
