-- Which bodies are a backup set.
use Rattle.std.specs.Prelude.{◌≡◌, ◌≢◌, ◌⊎◌, ℕ, ◌+◌, ◌*◌, ◌/◌, ◌^◌, ◌<◌, ◌≤◌, ◌==◌, ◌&&◌, Bool, true, false, List, [], ◌∷◌, ◌++◌, length, None, nat_lt, nat_le, if◌then◌else◌}
use Rattle.std.specs.List.{list_any, flat_map, AllByRecursion}
use Rattle.std.specs.Str.{bytes_eq}
use Rattle.bk_bytes.specs.Codec.{IsString}
use Rattle.bk_ids.specs.Name.{same_name}
use Rattle.bk_ids.specs.declared.record.Rec.{Rec}
use Rattle.bk_ids.specs.declared.record.Body.{Body as Deed}
use Rattle.bk_ids.specs.declared.record.Body.TheVariants.{Database, Table, Begin, Write, Commit, RollbackEnd, Compensation, Checkpoint, Stamp, Model, Bulk, Recovery}
use Rattle.bk_world.specs.declared.database.TableSpec.{TableSpec}
use Rattle.bk_world.specs.declared.header.Header.{Header}
use Rattle.bk_world.specs.declared.header.HeaderFile.{HeaderFile}
use Rattle.bk_header.specs.Conditions.{IsHeader, IsTime, KeepsConditions}
use Rattle.bk_page.specs.Page.{part, number_of_page, file_of, digest_field, page_digest}
use Rattle.bk_record.specs.Log.{IsLog}
use Rattle.bk_body.specs.Body.{Extent, Body}

-- ---- tables

-- what a table's fields are
pub record IsTable (table : TableSpec) : Type 0 where
  pub number : table.number < 2 ^ 32
  pub name : IsString 1 64 table.name
  pub group : table.group < 2 ^ 8

-- two tables have different numbers and different names
abbrev pub Differ : TableSpec → TableSpec → Type 0
Differ table other = (table.number ≢ other.number) × (same_name table.name other.name ≡ false)

-- each table differs from all behind it
abbrev pub AreDifferent : List TableSpec → Type 0
AreDifferent [] = Unit {0}
AreDifferent (table ∷ tables) = AllByRecursion (Differ table) tables × AreDifferent tables

-- at most 64 different tables, each in one of so many filegroups
pub record KeepTables (groups : ℕ) (tables : List TableSpec) : Type 0 where
  pub few : length tables ≤ 64
  pub different : AreDifferent tables
  pub groups_there : AllByRecursion (λ table. table.group < groups) tables

-- ---- extents

-- a file has this number, and a data extent of that number: they count from 1, behind the extent of the header pages
abbrev pub is_in_file : ℕ → ℕ → HeaderFile → Bool
is_in_file file extent f = f.spec.number == file && nat_lt 0 extent && nat_le extent f.spec.extents

-- one of these files has this data extent
abbrev pub has_extent : List HeaderFile → ℕ → ℕ → Bool
has_extent files file extent = list_any (λ (f : HeaderFile). is_in_file file extent f) files

-- one of these files that are in the set has this data extent
abbrev pub holds_extent : List HeaderFile → ℕ → ℕ → Bool
holds_extent files file extent = list_any (λ (f : HeaderFile). f.in_set && is_in_file file extent f) files

-- one extent comes before another, by file and number
abbrev pub ComesBefore : Extent → Extent → Type 0
ComesBefore one other = (one.file < other.file) ⊎ ((one.file ≡ other.file) × (one.extent < other.extent))

-- extents rise
abbrev pub ExtentsRise : List Extent → Type 0
ExtentsRise [] = Unit {0}
ExtentsRise (one ∷ []) = Unit {0}
ExtentsRise (one ∷ other ∷ extents) = ComesBefore one other × ExtentsRise (other ∷ extents)

-- a page is the one of this file and number, and stores its own digest
pub record IsPageOf (file number : ℕ) (page : List ℕ) : Type 0 where
  pub of_file : file_of page ≡ file
  pub of_number : number_of_page page ≡ number
  pub digest : digest_field page ≡ page_digest page

-- an extent holds its eight pages, and one of the files that are in the set has it
pub record KeepsExtent (files : List HeaderFile) (extent : Extent) : Type 0 where
  pub file : extent.file < 2 ^ 16
  pub number : extent.extent < 2 ^ 32
  pub size : length extent.bytes ≡ 65536
  pub there : holds_extent files extent.file extent.extent ≡ true
  pub pages : (j : ℕ) → j < 8 → IsPageOf extent.file (8 * extent.extent + j) (part extent.bytes (8192 * j) 8192)

-- ---- the log

-- records have the numbers from this one to below that one, each once and in order
abbrev pub FollowOn : ℕ → List Rec → ℕ → Type 0
FollowOn first [] last = first ≡ last
FollowOn first (r ∷ records) last = (r.lsn ≡ first) × FollowOn (first + 1) records last

-- what a record tells of lies in the files and the filegroups of the header, and not after the last time
abbrev pub KeepsDeed : Header → Deed → Type 0
KeepsDeed h (Database time family branch) = IsTime time
KeepsDeed h (Table time number name group) = IsTime time × (group < length h.groups)
KeepsDeed h Begin = Unit {0}
KeepsDeed h (Write place before after) = has_extent h.files place.file (place.page / 8) ≡ true
KeepsDeed h (Commit time mark) = IsTime time
KeepsDeed h RollbackEnd = Unit {0}
KeepsDeed h (Compensation place cell undone) = has_extent h.files place.file (place.page / 8) ≡ true
KeepsDeed h (Checkpoint time) = IsTime time
KeepsDeed h (Stamp time set) = IsTime time
KeepsDeed h (Model time model) = IsTime time
KeepsDeed h (Bulk table first count value extents) = AllByRecursion (λ e. has_extent h.files e.file e.extent ≡ true) extents
KeepsDeed h (Recovery branch) = Unit {0}

-- the table that a record makes
abbrev pub made_by : Deed → List TableSpec
made_by (Database time family branch) = []
made_by (Table time number name group) = record { number = number; name = name; group = group } ∷ []
made_by Begin = []
made_by (Write place before after) = []
made_by (Commit time mark) = []
made_by RollbackEnd = []
made_by (Compensation place cell undone) = []
made_by (Checkpoint time) = []
made_by (Stamp time set) = []
made_by (Model time model) = []
made_by (Bulk table first count value extents) = []
made_by (Recovery branch) = []

-- the tables that records make
abbrev pub tables_made : List Rec → List TableSpec
tables_made records = flat_map (λ (r : Rec). made_by r.body) records

abbrev pub same_table : TableSpec → TableSpec → Bool
same_table table other = table.number == other.number && bytes_eq table.name other.name && table.group == other.group

-- a table behind others, where it isn't among them
abbrev pub with_table : List TableSpec → TableSpec → List TableSpec
with_table tables table = if list_any (same_table table) tables then tables else tables ++ table ∷ []

-- the tables of two lists, one that stands in both counted once
abbrev pub joined : List TableSpec → List TableSpec → List TableSpec
joined tables [] = tables
joined tables (table ∷ more) = joined (with_table tables table) more

-- records are the log of a set with this header and these tables
pub record KeepsRecords (h : Header) (tables : List TableSpec) (records : List Rec) : Type 0 where
  pub numbers : FollowOn h.first records h.last
  pub each : AllByRecursion (λ (r : Rec). KeepsDeed h r.body) records
  pub all_tables : KeepTables (length h.groups) (joined tables (tables_made records))

-- bytes are whole records, which are the log of such a set
abbrev pub IsLogOf : Header → List TableSpec → List ℕ → Type 0
IsLogOf h tables log = (records : List Rec) × IsLog log records None × KeepsRecords h tables records

-- ---- bodies

-- which bodies are a set
pub record IsBody (body : Body) : Type 0 where
  pub header : IsHeader body.header
  pub each_table : AllByRecursion IsTable body.tables
  pub few : length body.extents < 2 ^ 32
  pub rise : ExtentsRise body.extents
  pub extents : AllByRecursion (KeepsExtent body.header.files) body.extents
  pub log : IsLogOf body.header body.tables body.log
  pub log_short : length body.log < 2 ^ 64

-- what a body keeps beside the types of its header and its tables
pub record KeepsBody (body : Body) : Type 0 where
  pub header : KeepsConditions body.header
  pub few : length body.extents < 2 ^ 32
  pub rise : ExtentsRise body.extents
  pub extents : AllByRecursion (KeepsExtent body.header.files) body.extents
  pub log : IsLogOf body.header body.tables body.log
  pub log_short : length body.log < 2 ^ 64
