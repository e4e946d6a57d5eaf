-- How a body is read from bytes.
use Rattle.std.specs.Prelude.{ℕ, zero, suc, ◌+◌, ◌*◌, ◌/◌, ◌^◌, ◌<◌, ◌≡◌, Bool, true, false, List, [], ◌∷◌, length, take, drop, Option, Some, None, nat_lt, nat_le, ◌==◌, ◌&&◌, ◌||◌, not, if◌then◌else◌}
use Rattle.std.specs.List.{list_all, range_with_len}
use Rattle.std.specs.Str.{bytes_eq}
use Rattle.bk_ids.specs.Name.{same_name}
use Rattle.bk_ids.specs.declared.record.Rec.{Rec}
use Rattle.bk_ids.specs.declared.record.ExtentId.{ExtentId}
use Rattle.bk_ids.specs.declared.record.Body.{Body as Deed}
use Rattle.bk_ids.specs.declared.record.Body.TheVariants.{Database, Table, Begin, Write, Commit, RollbackEnd, Compensation, Checkpoint, Stamp, Model, Bulk, Recovery}
use Rattle.bk_world.specs.declared.database.TableSpec.{TableSpec}
use Rattle.bk_world.specs.declared.header.Header.{Header}
use Rattle.bk_world.specs.declared.header.HeaderFile.{HeaderFile}
use Rattle.bk_bytes.specs.Codec.{◌>>=◌, Codec, number, run, string, text_at, followed, converted, counted, times}
use Rattle.bk_bytes.specs.Field.{number_of}
use Rattle.bk_header.specs.Reading.{header_form}
use Rattle.bk_page.specs.Page.{part, number_of_page, file_of, digest_field, page_digest}
use Rattle.bk_record.specs.Reading.{record_form}
use Rattle.bk_record.specs.Records.{AreRecords, records_in}
use Rattle.bk_body.specs.Body.{Extent, Body}
use Rattle.bk_body.specs.Conditions.{IsTable, has_extent, holds_extent, tables_made, joined, IsBody}
use Rattle.bk_body.specs.Spelling.{log_bytes}

unfoldable pub table_form : Codec TableSpec
table_form = converted (followed (number 4) (λ _. followed (string 1 64) (λ _. number 1)))
    (λ x. Some (record { number = x.0; name = x.1.0; group = x.1.1 }))
    (λ table. (table.number, (table.name, table.group)))
    IsTable

-- whole log records behind their length
unfoldable pub log_at : List ℕ → Option (List ℕ × List ℕ)
log_at bytes = do
  log ← text_at 8 bytes
  records ← records_in log.0
  Some (records, log.1)

-- whole log records behind their length
abbrev pub log_form : Codec (List ℕ)
log_form = record { spelling = log_bytes; Fits = λ log. (length log < 2 ^ 64) × AreRecords log; reading = log_at }

-- the header, the tables, and the number of extents
unfoldable pub front_form : Codec (Header × (List TableSpec × ℕ))
front_form = followed header_form (λ _. followed (counted 2 table_form) (λ _. number 4))

-- what the fields of an extent are
pub record IsExtent (extent : Extent) : Type 0 where
  pub file : extent.file < 2 ^ 16
  pub number : extent.extent < 2 ^ 32
  pub size : length extent.bytes ≡ 65536

unfoldable pub extent_form : Codec Extent
extent_form = converted (followed (number 2) (λ _. followed (number 4) (λ _. run 65536)))
    (λ x. Some (record { file = x.0; extent = x.1.0; bytes = x.1.1 }))
    (λ extent. (extent.file, (extent.extent, extent.bytes)))
    IsExtent

-- the extent that stands in 65,542 bytes
abbrev pub extent_in : List ℕ → Extent
extent_in bytes = record { file = number_of 2 bytes; extent = number_of 4 (drop 2 bytes); bytes = take 65536 (drop 6 bytes) }

-- so many extents that stand in bytes one after the other
unfoldable pub extents_in : ℕ → List ℕ → List Extent
extents_in zero bytes = []
extents_in (suc n) bytes = extent_in bytes ∷ extents_in n (drop 65542 bytes)

-- ---- the conditions as tests

abbrev pub differ : TableSpec → TableSpec → Bool
differ table other = not (table.number == other.number) && not (same_name table.name other.name)

abbrev pub are_different : List TableSpec → Bool
are_different [] = true
are_different (table ∷ tables) = list_all (differ table) tables && are_different tables

abbrev pub keep_tables : ℕ → List TableSpec → Bool
keep_tables groups tables =
    nat_le (length tables) 64 && list_all (λ table. nat_lt table.group groups) tables && are_different tables

abbrev pub is_page_of : ℕ → ℕ → List ℕ → Bool
is_page_of file number page = file_of page == file && number_of_page page == number && bytes_eq (digest_field page) (page_digest page)

-- the eight pages of an extent
unfoldable pub are_pages : ℕ → ℕ → List ℕ → Bool
are_pages file first bytes = list_all (λ j. is_page_of file (first + j) (part bytes (8192 * j) 8192)) (range_with_len 0 8)

abbrev pub keeps_extent : List HeaderFile → Extent → Bool
keeps_extent files extent = holds_extent files extent.file extent.extent && are_pages extent.file (8 * extent.extent) extent.bytes

-- an extent doesn't come before this file and number
abbrev pub is_from : ℕ → ℕ → Extent → Bool
is_from file number extent = nat_lt file extent.file || (file == extent.file && nat_le number extent.extent)

-- extents that keep their conditions rise, from this file and number on
abbrev pub keep_extents : List HeaderFile → ℕ → ℕ → List Extent → Bool
keep_extents files file number [] = true
keep_extents files file number (extent ∷ extents) =
    is_from file number extent && keeps_extent files extent && keep_extents files extent.file (extent.extent + 1) extents

abbrev pub is_time : ℕ → Bool
is_time time = nat_le time 253402300799999

abbrev pub keeps_deed : Header → Deed → Bool
keeps_deed h (Database time family branch) = is_time time
keeps_deed h (Table time number name group) = is_time time && nat_lt group (length h.groups)
keeps_deed h Begin = true
keeps_deed h (Write place before after) = has_extent h.files place.file (place.page / 8)
keeps_deed h (Commit time mark) = is_time time
keeps_deed h RollbackEnd = true
keeps_deed h (Compensation place cell undone) = has_extent h.files place.file (place.page / 8)
keeps_deed h (Checkpoint time) = is_time time
keeps_deed h (Stamp time set) = is_time time
keeps_deed h (Model time model) = is_time time
keeps_deed h (Bulk table first count value extents) = list_all (λ (e : ExtentId). has_extent h.files e.file e.extent) extents
keeps_deed h (Recovery branch) = true

-- records that keep their conditions have the numbers from this one to below the header's last
abbrev pub follow_on : Header → ℕ → List Rec → Bool
follow_on h first [] = first == h.last
follow_on h first (r ∷ records) = r.lsn == first && keeps_deed h r.body && follow_on h (first + 1) records

unfoldable pub keep_records : Header → List TableSpec → List Rec → Bool
keep_records h tables records = follow_on h h.first records && keep_tables (length h.groups) (joined tables (tables_made records))

-- at most so many records, up to the end of the bytes
unfoldable pub records_at : ℕ → List ℕ → Option (List Rec)
records_at zero bytes = if length bytes == 0 then Some [] else None
records_at (suc n) bytes = if length bytes == 0 then Some [] else (do
  first ← record_form.reading bytes
  others ← records_at n first.1
  Some (first.0 ∷ others))

-- the records that all of the bytes are
abbrev pub records_of : List ℕ → Option (List Rec)
records_of bytes = records_at (length bytes) bytes

-- records are there, and pass a test
abbrev pub there_and : (List Rec → Bool) → Option (List Rec) → Bool
there_and test None = false
there_and test (Some records) = test records

unfoldable pub keep_log : Header → List TableSpec → List ℕ → Bool
keep_log h tables log = there_and (keep_records h tables) (records_of log)

-- ---- bodies

abbrev pub keep_parts : Header → List TableSpec → List Extent → List ℕ → Bool
keep_parts header tables extents log = keep_extents header.files 0 0 extents && keep_log header tables log

-- the body of these parts, where they keep the conditions
unfoldable pub body_from : Header → List TableSpec → List Extent → List ℕ → Option Body
body_from header tables extents log =
    if keep_parts header tables extents log then Some (record { header = header; tables = tables; extents = extents; log = log }) else None

unfoldable pub body_form : Codec Body
body_form = converted (followed front_form (λ front. followed (times extent_form front.1.1) (λ _. log_form)))
    (λ x. body_from x.0.0 x.0.1.0 x.1.0 x.1.1)
    (λ body. ((body.header, (body.tables, length body.extents)), (body.extents, body.log)))
    IsBody

-- the body that all of these bytes spell
unfoldable pub body_of : List ℕ → Option Body
body_of bytes = do
  body ← body_form.reading bytes
  if length body.1 == 0 then Some body.0 else None
