-- How many bytes a record has: less than 2 ^ 32, where it keeps the limits.
use Rattle.std.proofs.Common.{◌≡◌, ℕ, ◌+◌, ◌*◌, ◌^◌, ◌<◌, ◌≤◌, List, [], ◌∷◌, ◌++◌, length, replicate, Option, Some, None, refl, ap, ◌∙◌, arith, length-append}
use Rattle.std.specs.List.{flat_map}
use Rattle.bk_ids.specs.declared.record.Place.{Place}
use Rattle.bk_ids.specs.declared.record.ExtentId.{ExtentId}
use Rattle.bk_ids.specs.declared.record.Mark.{Mark}
use Rattle.bk_ids.specs.declared.record.Rec.{Rec}
use Rattle.bk_ids.specs.declared.record.Body.{Body}
use Rattle.bk_ids.specs.declared.record.Body.TheVariants.{Database, Table, Begin, Write, Commit, RollbackEnd, Compensation, Checkpoint, Stamp, Model, Bulk, Recovery}
use Rattle.bk_bytes.specs.Field.{bytes_of}
use Rattle.bk_bytes.specs.Cell.{IsCell}
use Rattle.bk_bytes.specs.FieldLaws.{length-bytes_of}
use Rattle.bk_bytes.specs.CellLaws.{length-cell_bytes}
use Rattle.bk_fields.specs.Guids.{guid_number, guid_bytes}
use Rattle.bk_fields.specs.Models.{model_bytes}
use Rattle.bk_record.specs.Spelling.{text_bytes, place_bytes, extent_bytes, mark_bytes, body_bytes, kind_of, inside, spelling, description_of, IsDescription, IsMark, IsBody, KeepsLimits}
use Rattle.bk_record.specs.Lengths.{mark_length, body_length}

length-text : (text : List ℕ) → length (text_bytes text) ≡ 2 + length text
length-text text = omega (arith, length-append (bytes_of 2 (length text)) text, length-bytes_of 2 (length text))

length-place : (place : Place) → length (place_bytes place) ≡ 8
length-place place = omega (arith, length-append (bytes_of 2 place.file) (bytes_of 4 place.page ++ bytes_of 2 place.slot), length-append (bytes_of 4 place.page) (bytes_of 2 place.slot), length-bytes_of 2 place.file, length-bytes_of 4 place.page, length-bytes_of 2 place.slot)

pub length-image : (image : List ℕ) → IsCell image → length image ≡ 128
length-image image found = ap length found.1.1 ∙ length-cell_bytes found.0 found.1.0

pub length-extents : (extents : List ExtentId) → length (flat_map extent_bytes extents) ≡ 6 * length extents
length-extents [] = refl
length-extents (extent ∷ extents) =
    omega (arith, length-append (extent_bytes extent) (flat_map extent_bytes extents), length-append (bytes_of 2 extent.file) (bytes_of 4 extent.extent), length-bytes_of 2 extent.file, length-bytes_of 4 extent.extent, length-extents extents)

description_short : (description : Option (List ℕ)) → IsDescription description → length (description_of description) ≤ 65535
description_short None h = omega arith
description_short (Some text) h = h.most_bytes

mark_short : (mark : Option Mark) → IsMark mark → length (mark_bytes mark) ≤ 65603
mark_short None h = omega (arith, length-append (text_bytes []) (text_bytes []), length-text [])
mark_short (Some mark) h =
    omega (arith, length-append (text_bytes mark.name) (text_bytes (description_of mark.description)), length-text mark.name, length-text (description_of mark.description), h.0.most_bytes, description_short mark.description h.1)

body_short : (body : Body) → IsBody body → KeepsLimits body → 24 + length (body_bytes body) < 2 ^ 32
body_short (Database time family branch) h k =
    omega (arith, length-append (bytes_of 8 time) (guid_bytes family ++ guid_bytes branch), length-append (guid_bytes family) (guid_bytes branch), length-bytes_of)
body_short (Table time number name group) h k =
    omega (arith, length-append (bytes_of 8 time) (bytes_of 4 number ++ (text_bytes name ++ bytes_of 1 group)), length-append (bytes_of 4 number) (text_bytes name ++ bytes_of 1 group), length-append (text_bytes name) (bytes_of 1 group), length-text name, length-bytes_of, h.1.1.0.most_bytes)
body_short Begin h k = omega arith
body_short (Write place before after) h k =
    omega (arith, length-append (place_bytes place) (before.bytes ++ after.bytes), length-append before.bytes after.bytes, length-place place, length-image before.bytes h.1.0, length-image after.bytes h.1.1)
body_short (Commit time mark) h k = omega (arith, length-append (bytes_of 8 time) (mark_bytes mark), length-bytes_of, mark_short mark h.1)
body_short RollbackEnd h k = omega arith
body_short (Compensation place cell undone) h k =
    omega (arith, length-append (place_bytes place) (cell.bytes ++ bytes_of 8 undone), length-append cell.bytes (bytes_of 8 undone), length-place place, length-image cell.bytes h.1.0, length-bytes_of)
body_short (Checkpoint time) h k = omega (arith, length-bytes_of)
body_short (Stamp time set) h k = omega (arith, length-append (bytes_of 8 time) (guid_bytes set), length-bytes_of)
body_short (Model time model) h k = omega (arith, length-append (bytes_of 8 time) (model_bytes model), length-bytes_of)
body_short (Bulk table first count value extents) h k =
    omega (
      arith,
      length-append (bytes_of 4 table) (bytes_of 8 first ++ (bytes_of 4 count ++ (text_bytes value ++ (bytes_of 4 (length extents) ++ flat_map extent_bytes extents)))),
      length-append (bytes_of 8 first) (bytes_of 4 count ++ (text_bytes value ++ (bytes_of 4 (length extents) ++ flat_map extent_bytes extents))),
      length-append (bytes_of 4 count) (text_bytes value ++ (bytes_of 4 (length extents) ++ flat_map extent_bytes extents)),
      length-append (text_bytes value) (bytes_of 4 (length extents) ++ flat_map extent_bytes extents),
      length-append (bytes_of 4 (length extents)) (flat_map extent_bytes extents),
      length-text value,
      length-extents extents,
      length-bytes_of,
      k,
    )
body_short (Recovery branch) h k = omega (arith, length-bytes_of)

pub inside_short : (r : Rec) → IsBody r.body → KeepsLimits r.body → 4 + length (inside r) < 2 ^ 32
inside_short r h k =
    omega (
      arith,
      length-append (bytes_of 1 (kind_of r.body) ++ (replicate 3 0 ++ (bytes_of 8 r.lsn ++ bytes_of 8 r.begin))) (body_bytes r.body),
      length-append (bytes_of 1 (kind_of r.body)) (replicate 3 0 ++ (bytes_of 8 r.lsn ++ bytes_of 8 r.begin)),
      length-append (bytes_of 8 r.lsn) (bytes_of 8 r.begin),
      length-bytes_of 1 (kind_of r.body),
      length-bytes_of 8 r.lsn,
      length-bytes_of 8 r.begin,
      body_short r.body h k,
    )

-- ---- exact lengths

length-mark : (mark : Option Mark) → length (mark_bytes mark) ≡ mark_length mark
length-mark None = omega (arith, length-append (text_bytes []) (text_bytes []), length-text [])
length-mark (Some mark) =
    omega (arith, length-append (text_bytes mark.name) (text_bytes (description_of mark.description)), length-text mark.name, length-text (description_of mark.description))

-- the fields of a kind have so many bytes
length-body : (body : Body) → KeepsLimits body → length (body_bytes body) ≡ body_length body
length-body (Database time family branch) k =
    omega (arith, length-append (bytes_of 8 time) (guid_bytes family ++ guid_bytes branch), length-append (guid_bytes family) (guid_bytes branch), length-bytes_of)
length-body (Table time number name group) k =
    omega (arith, length-append (bytes_of 8 time) (bytes_of 4 number ++ (text_bytes name ++ bytes_of 1 group)), length-append (bytes_of 4 number) (text_bytes name ++ bytes_of 1 group), length-append (text_bytes name) (bytes_of 1 group), length-text name, length-bytes_of)
length-body Begin k = refl
length-body (Write place before after) k =
    omega (arith, length-append (place_bytes place) (before.bytes ++ after.bytes), length-append before.bytes after.bytes, length-place place, length-image before.bytes k.0, length-image after.bytes k.1)
length-body (Commit time mark) k = omega (arith, length-append (bytes_of 8 time) (mark_bytes mark), length-bytes_of, length-mark mark)
length-body RollbackEnd k = refl
length-body (Compensation place cell undone) k =
    omega (arith, length-append (place_bytes place) (cell.bytes ++ bytes_of 8 undone), length-append cell.bytes (bytes_of 8 undone), length-place place, length-image cell.bytes k, length-bytes_of)
length-body (Checkpoint time) k = length-bytes_of 8 time
length-body (Stamp time set) k = omega (arith, length-append (bytes_of 8 time) (guid_bytes set), length-bytes_of)
length-body (Model time model) k = omega (arith, length-append (bytes_of 8 time) (model_bytes model), length-bytes_of)
length-body (Bulk table first count value extents) k =
    omega (
      arith,
      length-append (bytes_of 4 table) (bytes_of 8 first ++ (bytes_of 4 count ++ (text_bytes value ++ (bytes_of 4 (length extents) ++ flat_map extent_bytes extents)))),
      length-append (bytes_of 8 first) (bytes_of 4 count ++ (text_bytes value ++ (bytes_of 4 (length extents) ++ flat_map extent_bytes extents))),
      length-append (bytes_of 4 count) (text_bytes value ++ (bytes_of 4 (length extents) ++ flat_map extent_bytes extents)),
      length-append (text_bytes value) (bytes_of 4 (length extents) ++ flat_map extent_bytes extents),
      length-append (bytes_of 4 (length extents)) (flat_map extent_bytes extents),
      length-text value,
      length-extents extents,
      length-bytes_of,
    )
length-body (Recovery branch) k = length-bytes_of 16 (guid_number branch)

-- and the spelling of the record
pub length-spelling : (r : Rec) → KeepsLimits r.body → length (spelling r) ≡ 24 + body_length r.body
unfolding spelling
length-spelling r k =
    omega (
      arith,
      length-append (bytes_of 4 (4 + length (inside r))) (inside r),
      length-append (bytes_of 1 (kind_of r.body) ++ (replicate 3 0 ++ (bytes_of 8 r.lsn ++ bytes_of 8 r.begin))) (body_bytes r.body),
      length-append (bytes_of 1 (kind_of r.body)) (replicate 3 0 ++ (bytes_of 8 r.lsn ++ bytes_of 8 r.begin)),
      length-append (bytes_of 8 r.lsn) (bytes_of 8 r.begin),
      length-bytes_of 4 (4 + length (inside r)),
      length-bytes_of 1 (kind_of r.body),
      length-bytes_of 8 r.lsn,
      length-bytes_of 8 r.begin,
      length-body r.body k,
    )

-- a record's length, and what follows it, are its spelling
pub spelling-parts : (r : Rec) (len : ℕ) → len ≡ length (spelling r) → bytes_of 4 len ++ inside r ≡ spelling r
unfolding spelling
spelling-parts r len is =
    let size : len ≡ 4 + length (inside r) = omega (arith, is, length-append (bytes_of 4 (4 + length (inside r))) (inside r), length-bytes_of 4 (4 + length (inside r))) in
    ap (λ (n : ℕ). bytes_of 4 n ++ inside r) size
