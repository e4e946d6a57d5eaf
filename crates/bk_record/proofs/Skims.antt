-- What the front of a record's bytes tells.
use Rattle.std.proofs.Common.{◌≡◌, ℕ, ◌+◌, List, ◌++◌, length, drop, replicate, refl, sym, ap, ◌∙◌, arith, append_assoc, length-append}
use Rattle.std.proofs.lemmas.List.{drop_at, drop-drop, length-replicate}
use Rattle.bk_bytes.specs.CellLaws.{length-cell_bytes}
use Rattle.bk_bytes.specs.Field.{bytes_of, number_of}
use Rattle.bk_bytes.specs.FieldLaws.{length-bytes_of, number_of-bytes_of}
use Rattle.bk_ids.specs.declared.record.Body.{Body}
use Rattle.bk_ids.specs.declared.record.Body.TheVariants.{Database, Table, Begin, Write, Commit, RollbackEnd, Compensation, Checkpoint, Stamp, Model, Bulk, Recovery}
use Rattle.bk_ids.specs.declared.record.Rec.{Rec}
use Rattle.bk_record.specs.Spelling.{body_bytes, inside, kind_of, place_bytes, spelling, BeginsWith, IsBody, IsRecord}
use Rattle.bk_record.specs.Skims.{IsWrite}

-- the number of a record's kind stands behind its length
kind_read : (body : Body) (numbers rest after : List ℕ) → number_of 4 (((bytes_of 1 (kind_of body) ++ (replicate 3 0 ++ numbers)) ++ rest) ++ after) ≡ kind_of body
unfolding number_of bytes_of
kind_read (Database time family branch) numbers rest after = refl
kind_read (Table time number name group) numbers rest after = refl
kind_read Begin numbers rest after = refl
kind_read (Write place before now) numbers rest after = refl
kind_read (Commit time mark) numbers rest after = refl
kind_read RollbackEnd numbers rest after = refl
kind_read (Compensation place cell undone) numbers rest after = refl
kind_read (Checkpoint time) numbers rest after = refl
kind_read (Stamp time set) numbers rest after = refl
kind_read (Model time model) numbers rest after = refl
kind_read (Bulk table first count value extents) numbers rest after = refl
kind_read (Recovery branch) numbers rest after = refl

-- 4 is that of a write
kind_write : (body : Body) → kind_of body ≡ 4 → IsWrite body
kind_write (Database time family branch) is = absurd (omega (arith, is))
kind_write (Table time number name group) is = absurd (omega (arith, is))
kind_write Begin is = absurd (omega (arith, is))
kind_write (Write place before after) is = tt
kind_write (Commit time mark) is = absurd (omega (arith, is))
kind_write RollbackEnd is = absurd (omega (arith, is))
kind_write (Compensation place cell undone) is = absurd (omega (arith, is))
kind_write (Checkpoint time) is = absurd (omega (arith, is))
kind_write (Stamp time set) is = absurd (omega (arith, is))
kind_write (Model time model) is = absurd (omega (arith, is))
kind_write (Bulk table first count value extents) is = absurd (omega (arith, is))
kind_write (Recovery branch) is = absurd (omega (arith, is))

-- a write's fields have 264 bytes
fields_length : (body : Body) → IsWrite body → IsBody body → length (body_bytes body) ≡ 264
fields_length (Database _ _ _) is fits = elim is [ ]
fields_length (Table _ _ _ _) is fits = elim is [ ]
fields_length Begin is fits = elim is [ ]
fields_length (Commit _ _) is fits = elim is [ ]
fields_length RollbackEnd is fits = elim is [ ]
fields_length (Compensation _ _ _) is fits = elim is [ ]
fields_length (Checkpoint _) is fits = elim is [ ]
fields_length (Stamp _ _) is fits = elim is [ ]
fields_length (Model _ _) is fits = elim is [ ]
fields_length (Bulk _ _ _ _ _) is fits = elim is [ ]
fields_length (Recovery _) is fits = elim is [ ]
fields_length (Write place before after) is fits =
    let one : length before.bytes ≡ 128 = ap length fits.1.0.1.1 ∙ length-cell_bytes fits.1.0.0 fits.1.0.1.0 in
    let two : length after.bytes ≡ 128 = ap length fits.1.1.1.1 ∙ length-cell_bytes fits.1.1.0 fits.1.1.1.0 in
    omega (
      arith,
      one,
      two,
      length-append (place_bytes place) (before.bytes ++ after.bytes),
      length-append before.bytes after.bytes,
      length-append (bytes_of 2 place.file) (bytes_of 4 place.page ++ bytes_of 2 place.slot),
      length-append (bytes_of 4 place.page) (bytes_of 2 place.slot),
      length-bytes_of 2 place.file,
      length-bytes_of 4 place.page,
      length-bytes_of 2 place.slot,
    )

write_length : (r : Rec) → IsWrite r.body → IsRecord r → length (spelling r) ≡ 288
unfolding spelling
write_length r is fits =
    let numbers : List ℕ = bytes_of 8 r.lsn ++ bytes_of 8 r.begin in
    omega (
      arith,
      fields_length r.body is fits.body,
      length-append (bytes_of 4 (4 + length (inside r))) (inside r),
      length-bytes_of 4 (4 + length (inside r)),
      length-append (bytes_of 1 (kind_of r.body) ++ (replicate 3 0 ++ numbers)) (body_bytes r.body),
      length-append (bytes_of 1 (kind_of r.body)) (replicate 3 0 ++ numbers),
      length-append (replicate 3 0) numbers,
      length-append (bytes_of 8 r.lsn) (bytes_of 8 r.begin),
      length-bytes_of 1 (kind_of r.body),
      length-bytes_of 8 r.lsn,
      length-bytes_of 8 r.begin,
      length-replicate {A = ℕ} 3 0,
    )

kind_there : (bytes : List ℕ) (r : Rec) (after : List ℕ) → BeginsWith bytes r after → number_of 4 (drop 4 bytes) ≡ kind_of r.body
unfolding spelling
kind_there bytes r after begins =
    let front : List ℕ = bytes_of 4 (4 + length (inside r)) in
    let whole : bytes ≡ front ++ (inside r ++ after) = begins.spelled ∙ append_assoc front (inside r) after in
    let behind : drop 4 bytes ≡ inside r ++ after = ap (drop 4) whole ∙ drop_at front (inside r ++ after) 4 (length-bytes_of 4 (4 + length (inside r))) in
    ap (number_of 4) behind ∙ kind_read r.body (bytes_of 8 r.lsn ++ bytes_of 8 r.begin) (body_bytes r.body) after

-- the record's number behind it
pub lsn_there : (bytes : List ℕ) (r : Rec) (after : List ℕ) → BeginsWith bytes r after → number_of 8 (drop 8 bytes) ≡ r.lsn
unfolding spelling
lsn_there bytes r after begins =
    let front : List ℕ = bytes_of 4 (4 + length (inside r)) ++ (bytes_of 1 (kind_of r.body) ++ replicate 3 0) in
    let rest : List ℕ = bytes_of 8 r.lsn ++ (bytes_of 8 r.begin ++ (body_bytes r.body ++ after)) in
    let size : length front ≡ 8 = omega (
      arith,
      length-append (bytes_of 4 (4 + length (inside r))) (bytes_of 1 (kind_of r.body) ++ replicate 3 0),
      length-bytes_of 4 (4 + length (inside r)),
      length-append (bytes_of 1 (kind_of r.body)) (replicate 3 0),
      length-bytes_of 1 (kind_of r.body),
      length-replicate {A = ℕ} 3 0,
    ) in
    let regrouped : spelling r ++ after ≡ front ++ rest = simp append_assoc in
    let whole : bytes ≡ front ++ rest = begins.spelled ∙ regrouped in
    ap (number_of 8) (ap (drop 8) whole ∙ drop_at front rest 8 size) ∙ number_of-bytes_of 8 r.lsn (bytes_of 8 r.begin ++ (body_bytes r.body ++ after)) (omega (arith, begins.is_record.lsn))

-- and the number of its transaction's first record behind its own
pub begin_there : (bytes : List ℕ) (r : Rec) (after : List ℕ) → BeginsWith bytes r after → number_of 8 (drop 16 bytes) ≡ r.begin
unfolding spelling
begin_there bytes r after begins =
    let len : List ℕ = bytes_of 4 (4 + length (inside r)) in
    let lsn : List ℕ = bytes_of 8 r.lsn in
    let front : List ℕ = len ++ (bytes_of 1 (kind_of r.body) ++ (replicate 3 0 ++ lsn)) in
    let rest : List ℕ = bytes_of 8 r.begin ++ (body_bytes r.body ++ after) in
    let size : length front ≡ 16 = omega (
      arith,
      length-append len (bytes_of 1 (kind_of r.body) ++ (replicate 3 0 ++ lsn)),
      length-bytes_of 4 (4 + length (inside r)),
      length-append (bytes_of 1 (kind_of r.body)) (replicate 3 0 ++ lsn),
      length-bytes_of 1 (kind_of r.body),
      length-append (replicate 3 0) lsn,
      length-replicate {A = ℕ} 3 0,
      length-bytes_of 8 r.lsn,
    ) in
    let regrouped : spelling r ++ after ≡ front ++ rest = simp append_assoc in
    let whole : bytes ≡ front ++ rest = begins.spelled ∙ regrouped in
    ap (number_of 8) (ap (drop 16) whole ∙ drop_at front rest 16 size) ∙ number_of-bytes_of 8 r.begin (body_bytes r.body ++ after) (omega (arith, begins.is_record.begin))

-- so a record of that kind is a write
pub write_there : (bytes : List ℕ) (kind : ℕ) (r : Rec) (after : List ℕ) → kind ≡ number_of 4 (drop 4 bytes) → kind ≡ 4 → BeginsWith bytes r after → IsWrite r.body × (length (spelling r) ≡ 288)
write_there bytes kind r after read is begins =
    let writes : IsWrite r.body = kind_write r.body (sym (kind_there bytes r after begins) ∙ sym read ∙ is) in
    (writes, write_length r writes begins.is_record)

-- what lies behind a record of this length
pub behind_one : (bytes : List ℕ) (at len next : ℕ) (r : Rec) (after : List ℕ) → BeginsWith (drop at bytes) r after → length (spelling r) ≡ len → next ≡ at + len → drop next bytes ≡ after
behind_one bytes at len next r after begins length_is next_is =
    ap (λ (n : ℕ). drop n bytes) next_is ∙ sym (drop-drop len at bytes) ∙ ap (drop len) begins.spelled ∙ drop_at (spelling r) after len length_is
