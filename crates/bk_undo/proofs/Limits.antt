-- What can be written of the compensation, and how much of it there is.
use Rattle.std.proofs.Common.{◌≤◌, ◌<◌, ◌^◌, ◌+◌, ◌*◌, ℕ, Bool, List, [], ◌∷◌, ◌++◌, Option, map, reverse, length, replicate, ap, arith}
use Rattle.std.specs.Prelude.{nat_lt}
use Rattle.std.specs.List.{filter, flat_map, AllByRecursion}
use Rattle.std.proofs.lemmas.Bool.{cond_both}
use Rattle.std.proofs.lemmas.List.{length-append, length-map, length-reverse}
use Rattle.bk_bytes.specs.Cell.{IsCell}
use Rattle.bk_bytes.specs.Field.{bytes_of}
use Rattle.bk_bytes.specs.FieldLaws.{length-bytes_of}
use Rattle.bk_ids.specs.declared.record.Body.{Body}
use Rattle.bk_ids.specs.declared.record.Body.TheVariants.{Write}
use Rattle.bk_ids.specs.declared.record.Rec.{Rec}
use Rattle.bk_record.specs.Log.{IsLog}
use Rattle.bk_record.specs.Spelling.{spelling, inside, kind_of, body_bytes, IsPlace, IsBody, IsRecord, KeepsLimits}
use Rattle.bk_record.specs.LengthLaws.{inside_short}
use Rattle.bk_lemmas.specs.Lists.{all_joined, all_filter, all_reverse}
use Rattle.bk_undo.specs.declared.pending.Pending.{Pending}
use Rattle.bk_undo.specs.Losers.{is_open, writes, body_writes, pending, records_below, compensation, compensation_of}

-- ---- limits

-- a write as a record tells it
record IsTold (w : Pending) : Type 0 where
  lsn : w.lsn < 2 ^ 64
  begin : w.begin < 2 ^ 64
  place : IsPlace w.place
  cell : IsCell w.before.bytes

told_by : (lsn begin : ℕ) (body : Body) → lsn < 2 ^ 64 → begin < 2 ^ 64 → IsBody body → AllByRecursion IsTold (body_writes lsn begin body)
told_by lsn begin (Write place before after) low early is = (record { lsn = low; begin = early; place = is.0; cell = is.1.0 }, tt)
told_by lsn begin _ low early is = tt

pending_told : (records : List Rec) → AllByRecursion IsRecord records → AllByRecursion IsTold (pending records)
pending_told [] all = tt
pending_told (r ∷ records) all =
    all_joined IsTold (filter (is_open records) (writes r)) (pending records)
    (all_filter IsTold (is_open records) (writes r) (told_by r.lsn r.begin r.body all.0.lsn all.0.begin all.0.body))
    (pending_told records all.1)

all_undoing : (P : Rec → Type 0) (ws : List Pending) → ((w : Pending) → IsTold w → P (compensation_of w)) → AllByRecursion IsTold ws → AllByRecursion P (map compensation_of ws)
all_undoing P [] each all = tt
all_undoing P (w ∷ ws) each all = (each w all.0, all_undoing P ws each all.1)

-- what holds of the record that undoes a write holds of the compensation
undoing_all : (P : Rec → Type 0) (n : ℕ) (records : List Rec) → ((w : Pending) → IsTold w → P (compensation_of w)) → AllByRecursion IsRecord records → AllByRecursion P (compensation n records)
undoing_all P n records each all =
    let below : List Rec = records_below n records in
    let told : AllByRecursion IsTold (pending below) = pending_told below (all_filter IsRecord (λ (r : Rec). nat_lt r.lsn n) records all) in
    all_undoing P (reverse (pending below)) each (all_reverse IsTold (pending below) told)

pub undoing_limits : (n : ℕ) (records : List Rec) → AllByRecursion IsRecord records → AllByRecursion (λ (r : Rec). KeepsLimits r.body) (compensation n records)
undoing_limits n records all = undoing_all (λ (r : Rec). KeepsLimits r.body) n records (λ w told. told.cell) all

-- a record that undoes a write, under any number
spelled_under : (w : Pending) → IsTold w → (lsn : ℕ) → lsn < 2 ^ 64 → IsRecord (record (compensation_of w) { lsn = lsn })
spelled_under w told lsn low =
    let r : Rec = record (compensation_of w) { lsn = lsn } in
    let body : IsBody r.body = (told.place, (told.cell, told.lsn)) in
    record { lsn = low; begin = told.begin; body = body; len = inside_short r body told.cell }

pub undoing_spelled : (n : ℕ) (records : List Rec) → AllByRecursion IsRecord records → AllByRecursion (λ (r : Rec). (lsn : ℕ) → lsn < 2 ^ 64 → IsRecord (record r { lsn = lsn })) (compensation n records)
undoing_spelled n records all = undoing_all (λ (r : Rec). (lsn : ℕ) → lsn < 2 ^ 64 → IsRecord (record r { lsn = lsn })) n records spelled_under all

-- ---- numbers

filter_shorter : {X : Type 0} (p : X → Bool) (xs : List X) → length (filter p xs) ≤ length xs
filter_shorter p [] = omega arith
filter_shorter {X = X} p (x ∷ xs) =
    let rest : length (filter p xs) ≤ length xs = filter_shorter p xs in
    cond_both (p x) (x ∷ filter p xs) (filter p xs) (λ (l : List X). length l ≤ length (x ∷ xs)) (λ _. omega arith) (λ _. omega arith)

one_write : (lsn begin : ℕ) (body : Body) → length (body_writes lsn begin body) ≤ 1
one_write lsn begin (Write place before after) = omega arith
one_write lsn begin _ = omega arith

pending_few : (records : List Rec) → length (pending records) ≤ length records
pending_few [] = omega arith
pending_few (r ∷ records) =
    let here : length (filter (is_open records) (writes r)) ≤ length (writes r) = filter_shorter (is_open records) (writes r) in
    let one : length (writes r) ≤ 1 = one_write r.lsn r.begin r.body in
    let rest : length (pending records) ≤ length records = pending_few records in
    omega (arith, length-append (filter (is_open records) (writes r)) (pending records))

pub undoing_few : (n : ℕ) (records : List Rec) → length (compensation n records) ≤ length records
undoing_few n records =
    let below : List Rec = records_below n records in
    let part : length below ≤ length records = filter_shorter (λ (r : Rec). nat_lt r.lsn n) records in
    omega (arith, length-map (reverse (pending below)) compensation_of, length-reverse (pending below), pending_few below)

spelling_long : (r : Rec) → 24 ≤ length (spelling r)
unfolding spelling
spelling_long r =
    let head : List ℕ = bytes_of 1 (kind_of r.body) ++ (replicate 3 0 ++ (bytes_of 8 r.lsn ++ bytes_of 8 r.begin)) in
    omega (
      arith,
      length-append (bytes_of 4 (4 + length (inside r))) (inside r),
      length-append head (body_bytes r.body),
      length-append (bytes_of 1 (kind_of r.body)) (replicate 3 0 ++ (bytes_of 8 r.lsn ++ bytes_of 8 r.begin)),
      length-append (replicate 3 0) (bytes_of 8 r.lsn ++ bytes_of 8 r.begin),
      length-append (bytes_of 8 r.lsn) (bytes_of 8 r.begin),
      length-bytes_of 4 (4 + length (inside r)),
      length-bytes_of 1 (kind_of r.body),
      length-bytes_of 8 r.lsn,
      length-bytes_of 8 r.begin,
    )

spelled_long : (records : List Rec) → 24 * length records ≤ length (flat_map spelling records)
spelled_long [] = omega arith
spelled_long (r ∷ records) =
    let rest : 24 * length records ≤ length (flat_map spelling records) = spelled_long records in
    omega (arith, spelling_long r, length-append (spelling r) (flat_map spelling records))

pub log_long : (bytes : List ℕ) (records : List Rec) (bad : Option ℕ) → IsLog bytes records bad → 24 * length records ≤ length bytes
log_long bytes records bad log = omega (arith, spelled_long records, ap length log.spelled, length-append (flat_map spelling records) log.rest)
