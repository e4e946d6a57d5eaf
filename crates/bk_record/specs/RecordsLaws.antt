-- Bytes are whole records exactly where they are read to their end as such.
use Rattle.std.proofs.Common.{◌≡◌, ◌<◌, ◌≤◌, ℕ, zero, suc, ◌+◌, Bool, true, false, cond, eqb, List, [], ◌∷◌, ◌++◌, length, Option, Some, None, Result, Ok, Err, refl, sym, ap, subst, ◌∙◌, arith, length-append}
use Rattle.std.specs.Prelude.{◌||◌, nat_lt, OnOk, OnErr}
use Rattle.std.specs.List.{flat_map, AllByRecursion}
use Rattle.std.proofs.lemmas.Bool.Decides.{nat_tests}
use Rattle.std.proofs.lemmas.List.{append-nil, nil_from_length}
use Rattle.std.proofs.lemmas.List.Concat.{flat_map-append}
use Rattle.bk_bytes.specs.Field.{AreBytes, bytes_of}
use Rattle.bk_bytes.specs.FieldLaws.{length-bytes_of}
use Rattle.bk_bytes.specs.CodecLaws.{AreBytes-after}
use Rattle.bk_ids.specs.declared.record.Rec.{Rec}
use Rattle.bk_record.specs.Laws.{one_record, record_read, record_again}
use Rattle.bk_record.specs.Log.{IsLog}
use Rattle.bk_record.specs.Reading.{record_form}
use Rattle.bk_record.specs.Spelling.{spelling, inside, IsRecord, BeginsWith, IsUnspelled}
use Rattle.bk_record.specs.WalkLaws.{one_log, log_of_records}
use Rattle.bk_record.specs.Records.{AreRecords, then_rest, at_most_records, are_records, records_from, records_in}

-- ---- records and their bytes

-- whole records are the spellings of these
pub whole_is : (bytes : List ℕ) (records : List Rec) → IsLog bytes records None → bytes ≡ flat_map spelling records
whole_is bytes records log = log.spelled ∙ ap (λ (rest : List ℕ). flat_map spelling records ++ rest) log.ends ∙ append-nil (flat_map spelling records)

whole_from : (bytes : List ℕ) (records : List Rec) → AllByRecursion IsRecord records → bytes ≡ flat_map spelling records → AreRecords bytes
whole_from bytes records all e = (records, subst (λ (b : List ℕ). IsLog b records None) (sym e) (log_of_records records all))

pub no_records : AreRecords []
no_records = whole_from [] [] tt refl

-- one record more, before them or behind them
one_before : (bytes : List ℕ) (r : Rec) (rest : List ℕ) → BeginsWith bytes r rest → AreRecords rest → AreRecords bytes
one_before bytes r rest begins whole =
    whole_from bytes (r ∷ whole.0) (begins.is_record, whole.1.are_records) (begins.spelled ∙ ap (λ (b : List ℕ). spelling r ++ b) (whole_is rest whole.0 whole.1))

pub all_more : (records : List Rec) (r : Rec) → AllByRecursion IsRecord records → IsRecord r → AllByRecursion IsRecord (records ++ r ∷ [])
all_more [] r all is = (is, tt)
all_more (x ∷ records) r all is = (all.0, all_more records r all.1 is)

pub log_more : (bytes : List ℕ) (records : List Rec) (r : Rec) → IsLog bytes records None → IsRecord r → IsLog (bytes ++ spelling r) (records ++ r ∷ []) None
log_more bytes records r log is =
    let last : flat_map spelling (records ++ r ∷ []) ≡ flat_map spelling records ++ spelling r =
    flat_map-append spelling records (r ∷ []) ∙ ap (λ (b : List ℕ). flat_map spelling records ++ b) (append-nil (spelling r)) in
    let same : bytes ++ spelling r ≡ flat_map spelling (records ++ r ∷ []) = ap (λ (b : List ℕ). b ++ spelling r) (whole_is bytes records log) ∙ sym last in
    subst (λ (b : List ℕ). IsLog b (records ++ r ∷ []) None) (sym same) (log_of_records (records ++ r ∷ []) (all_more records r log.are_records is))

pub one_more : (bytes : List ℕ) (r : Rec) → AreRecords bytes → IsRecord r → AreRecords (bytes ++ spelling r)
one_more bytes r whole is = (whole.0 ++ r ∷ [], log_more bytes whole.0 r whole.1 is)

-- a walk over them finds no bad one
pub no_bad_one : (bytes : List ℕ) (records : List Rec) (bad : Option ℕ) → AreRecords bytes → IsLog bytes records bad → bad ≡ None
no_bad_one bytes records bad whole log = (one_log bytes records whole.0 bad None log whole.1).1

-- ---- the test

pub some_bytes : (r : Rec) → 4 ≤ length (spelling r)
unfolding spelling
some_bytes r = omega (arith, length-append (bytes_of 4 (4 + length (inside r))) (inside r), length-bytes_of 4 (4 + length (inside r)))

or_true : (b : Bool) → b || true ≡ true
or_true true = refl
or_true false = refl

read_again : (n : ℕ) (records : List Rec) → AllByRecursion IsRecord records → length (flat_map spelling records) ≤ n → at_most_records n (flat_map spelling records) ≡ true
read_again zero [] all few = refl
read_again (suc n) [] all few = refl
read_again zero (r ∷ records) all few = absurd (omega (arith, few, some_bytes r, length-append (spelling r) (flat_map spelling records)))
read_again (suc n) (r ∷ records) all few =
    let few_left : length (flat_map spelling records) ≤ n = omega (arith, few, some_bytes r, length-append (spelling r) (flat_map spelling records)) in
    let none = eqb (length (spelling r ++ flat_map spelling records)) 0 in
    ap (λ (o : Option (Rec × List ℕ)). none || then_rest (at_most_records n) o) (record_again r (flat_map spelling records) all.0)
    ∙ ap (λ (b : Bool). none || b) (read_again n records all.1 few_left) ∙ or_true none

nothing_left : (bytes : List ℕ) → eqb (length bytes) 0 ≡ true → AreRecords bytes
nothing_left bytes none = subst AreRecords (sym (nil_from_length bytes (grind (arith, nat_tests, none)))) no_records

read_whole : (n : ℕ) (bytes : List ℕ) → AreBytes bytes → at_most_records n bytes ≡ true → AreRecords bytes
read_whole zero bytes fits e = nothing_left bytes e
read_whole (suc n) bytes fits e = by (λ rest are test. read_whole n rest are test) (eqb (length bytes) 0) refl (record_form.reading bytes) refl e
  where
    by : ((rest : List ℕ) → AreBytes rest → at_most_records n rest ≡ true → AreRecords rest) → (none : Bool) → eqb (length bytes) 0 ≡ none
        → (read : Option (Rec × List ℕ)) → record_form.reading bytes ≡ read → none || then_rest (at_most_records n) read ≡ true → AreRecords bytes
    by later true none read is e = nothing_left bytes none
    by later false some None is e = absurd cc
    by later false some (Some x) is e =
        let begins = record_read bytes x.0 x.1 fits is in
        one_before bytes x.0 x.1 begins (later x.1 (AreBytes-after bytes (spelling x.0) x.1 fits begins.spelled) e)

pub are_records-true : (bytes : List ℕ) → AreRecords bytes → are_records bytes ≡ true
unfolding are_records
are_records-true bytes whole =
    subst (λ (b : List ℕ). at_most_records (length b) b ≡ true) (sym (whole_is bytes whole.0 whole.1)) (read_again (length (flat_map spelling whole.0)) whole.0 whole.1.are_records (omega arith))

pub are_records-from : (bytes : List ℕ) → AreBytes bytes → are_records bytes ≡ true → AreRecords bytes
unfolding are_records
are_records-from bytes fits e = read_whole (length bytes) bytes fits e

pub are_records-false : (bytes : List ℕ) (records : List Rec) (place : ℕ) → AreBytes bytes → IsLog bytes records (Some place) → are_records bytes ≡ false
are_records-false bytes records place fits log = by (are_records bytes) refl
  where
    by : (test : Bool) → are_records bytes ≡ test → are_records bytes ≡ false
    by false is = is
    by true is = let none : Some place ≡ None = no_bad_one bytes records (Some place) (are_records-from bytes fits is) log in absurd cc

-- what is read as records is all of the bytes, or none of them
pub records_in-some : (bytes : List ℕ) → AreRecords bytes → records_in bytes ≡ Some bytes
records_in-some bytes whole = ap (λ (test : Bool). cond test (Some bytes) None) (are_records-true bytes whole)

pub records_in-none : (bytes : List ℕ) (records : List Rec) (place : ℕ) → AreBytes bytes → IsLog bytes records (Some place) → records_in bytes ≡ None
records_in-none bytes records place fits log = ap (λ (test : Bool). cond test (Some bytes) None) (are_records-false bytes records place fits log)

-- behind a push they are whole, whether there was memory or not
pub pushed : {E : Type 0} (bytes : List ℕ) (r : Rec) (new : List ℕ) (result : Result (Unit {0}) E) → AreRecords bytes → OnOk result (new ≡ bytes ++ spelling r) → OnOk result (IsRecord r) → OnErr result (new ≡ bytes) → AreRecords new
pushed bytes r new (Ok u) whole ok is err = subst AreRecords (sym ok) (one_more bytes r whole is)
pushed bytes r new (Err e) whole ok is err = subst AreRecords (sym err) whole

-- ---- records behind others, and those from a number on

pub all_records : (records others : List Rec) → AllByRecursion IsRecord records → AllByRecursion IsRecord others → AllByRecursion IsRecord (records ++ others)
all_records [] others all alls = alls
all_records (r ∷ records) others all alls = (all.0, all_records records others all.1 alls)

-- whole records behind whole records are whole records
pub log_append : (bytes more : List ℕ) (records others : List Rec) → IsLog bytes records None → IsLog more others None → IsLog (bytes ++ more) (records ++ others) None
log_append bytes more records others log behind =
    let same : bytes ++ more ≡ flat_map spelling (records ++ others) =
    rw (whole_is bytes records log, whole_is more others behind) (sym (flat_map-append spelling records others)) in
    subst (λ (b : List ℕ). IsLog b (records ++ others) None) (sym same) (log_of_records (records ++ others) (all_records records others log.are_records behind.are_records))

pub records_append : (bytes more : List ℕ) → AreRecords bytes → AreRecords more → AreRecords (bytes ++ more)
records_append bytes more whole behind = (whole.0 ++ behind.0, log_append bytes more whole.0 behind.0 whole.1 behind.1)

-- of whole records that begin with one the others are whole records, too
pub log_behind : (bytes : List ℕ) (records : List Rec) (r : Rec) (after : List ℕ) → IsLog bytes records None → BeginsWith bytes r after
    → (others : List Rec) × ((records ≡ r ∷ others) × IsLog after others None)
log_behind bytes [] r after log begins =
    absurd (omega (arith, ap length (whole_is bytes [] log), ap length begins.spelled, length-append (spelling r) after, some_bytes r))
log_behind bytes (x ∷ others) r after log begins =
    let same = one_record r x after (flat_map spelling others) begins.is_record log.are_records.0 (sym begins.spelled ∙ whole_is bytes (x ∷ others) log) in
    (others, (ap (λ (y : Rec). y ∷ others) (sym same.0), subst (λ (b : List ℕ). IsLog b others None) (sym same.1) (log_of_records others log.are_records.1)))

-- whole records that begin with none are none
pub log_ends : (bytes : List ℕ) (records : List Rec) → IsLog bytes records None → IsUnspelled bytes → records ≡ []
log_ends bytes [] log none = refl
log_ends bytes (r ∷ records) log none =
    absurd (none r (flat_map spelling records) (record { spelled = whole_is bytes (r ∷ records) log; is_record = log.are_records.0 }))

-- fewer bytes are behind a record
pub fewer_behind : (bytes : List ℕ) (r : Rec) (after : List ℕ) → BeginsWith bytes r after → length after < length bytes
fewer_behind bytes r after begins = omega (arith, ap length begins.spelled, length-append (spelling r) after, some_bytes r)

-- the records from a number on, by the first record
pub from_behind : (n : ℕ) (r : Rec) (records : List Rec) → r.lsn < n → records_from n (r ∷ records) ≡ records_from n records
from_behind n r records low = let is : nat_lt r.lsn n ≡ true = grind (arith, nat_tests) in rw is refl

pub from_here : (n : ℕ) (r : Rec) (records : List Rec) → n ≤ r.lsn → records_from n (r ∷ records) ≡ r ∷ records
from_here n r records high = let is : nat_lt r.lsn n ≡ false = grind (arith, nat_tests) in rw is refl

-- from the bytes of a record that is left out on, and from one that isn't
pub step_behind : (bytes : List ℕ) (n : ℕ) (later : List Rec) (r : Rec) (after : List ℕ) → IsLog bytes later None → BeginsWith bytes r after → r.lsn < n
    → (others : List Rec) × ((records_from n later ≡ records_from n others) × IsLog after others None)
step_behind bytes n later r after log begins low =
    let rest = log_behind bytes later r after log begins in
    (rest.0, (ap (records_from n) rest.1.0 ∙ from_behind n r rest.0 low, rest.1.1))

pub stops_here : (bytes : List ℕ) (n : ℕ) (later : List Rec) (r : Rec) (after : List ℕ) → IsLog bytes later None → BeginsWith bytes r after → n ≤ r.lsn → IsLog bytes (records_from n later) None
stops_here bytes n later r after log begins high =
    let rest = log_behind bytes later r after log begins in
    let same : later ≡ records_from n later = rest.1.0 ∙ sym (from_here n r rest.0 high) ∙ ap (records_from n) (sym rest.1.0) in
    subst (λ (records : List Rec). IsLog bytes records None) same log

pub stops_last : (bytes : List ℕ) (n : ℕ) (later : List Rec) → IsLog bytes later None → IsUnspelled bytes → IsLog bytes (records_from n later) None
stops_last bytes n later log none =
    let same : later ≡ [] = log_ends bytes later log none in
    let from : later ≡ records_from n later = same ∙ ap (records_from n) (sym same) in
    subst (λ (records : List Rec). IsLog bytes records None) from log
