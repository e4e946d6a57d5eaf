-- The records of a blob that is whole records alone, and what a walk over it has found.
use Rattle.std.proofs.Common.{◌≡◌, ◌≤◌, ◌<◌, ◌^◌, ℕ, zero, suc, ◌+◌, ◌-◌, List, [], ◌∷◌, ◌++◌, length, Option, Some, None, refl, sym, ap, subst, ◌∙◌, arith, append_assoc, length-append}
use Rattle.std.specs.List.{flat_map, AllByRecursion}
use Rattle.std.specs.Option.{option_map_or}
use Rattle.std.proofs.lemmas.List.{append-nil}
use Rattle.std.proofs.lemmas.List.Concat.{flat_map-append}
use Rattle.bk_bytes.specs.Field.{bytes_of}
use Rattle.bk_bytes.specs.FieldLaws.{length-bytes_of}
use Rattle.bk_record.specs.Rec.{Rec}
use Rattle.bk_record.specs.declared.walk.BadRecord.{BadRecord}
use Rattle.bk_record.specs.Laws.{record_read, record_again}
use Rattle.bk_record.specs.Log.{Left, Reads, BreaksOff, IsLog}
use Rattle.bk_record.specs.Reading.{record_form}
use Rattle.bk_record.specs.Spelling.{spelling, inside, IsRecord}
use Rattle.bk_record.specs.WalkLaws.{Walked, walked_more, walked_bad, one_log}
use Rattle.bk_record.specs.RecordsLaws.{all_more}
use Rattle.bk_segments.specs.Records.{records_from, records_in, IsBatch, Numbered, IsPart}

-- ---- reading what is spelled

-- a spelling isn't empty
spelling_some : (r : Rec) → 1 ≤ length (spelling r)
unfolding spelling
spelling_some r = omega (arith, length-append (bytes_of 4 (4 + length (inside r))) (inside r), length-bytes_of 4 (4 + length (inside r)))

spelled_length : (rs : List Rec) → length rs ≤ length (flat_map spelling rs)
spelled_length [] = omega arith
spelled_length (r ∷ rs) = omega (arith, spelling_some r, spelled_length rs, length-append (spelling r) (flat_map spelling rs))

unread_from : (o : Option (Rec × List ℕ)) → record_form.reading [] ≡ o → o ≡ None
unread_from None e = refl
unread_from (Some x) e =
    let begins = record_read [] x.0 x.1 (λ i. omega arith) e in
    absurd (omega (arith, ap length begins.spelled, length-append (spelling x.0) x.1, spelling_some x.0))

-- of no bytes nothing is read
unread : record_form.reading [] ≡ None
unread = unread_from (record_form.reading []) refl

none_from : (n : ℕ) → records_from n [] ≡ []
none_from zero = refl
none_from (suc n) = ap (λ (o : Option (Rec × List ℕ)). option_map_or (λ x. x.0 ∷ records_from n x.1) o []) unread

-- spelled records are read, and then what follows them
read_front : (n m : ℕ) (rs : List Rec) (rest : List ℕ) → AllByRecursion IsRecord rs → n ≡ length rs + m → records_from n (flat_map spelling rs ++ rest) ≡ rs ++ records_from m rest
read_front n m [] rest all e = ap (λ (k : ℕ). records_from k rest) (omega (arith, e))
read_front zero m (r ∷ rs) rest all e = absurd (omega (arith, e))
read_front (suc n) m (r ∷ rs) rest all e =
    let read : record_form.reading ((spelling r ++ flat_map spelling rs) ++ rest) ≡ Some (r, flat_map spelling rs ++ rest) =
    ap record_form.reading (append_assoc (spelling r) (flat_map spelling rs) rest) ∙ record_again r (flat_map spelling rs ++ rest) all.0 in
    let tail : records_from n (flat_map spelling rs ++ rest) ≡ rs ++ records_from m rest = read_front n m rs rest all.1 (omega (arith, e)) in
    ap (λ (o : Option (Rec × List ℕ)). option_map_or (λ x. x.0 ∷ records_from n x.1) o []) read ∙ ap (λ (t : List Rec). r ∷ t) tail

-- bytes that begin with spelled records have those records first
pub front_of : (whole : List ℕ) (rs : List Rec) (rest : List ℕ) → whole ≡ flat_map spelling rs ++ rest → AllByRecursion IsRecord rs → (tail : List Rec) × (records_in whole ≡ rs ++ tail)
unfolding records_in
front_of whole rs rest spelled all =
    let enough : length rs ≤ length whole = omega (arith, spelled_length rs, ap length spelled, length-append (flat_map spelling rs) rest) in (
      records_from (length whole - length rs) rest,
      ap (records_from (length whole)) spelled ∙ read_front (length whole) (length whole - length rs) rs rest all (omega (arith, enough)),
    )

-- spelled records alone are those records
pub whole_of : (whole : List ℕ) (rs : List Rec) → whole ≡ flat_map spelling rs → AllByRecursion IsRecord rs → records_in whole ≡ rs
unfolding records_in
whole_of whole rs spelled all =
    let enough : length rs ≤ length whole = omega (arith, spelled_length rs, ap length spelled) in
    ap (records_from (length whole)) (spelled ∙ sym (append-nil (flat_map spelling rs)))
    ∙ read_front (length whole) (length whole - length rs) rs [] all (omega (arith, enough))
    ∙ ap (λ (t : List Rec). rs ++ t) (none_from (length whole - length rs))
    ∙ append-nil rs

-- and are a batch
pub batch_of : (whole : List ℕ) (rs : List Rec) → whole ≡ flat_map spelling rs → AllByRecursion IsRecord rs → IsBatch whole
batch_of whole rs spelled all =
    let same : records_in whole ≡ rs = whole_of whole rs spelled all in
    record { spelled = spelled ∙ ap (flat_map spelling) (sym same); are_records = subst (AllByRecursion IsRecord) (sym same) all }

-- ---- numbers

pub numbered_append : (n : ℕ) (a b : List Rec) → Numbered n a → Numbered (n + length a) b → Numbered n (a ++ b)
numbered_append n [] b here there = subst (λ (k : ℕ). Numbered k b) (omega arith) there
numbered_append n (r ∷ a) b here there = (here.0, numbered_append (n + 1) a b here.1 (subst (λ (k : ℕ). Numbered k b) (omega arith) there))

pub numbered_split : (n : ℕ) (a b : List Rec) → Numbered n (a ++ b) → Numbered n a × Numbered (n + length a) b
numbered_split n [] b both = (tt, subst (λ (k : ℕ). Numbered k b) (omega arith) both)
numbered_split n (r ∷ a) b both =
    let rest = numbered_split (n + 1) a b both.1 in
    ((both.0, rest.0), subst (λ (k : ℕ). Numbered k b) (omega arith) rest.1)

-- ---- a part

-- no bytes have no record
pub records_none : records_in [] ≡ []
unfolding records_in
records_none = refl

-- no bytes are a part without a record
pub part_none : (n : ℕ) → IsPart n [] n
unfolding records_in
part_none n = record { batch = record { spelled = refl; are_records = tt }; numbered = tt; ends = omega arith }

spelled_more : (rs : List Rec) (r : Rec) → flat_map spelling (rs ++ r ∷ []) ≡ flat_map spelling rs ++ spelling r
spelled_more rs r = flat_map-append spelling rs (r ∷ []) ∙ ap (λ (s : List ℕ). flat_map spelling rs ++ s) (append-nil (spelling r))

-- the records of a part and one more
pub records_more : (blob : List ℕ) (r : Rec) → IsBatch blob → IsRecord r → records_in (blob ++ spelling r) ≡ records_in blob ++ r ∷ []
records_more blob r batch is =
    whole_of (blob ++ spelling r) (records_in blob ++ r ∷ []) (ap (λ (b : List ℕ). b ++ spelling r) batch.spelled ∙ sym (spelled_more (records_in blob) r)) (all_more (records_in blob) r batch.are_records is)

pub part_more : (from to : ℕ) (blob : List ℕ) (r : Rec) → IsPart from blob to → IsRecord r → r.lsn ≡ to → IsPart from (blob ++ spelling r) (to + 1)
part_more from to blob r part is number =
    let more : records_in (blob ++ spelling r) ≡ records_in blob ++ r ∷ [] = records_more blob r part.batch is in
    let numbered : Numbered from (records_in blob ++ r ∷ []) = numbered_append from (records_in blob) (r ∷ []) part.numbered (number ∙ part.ends, tt) in
    let size : length (records_in blob ++ r ∷ []) ≡ length (records_in blob) + 1 = length-append (records_in blob) (r ∷ []) in
    record {
      batch = batch_of (blob ++ spelling r) (records_in blob ++ r ∷ []) (ap (λ (b : List ℕ). b ++ spelling r) part.batch.spelled ∙ sym (spelled_more (records_in blob) r)) (all_more (records_in blob) r part.batch.are_records is);
      numbered = subst (Numbered from) (sym more) numbered;
      ends = omega (arith, part.ends, size, ap length more);
    }

-- ---- a walk over a blob

-- these records lie behind a walk, with the numbers from one on
pub record Counted (from : ℕ) (whole : List ℕ) (at : ℕ) (left : Left) : Type 0 where
  pub records : List Rec
  pub walked : Walked whole records left
  pub numbered : Numbered from records
  pub place : at ≡ from + length records

pub counted_more : (from : ℕ) (whole : List ℕ) (at : ℕ) (old new : Left) (r : Rec) → Counted from whole at old → Reads old r new → r.lsn ≡ at → Counted from whole (at + 1) new
counted_more from whole at old new r is step number = record {
  records = is.records ++ r ∷ [];
  walked = walked_more whole is.records old new r is.walked step;
  numbered = numbered_append from is.records (r ∷ []) is.numbered (number ∙ is.place, tt);
  place = omega (arith, is.place, length-append is.records (r ∷ []));
}

-- the walk came to the end
pub counted_whole : (from : ℕ) (whole : List ℕ) (at : ℕ) (left : Left) → Counted from whole at left → left.bytes ≡ [] → IsPart from whole at
counted_whole from whole at left is done =
    let spelled : whole ≡ flat_map spelling is.records = is.walked.spelled ∙ ap (λ (b : List ℕ). flat_map spelling is.records ++ b) done ∙ append-nil (flat_map spelling is.records) in
    let same : records_in whole ≡ is.records = whole_of whole is.records spelled is.walked.are_records in
    record {
      batch = batch_of whole is.records spelled is.walked.are_records;
      numbered = subst (Numbered from) (sym same) is.numbered;
      ends = is.place ∙ ap (λ (rs : List Rec). from + length rs) (sym same);
    }

-- a record with another number was met, or with the greatest number of all
pub counted_other : (from : ℕ) (whole : List ℕ) (at to : ℕ) (old new : Left) (r : Rec) → Counted from whole at old → Reads old r new → (r.lsn ≡ at → 2 ^ 64 ≤ at + 1) → IsPart from whole to → to < 2 ^ 64 → ⊥
counted_other from whole at to old new r is step other part small =
    let more = walked_more whole is.records old new r is.walked step in
    let front = front_of whole (is.records ++ r ∷ []) new.bytes more.spelled more.are_records in
    let split = numbered_split from (is.records ++ r ∷ []) front.0 (subst (Numbered from) front.1 part.numbered) in
    let here = numbered_split from is.records (r ∷ []) split.0 in
    let number : r.lsn ≡ at = here.1.0 ∙ sym is.place in
    absurd (omega (arith, other number, is.place, part.ends, small, ap length front.1, length-append (is.records ++ r ∷ []) front.0, length-append is.records (r ∷ [])))

-- no record was met
pub counted_bad : (from : ℕ) (whole : List ℕ) (at : ℕ) (old new : Left) (e : BadRecord) → Counted from whole at old → BreaksOff old e new → IsBatch whole → ⊥
counted_bad from whole at old new e is step batch =
    let bad = walked_bad whole is.records old new e is.walked step in
    let whole_log : IsLog whole (records_in whole) None = record { rest = []; spelled = batch.spelled ∙ sym (append-nil (flat_map spelling (records_in whole))); are_records = batch.are_records; ends = refl } in
    let both = one_log whole is.records (records_in whole) (Some e.at) None bad whole_log in
    let differ = both.1 in
    absurd cc
