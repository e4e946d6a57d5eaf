-- Blobs that are whole records with numbers that follow each other.
use Rattle.std.proofs.Common.{◌≡◌, ◌≤◌, ◌<◌, ◌^◌, ℕ, zero, suc, ◌+◌, ◌-◌, List, [], ◌∷◌, ◌++◌, length, drop, refl, sym, ap, subst, ◌∙◌, arith, append_assoc, length-append, add-one}
use Rattle.std.specs.List.{AllByRecursion}
use Rattle.std.proofs.lemmas.List.{append-nil, drop_all}
use Rattle.std.proofs.lemmas.List.Concat.{flat_map-append}
use Rattle.bk_record.specs.Rec.{Rec}
use Rattle.bk_segments.specs.Files.{blobs_from}
use Rattle.bk_segments.specs.Records.{records_in, records_of, IsBatch, Numbered, IsPart, IsRun}
use Rattle.bk_segments.specs.BatchLaws.{numbered_append, numbered_split, part_none, records_none}

-- ---- parts of lists

pub all_append : (a b : List (List ℕ)) → AllByRecursion IsBatch a → AllByRecursion IsBatch b → AllByRecursion IsBatch (a ++ b)
all_append [] b here there = there
all_append (x ∷ a) b here there = (here.0, all_append a b here.1 there)

pub all_split : (a b : List (List ℕ)) → AllByRecursion IsBatch (a ++ b) → AllByRecursion IsBatch a × AllByRecursion IsBatch b
all_split [] b both = (tt, both)
all_split (x ∷ a) b both = let rest = all_split a b both.1 in ((both.0, rest.0), rest.1)

pub records_append : (a b : List (List ℕ)) → records_of (a ++ b) ≡ records_of a ++ records_of b
records_append a b = flat_map-append records_in a b

pub records_one : (blob : List ℕ) → records_of (blob ∷ []) ≡ records_in blob
records_one blob = append-nil (records_in blob)

-- ---- runs

pub run_none : (n : ℕ) → IsRun n [] n
run_none n = record { batches = tt; numbered = tt; ends = omega arith }

pub run_append : (from mid to : ℕ) (a b : List (List ℕ)) → IsRun from a mid → IsRun mid b to → IsRun from (a ++ b) to
run_append from mid to a b first second =
    let both : records_of (a ++ b) ≡ records_of a ++ records_of b = records_append a b in
    let later : Numbered (from + length (records_of a)) (records_of b) = subst (λ (n : ℕ). Numbered n (records_of b)) first.ends second.numbered in
    record {
      batches = all_append a b first.batches second.batches;
      numbered = subst (Numbered from) (sym both) (numbered_append from (records_of a) (records_of b) first.numbered later);
      ends = omega (arith, first.ends, second.ends, ap length both, length-append (records_of a) (records_of b));
    }

pub run_of_part : (from to : ℕ) (blob : List ℕ) → IsPart from blob to → IsRun from (blob ∷ []) to
run_of_part from to blob part = record {
  batches = (part.batch, tt);
  numbered = subst (Numbered from) (sym (records_one blob)) part.numbered;
  ends = part.ends ∙ ap (λ (rs : List Rec). from + length rs) (sym (records_one blob));
}

pub run_more : (from mid to : ℕ) (blobs : List (List ℕ)) (blob : List ℕ) → IsRun from blobs mid → IsPart mid blob to → IsRun from (blobs ++ blob ∷ []) to
run_more from mid to blobs blob run part = run_append from mid to blobs (blob ∷ []) run (run_of_part mid to blob part)

-- a front of a run is one, and the rest too
pub run_split : (from mid to : ℕ) (a b : List (List ℕ)) → IsRun from a mid → IsRun from (a ++ b) to → IsRun mid b to
run_split from mid to a b first whole =
    let both : records_of (a ++ b) ≡ records_of a ++ records_of b = records_append a b in
    let parts = numbered_split from (records_of a) (records_of b) (subst (Numbered from) both whole.numbered) in
    record {
      batches = (all_split a b whole.batches).1;
      numbered = subst (λ (n : ℕ). Numbered n (records_of b)) (sym first.ends) parts.1;
      ends = omega (arith, first.ends, whole.ends, ap length both, length-append (records_of a) (records_of b));
    }

-- the front of a run, whatever its end
pub run_front : (from to : ℕ) (a b : List (List ℕ)) → IsRun from (a ++ b) to → (mid : ℕ) × IsRun from a mid × (mid ≤ to)
run_front from to a b whole =
    let both : records_of (a ++ b) ≡ records_of a ++ records_of b = records_append a b in
    let parts = numbered_split from (records_of a) (records_of b) (subst (Numbered from) both whole.numbered) in (
      from + length (records_of a),
      record { batches = (all_split a b whole.batches).0; numbered = parts.0; ends = refl },
      omega (arith, whole.ends, ap length both, length-append (records_of a) (records_of b)),
    )

part_of_run : (from to : ℕ) (blob : List ℕ) → IsRun from (blob ∷ []) to → IsPart from blob to
part_of_run from to blob run = record {
  batch = run.batches.0;
  numbered = subst (Numbered from) (records_one blob) run.numbered;
  ends = run.ends ∙ ap (λ (rs : List Rec). from + length rs) (records_one blob);
}

-- ---- a blob without a byte

-- it adds no record
pub run_begun : (from to : ℕ) (blobs : List (List ℕ)) → IsRun from blobs to → IsRun from (blobs ++ [] ∷ []) to
run_begun from to blobs run = run_more from to to blobs [] run (part_none to)

pub records_begun : (blobs : List (List ℕ)) → records_of (blobs ++ [] ∷ []) ≡ records_of blobs
records_begun blobs =
    records_append blobs ([] ∷ []) ∙ ap (λ (rs : List Rec). records_of blobs ++ rs) (records_one [] ∙ records_none) ∙ append-nil (records_of blobs)

-- alone it has none
pub none_begun : (n : ℕ) (blobs : List (List ℕ)) → blobs ≡ [] ∷ [] → drop n (records_of blobs) ≡ []
none_begun n blobs one = ap (λ (bs : List (List ℕ)). drop n (records_of bs)) one ∙ ap (drop n) (records_begun []) ∙ drop_all n [] (omega arith)

-- a list with one blob isn't empty, nor is one that has grown
pub one_blob : (blobs : List (List ℕ)) (blob : List ℕ) → blobs ≡ blob ∷ [] → blobs ≡ [] → ⊥
one_blob blobs blob one none = absurd (omega (arith, ap (λ (bs : List (List ℕ)). length bs) (sym one ∙ none)))

pub last_blob : (old new : List (List ℕ)) (blob : List ℕ) → new ≡ old ++ blob ∷ [] → new ≡ [] → ⊥
last_blob old new blob grown none = absurd (omega (arith, ap (λ (bs : List (List ℕ)). length bs) (sym grown ∙ none), length-append old (blob ∷ [])))

-- a blob that doesn't go on with a run ends it
pub run_stuck : (from mid to : ℕ) (blobs : List (List ℕ)) (blob : List ℕ) (rest : List (List ℕ)) → IsRun from blobs mid → ((end : ℕ) → IsPart mid blob end → end < 2 ^ 64 → ⊥) → IsRun from (blobs ++ blob ∷ rest) to → to < 2 ^ 64 → ⊥
run_stuck from mid to blobs blob rest run stuck whole small =
    let split : blobs ++ blob ∷ rest ≡ (blobs ++ blob ∷ []) ++ rest = sym (append_assoc blobs (blob ∷ []) rest) in
    let front = run_front from to (blobs ++ blob ∷ []) rest (subst (λ (bs : List (List ℕ)). IsRun from bs to) split whole) in
    stuck front.0 (part_of_run mid front.0 blob (run_split from mid front.0 blobs (blob ∷ []) run front.1)) (omega (arith, front.2, small))

-- ---- the blobs of segments, one segment after the other

pub segment_next : (blobs : ℕ → List (List ℕ)) (front from mid to i : ℕ) → IsRun from (blobs_from blobs front i) mid → IsRun mid (blobs (front + i)) to → IsRun from (blobs_from blobs front (i + 1)) to
segment_next blobs front from mid to i run here =
    subst (λ (n : ℕ). IsRun from (blobs_from blobs front n) to) (sym (add-one i)) (run_append from mid to (blobs_from blobs front i) (blobs (front + i)) run here)

-- those of the first segments are a front of those of more
segments_front : (blobs : ℕ → List (List ℕ)) (front i more n : ℕ) → n ≡ i + more → (rest : List (List ℕ)) × (blobs_from blobs front n ≡ blobs_from blobs front i ++ rest)
segments_front blobs front i zero n e =
    let same : n ≡ i = omega (arith, e) in
    ([], ap (blobs_from blobs front) same ∙ sym (append-nil (blobs_from blobs front i)))
segments_front blobs front i (suc more) zero e = absurd (omega (arith, e))
segments_front blobs front i (suc more) (suc n) e =
    let fewer = segments_front blobs front i more n (omega (arith, e)) in (
      fewer.0 ++ blobs (front + n),
      ap (λ (bs : List (List ℕ)). bs ++ blobs (front + n)) fewer.1 ∙ append_assoc (blobs_from blobs front i) fewer.0 (blobs (front + n)),
    )

pub segments_stuck : (blobs : ℕ → List (List ℕ)) (front from mid to i count : ℕ) → i < count → IsRun from (blobs_from blobs front i) mid → ((end : ℕ) → IsRun mid (blobs (front + i)) end → end < 2 ^ 64 → ⊥) → IsRun from (blobs_from blobs front count) to → to < 2 ^ 64 → ⊥
segments_stuck blobs front from mid to i count inside run stuck whole small =
    let split = segments_front blobs front (suc i) (count - suc i) count (omega (arith, inside)) in
    let first = run_front from to (blobs_from blobs front (suc i)) split.0 (subst (λ (bs : List (List ℕ)). IsRun from bs to) split.1 whole) in
    stuck first.0 (run_split from mid first.0 (blobs_from blobs front i) (blobs (front + i)) run first.1) (omega (arith, first.2, small))
