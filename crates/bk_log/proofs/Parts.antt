-- The bytes of records, and parts of them.
use Rattle.std.proofs.Common.{◌≡◌, ◌≤◌, ◌<◌, ℕ, zero, suc, ◌+◌, ◌-◌, List, [], ◌∷◌, ◌++◌, length, take, drop, refl, sym, ap, ◌∙◌, arith, append_assoc, length-append, add-one}
use Rattle.std.specs.List.{flat_map, AllByRecursion}
use Rattle.std.proofs.lemmas.List.{append-nil, drop_at, length-drop, take_all, take_at, take-append-drop, drop-take, take-take}
use Rattle.std.proofs.lemmas.List.Concat.{flat_map-append}
use Rattle.bk_bytes.specs.Field.{bytes_of, number_of}
use Rattle.bk_bytes.specs.FieldLaws.{length-bytes_of, number_of-bytes_of}
use Rattle.bk_ids.specs.declared.record.Rec.{Rec}
use Rattle.bk_record.specs.Spelling.{spelling, inside, IsRecord}
use Rattle.bk_segments.specs.Records.{records_in, records_of, joined, IsBatch}
use Rattle.bk_record.specs.RecordsLaws.{all_records, some_bytes}

-- batches are the spellings of their records
pub joined_spelled : (blobs : List (List ℕ)) → AllByRecursion IsBatch blobs → joined blobs ≡ flat_map spelling (records_of blobs)
joined_spelled [] all = refl
joined_spelled (blob ∷ blobs) all =
    ap (λ (x : List ℕ). x ++ joined blobs) all.0.spelled ∙ ap (λ (x : List ℕ). flat_map spelling (records_in blob) ++ x) (joined_spelled blobs all.1) ∙ sym (flat_map-append spelling (records_in blob) (records_of blobs))

pub records_are : (blobs : List (List ℕ)) → AllByRecursion IsBatch blobs → AllByRecursion IsRecord (records_of blobs)
records_are [] all = tt
records_are (blob ∷ blobs) all = all_records (records_in blob) (records_of blobs) all.0.are_records (records_are blobs all.1)

-- ---- where records begin

-- the length of a record stands at its front
pub length_there : (r : Rec) (rest : List ℕ) → IsRecord r → number_of 4 (spelling r ++ rest) ≡ length (spelling r)
unfolding spelling
length_there r rest is =
    ap (number_of 4) (append_assoc (bytes_of 4 (4 + length (inside r))) (inside r) rest)
    ∙ number_of-bytes_of 4 (4 + length (inside r)) (inside r ++ rest) (omega (arith, is.len))
    ∙ omega (arith, length-append (bytes_of 4 (4 + length (inside r))) (inside r), length-bytes_of 4 (4 + length (inside r)))

-- the record of this index, and what lies around it
cut_out : (rs : List Rec) (i : ℕ) → i < length rs → AllByRecursion IsRecord rs → (r : Rec) × (rest : List Rec) × (rs ≡ take i rs ++ r ∷ rest) × (take (suc i) rs ≡ take i rs ++ r ∷ []) × IsRecord r
cut_out [] i below all = absurd (omega (arith, below))
cut_out (r ∷ rs) zero below all = (r, rs, refl, refl, all.0)
cut_out (r ∷ rs) (suc i) below all =
    let rest = cut_out rs i (omega (arith, below)) all.1 in
    (rest.0, rest.1, ap (λ (x : List Rec). r ∷ x) rest.2, ap (λ (x : List Rec). r ∷ x) rest.3, rest.4)

pub place_next : (bytes : List ℕ) (rs : List Rec) (i at next : ℕ) → bytes ≡ flat_map spelling rs → AllByRecursion IsRecord rs → i < length rs → at ≡ length (flat_map spelling (take i rs))
    → (at + 4 ≤ length bytes → at + number_of 4 (drop at bytes) ≤ length bytes → next ≡ at + number_of 4 (drop at bytes)) → next ≡ length (flat_map spelling (take (i + 1) rs))
place_next bytes rs i at next spelled all below place value =
    let cut = cut_out rs i below all in
    let front : List ℕ = flat_map spelling (take i rs) in
    let rest : List ℕ = flat_map spelling cut.1 in
    let whole : bytes ≡ front ++ (spelling cut.0 ++ rest) = spelled ∙ ap (flat_map spelling) cut.2 ∙ flat_map-append spelling (take i rs) (cut.0 ∷ cut.1) in
    let here : drop at bytes ≡ spelling cut.0 ++ rest = ap (drop at) whole ∙ drop_at front (spelling cut.0 ++ rest) at (sym place) in
    let size : number_of 4 (drop at bytes) ≡ length (spelling cut.0) = ap (number_of 4) here ∙ length_there cut.0 rest cut.4 in
    let all_of : length bytes ≡ length front + (length (spelling cut.0) + length rest) = ap length whole ∙ length-append front (spelling cut.0 ++ rest) ∙ ap (λ (n : ℕ). length front + n) (length-append (spelling cut.0) rest) in
    let more : flat_map spelling (take (i + 1) rs) ≡ front ++ spelling cut.0 =
    ap (λ (n : ℕ). flat_map spelling (take n rs)) (add-one i) ∙ ap (flat_map spelling) cut.3 ∙ flat_map-append spelling (take i rs) (cut.0 ∷ []) ∙ ap (λ (x : List ℕ). front ++ x) (append-nil (spelling cut.0)) in
    let next_is : next ≡ at + number_of 4 (drop at bytes) = value (omega (arith, place, all_of, some_bytes cut.0)) (omega (arith, place, all_of, size)) in
    omega (arith, next_is, place, size, ap length more, length-append front (spelling cut.0))

-- ---- a part of the records

spelled_from : (rs : List Rec) (i : ℕ) → drop (length (flat_map spelling (take i rs))) (flat_map spelling rs) ≡ flat_map spelling (drop i rs)
spelled_from rs i =
    let whole : flat_map spelling rs ≡ flat_map spelling (take i rs) ++ flat_map spelling (drop i rs) = ap (flat_map spelling) (sym (take-append-drop i rs)) ∙ flat_map-append spelling (take i rs) (drop i rs) in
    ap (drop (length (flat_map spelling (take i rs)))) whole ∙ drop_at (flat_map spelling (take i rs)) (flat_map spelling (drop i rs)) (length (flat_map spelling (take i rs))) refl

-- the bytes behind so many records
pub behind_is : (bytes : List ℕ) (rs : List Rec) (i at : ℕ) → bytes ≡ flat_map spelling rs → at ≡ length (flat_map spelling (take i rs)) → drop at bytes ≡ flat_map spelling (drop i rs)
behind_is bytes rs i at spelled place = ap (λ (n : ℕ). drop n bytes) place ∙ ap (drop (length (flat_map spelling (take i rs)))) spelled ∙ spelled_from rs i

pub tail_is : (bytes : List ℕ) (rs : List Rec) (i at : ℕ) → bytes ≡ flat_map spelling rs → at ≡ length (flat_map spelling (take i rs)) → take (length bytes - at) (drop at bytes) ≡ flat_map spelling (drop i rs)
tail_is bytes rs i at spelled place = take_all (length bytes - at) (drop at bytes) (omega (arith, length-drop at bytes)) ∙ behind_is bytes rs i at spelled place

-- the bytes between two records are those of the records between
pub part_spelled : (rs : List Rec) (i j : ℕ) → i ≤ j
    → take (length (flat_map spelling (take j rs)) - length (flat_map spelling (take i rs))) (drop (length (flat_map spelling (take i rs))) (flat_map spelling rs)) ≡ flat_map spelling (take (j - i) (drop i rs))
part_spelled rs i j order =
    let mid : List Rec = take (j - i) (drop i rs) in
    let sum : j ≡ i + (j - i) = omega (arith, order) in
    let split : take j rs ≡ take i rs ++ mid = front_split rs i (j - i) j sum in
    let sizes : length (flat_map spelling (take j rs)) ≡ length (flat_map spelling (take i rs)) + length (flat_map spelling mid) =
    ap (λ (x : List Rec). length (flat_map spelling x)) split ∙ ap length (flat_map-append spelling (take i rs) mid) ∙ length-append (flat_map spelling (take i rs)) (flat_map spelling mid) in
    let size : length (flat_map spelling (take j rs)) - length (flat_map spelling (take i rs)) ≡ length (flat_map spelling mid) = omega (arith, sizes) in
    let rest : flat_map spelling (drop i rs) ≡ flat_map spelling mid ++ flat_map spelling (drop (j - i) (drop i rs)) =
    ap (flat_map spelling) (sym (take-append-drop (j - i) (drop i rs))) ∙ flat_map-append spelling mid (drop (j - i) (drop i rs)) in
    ap (λ (n : ℕ). take n (drop (length (flat_map spelling (take i rs))) (flat_map spelling rs))) size
    ∙ ap (take (length (flat_map spelling mid))) (spelled_from rs i ∙ rest)
    ∙ take_at (flat_map spelling mid) (flat_map spelling (drop (j - i) (drop i rs))) (length (flat_map spelling mid)) refl
  where
    front_split : (rs : List Rec) (i k j : ℕ) → j ≡ i + k → take j rs ≡ take i rs ++ take k (drop i rs)
    front_split rs i k j sum =
        sym (take-append-drop i (take j rs))
        ∙ ap (λ (x : List Rec). x ++ drop i (take j rs)) (take-take i j rs (omega (arith, sum)))
        ∙ ap (λ (x : List Rec). take i rs ++ x) (ap (λ (n : ℕ). drop i (take n rs)) sum ∙ drop-take i k rs)

-- the places of records rise
pub places_rise : (rs : List Rec) (i j : ℕ) → i ≤ j → length (flat_map spelling (take i rs)) ≤ length (flat_map spelling (take j rs))
places_rise rs i j order =
    let split : take j rs ≡ take i rs ++ drop i (take j rs) = sym (take-append-drop i (take j rs)) ∙ ap (λ (x : List Rec). x ++ drop i (take j rs)) (take-take i j rs order) in
    let sizes : length (flat_map spelling (take j rs)) ≡ length (flat_map spelling (take i rs)) + length (flat_map spelling (drop i (take j rs))) =
    ap (λ (x : List Rec). length (flat_map spelling x)) split ∙ ap length (flat_map-append spelling (take i rs) (drop i (take j rs))) ∙ length-append (flat_map spelling (take i rs)) (flat_map spelling (drop i (take j rs))) in
    omega (arith, sizes)
