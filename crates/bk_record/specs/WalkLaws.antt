-- The steps of a walk over a log.
use Rattle.std.proofs.Common.{◌≡◌, ℕ, ◌+◌, ◌-◌, ◌<◌, ◌≤◌, true, false, eqb, List, [], ◌∷◌, ◌++◌, length, take, drop, Option, Some, None, refl, sym, ap, subst, ◌∙◌, append_assoc, arith, length-append, zero-add}
use Rattle.std.proofs.lemmas.List.{length-drop, length-take, drop-drop, drop_at, drop_all, append-nil}
use Rattle.std.specs.List.{flat_map, AllByRecursion}
use Rattle.std.proofs.lemmas.List.Concat.{flat_map-append}
use Rattle.bk_ids.specs.declared.record.Rec.{Rec}
use Rattle.bk_bytes.specs.Field.{bytes_of}
use Rattle.bk_bytes.specs.FieldLaws.{length-bytes_of}
use Rattle.bk_record.specs.Laws.{one_record}
use Rattle.bk_record.specs.declared.walk.BadRecord.{BadRecord}
use Rattle.bk_record.specs.Spelling.{spelling, inside, IsRecord, BeginsWith, IsUnspelled}
use Rattle.bk_record.specs.Log.{Left, Reads, BreaksOff, Ends, IsLog}

-- what a walk over bytes has left at a place
abbrev pub left_at : List ℕ → ℕ → Left
left_at bytes at = record { bytes = drop at bytes; at = at }

-- the bytes after a record are no longer than the whole
pub after_shorter : (bytes : List ℕ) (at : ℕ) (r : Rec) (after : List ℕ) → BeginsWith (drop at bytes) r after → length after ≤ length bytes
after_shorter bytes at r after h = omega (arith, ap length h.spelled, length-drop at bytes, length-append (spelling r) after)

pub step_reads : (bytes : List ℕ) (at : ℕ) (r : Rec) (after : List ℕ) → at ≤ length bytes → BeginsWith (drop at bytes) r after
    → Reads (left_at bytes at) r (left_at bytes (length bytes - length after))
step_reads bytes at r after within h =
    let size : length bytes - at ≡ length (spelling r) + length after = sym (length-drop at bytes) ∙ ap length h.spelled ∙ length-append (spelling r) after in
    let place : length bytes - length after ≡ at + length (spelling r) = omega arith in
    let rest : drop (length bytes - length after) bytes ≡ after =
    ap (λ (k : ℕ). drop k bytes) place ∙ sym (drop-drop (length (spelling r)) at bytes) ∙ ap (drop (length (spelling r))) h.spelled ∙ drop_at (spelling r) after (length (spelling r)) refl in
    record { begins = record { spelled = rw rest h.spelled; is_record = h.is_record }; at = place }

pub step_breaks : (bytes : List ℕ) (at : ℕ) → false ≡ eqb (length (drop at bytes)) 0 → IsUnspelled (drop at bytes)
    → BreaksOff (left_at bytes at) (record { at = at }) (left_at (take at bytes) at)
step_breaks bytes at some none =
    let past : drop at (take at bytes) ≡ [] = drop_all at (take at bytes) (omega (arith, length-take at bytes)) in
    record {
      at = refl;
      bad = record { some = λ e. let met : false ≡ true = some ∙ ap (λ (b : List ℕ). eqb (length b) 0) e in absurd cc; unspelled = none };
      nothing_left = ap (λ (b : List ℕ). record { bytes = b; at = at }) past;
    }

-- a walk came so far: these records lie behind it
pub record Walked (whole : List ℕ) (records : List Rec) (left : Left) : Type 0 where
  pub spelled : whole ≡ flat_map spelling records ++ left.bytes
  pub are_records : AllByRecursion IsRecord records
  pub at : left.at ≡ length (flat_map spelling records)

pub walked_start : (whole : List ℕ) → Walked whole [] (record { bytes = whole; at = 0 })
walked_start whole = record { spelled = refl; are_records = tt; at = refl }

-- one record more lies behind it
pub walked_more : (whole : List ℕ) (records : List Rec) (old new : Left) (r : Rec) → Walked whole records old → Reads old r new → Walked whole (records ++ r ∷ []) new
walked_more whole records old new r h step =
    let one : flat_map spelling (records ++ r ∷ []) ≡ flat_map spelling records ++ spelling r = flat_map-append spelling records (r ∷ []) ∙ ap (λ (s : List ℕ). flat_map spelling records ++ s) (append-nil (spelling r)) in
    let whole_is : whole ≡ (flat_map spelling records ++ spelling r) ++ new.bytes =
    h.spelled ∙ ap (λ (s : List ℕ). flat_map spelling records ++ s) step.begins.spelled ∙ sym (append_assoc (flat_map spelling records) (spelling r) new.bytes) in
    record {
      spelled = rw one whole_is;
      are_records = all_more records h.are_records step.begins.is_record;
      at = omega (arith, h.at, step.at, ap length one, length-append (flat_map spelling records) (spelling r));
    }
  where
    all_more : (rs : List Rec) → AllByRecursion IsRecord rs → IsRecord r → AllByRecursion IsRecord (rs ++ r ∷ [])
    all_more [] all is = (is, tt)
    all_more (x ∷ xs) all is = (all.0, all_more xs all.1 is)

-- the walk is at its end
pub walked_whole : (whole : List ℕ) (records : List Rec) (left : Left) → Walked whole records left → left.bytes ≡ [] → IsLog whole records None
walked_whole whole records left h done = record { rest = left.bytes; spelled = h.spelled; are_records = h.are_records; ends = done }

-- the walk broke off
pub walked_bad : (whole : List ℕ) (records : List Rec) (old new : Left) (e : BadRecord) → Walked whole records old → BreaksOff old e new → IsLog whole records (Some e.at)
walked_bad whole records old new e h step = record { rest = old.bytes; spelled = h.spelled; are_records = h.are_records; ends = (step.at ∙ h.at, step.bad) }

-- ---- one list of records

-- the records of bytes that begin with a record's spelling begin with that record
log_cons : (bytes : List ℕ) (r : Rec) (records : List Rec) (bad : Option ℕ) (rest : List ℕ) → IsRecord r → AllByRecursion IsRecord records
    → bytes ≡ (spelling r ++ flat_map spelling records) ++ rest → BeginsWith bytes r (flat_map spelling records ++ rest)
log_cons bytes r records bad rest is all spelled = record { spelled = spelled ∙ append_assoc (spelling r) (flat_map spelling records) rest; is_record = is }

no_front : (r : Rec) (a b : List ℕ) → [] ≡ (spelling r ++ a) ++ b → ⊥
unfolding spelling
no_front r a b e = absurd (omega (arith, ap length e, length-append (spelling r ++ a) b, length-append (spelling r) a, length-append (bytes_of 4 (4 + length (inside r))) (inside r), length-bytes_of 4 (4 + length (inside r))))

-- two readings of the same bytes from the same place end alike
same_ends : (at : ℕ) (rest : List ℕ) (bad other : Option ℕ) → Ends at rest bad → Ends at rest other → bad ≡ other
same_ends at rest None None h k = refl
same_ends at rest None (Some q) h k = absurd (k.1.some h)
same_ends at rest (Some p) None h k = absurd (h.1.some k)
same_ends at rest (Some p) (Some q) h k = ap (λ (n : ℕ). Some n) (h.0 ∙ sym k.0)

-- nothing more is read where reading ended
ended : (at : ℕ) (rest : List ℕ) (bad : Option ℕ) (r : Rec) (after : List ℕ) → Ends at rest bad → BeginsWith rest r after → ⊥
ended at rest None r after ends begins = no_front r after [] (sym ends ∙ begins.spelled ∙ sym (append-nil (spelling r ++ after)))
ended at rest (Some place) r after ends begins = ends.1.unspelled r after begins

-- both lists, from some place on
same_from : (from : ℕ) (bytes : List ℕ) (records others : List Rec) (rest behind : List ℕ) (bad other : Option ℕ)
    → bytes ≡ flat_map spelling records ++ rest → AllByRecursion IsRecord records → Ends (from + length (flat_map spelling records)) rest bad
    → bytes ≡ flat_map spelling others ++ behind → AllByRecursion IsRecord others → Ends (from + length (flat_map spelling others)) behind other
    → (records ≡ others) × (bad ≡ other)
same_from from bytes [] [] rest behind bad other p all ends q alls stops =
    let same : rest ≡ behind = sym p ∙ q in
    (refl, same_ends (from + 0) behind bad other (subst (λ (b : List ℕ). Ends (from + 0) b bad) same ends) stops)
same_from from bytes [] (s ∷ others) rest behind bad other p all ends q alls stops =
    absurd (ended (from + 0) rest bad s (flat_map spelling others ++ behind) ends (log_cons rest s others bad behind alls.0 alls.1 (sym p ∙ q)))
same_from from bytes (r ∷ records) [] rest behind bad other p all ends q alls stops =
    absurd (ended (from + 0) behind other r (flat_map spelling records ++ rest) stops (log_cons behind r records bad rest all.0 all.1 (sym q ∙ p)))
same_from from bytes (r ∷ records) (s ∷ others) rest behind bad other p all ends q alls stops =
    let first = one_record r s (flat_map spelling records ++ rest) (flat_map spelling others ++ behind) all.0 alls.0
    (sym (append_assoc (spelling r) (flat_map spelling records) rest) ∙ sym p ∙ q ∙ append_assoc (spelling s) (flat_map spelling others) behind) in
    let place : from + length (spelling r ++ flat_map spelling records) ≡ (from + length (spelling r)) + length (flat_map spelling records) = omega (arith, length-append (spelling r) (flat_map spelling records)) in
    let place' : from + length (spelling s ++ flat_map spelling others) ≡ (from + length (spelling r)) + length (flat_map spelling others) = omega (arith, length-append (spelling s) (flat_map spelling others), ap (λ (x : Rec). length (spelling x)) first.0) in
    let others_same = same_from (from + length (spelling r)) (flat_map spelling records ++ rest) records others rest behind bad other
    refl all.1 (subst (λ (k : ℕ). Ends k rest bad) place ends)
    first.1 alls.1 (subst (λ (k : ℕ). Ends k behind other) place' stops) in
    (rw (first.0, others_same.0) refl, others_same.1)

pub one_log : (bytes : List ℕ) (records others : List Rec) (bad other : Option ℕ) → IsLog bytes records bad → IsLog bytes others other → (records ≡ others) × (bad ≡ other)
one_log bytes records others bad other h k =
    same_from 0 bytes records others h.rest k.rest bad other h.spelled h.are_records (subst (λ (n : ℕ). Ends n h.rest bad) (sym (zero-add _)) h.ends) k.spelled k.are_records (subst (λ (n : ℕ). Ends n k.rest other) (sym (zero-add _)) k.ends)

pub log_of_records : (records : List Rec) → AllByRecursion IsRecord records → IsLog (flat_map spelling records) records None
log_of_records records all = record { rest = []; spelled = sym (append-nil (flat_map spelling records)); are_records = all; ends = refl }

-- a step leaves fewer bytes
pub reads_shorter : (old new : Left) (r : Rec) → Reads old r new → length new.bytes < length old.bytes
unfolding spelling
reads_shorter old new r h = omega (arith, ap length h.begins.spelled, length-append (spelling r) new.bytes, length-append (bytes_of 4 (4 + length (inside r))) (inside r), length-bytes_of 4 (4 + length (inside r)))

-- an error leaves fewer bytes, too
pub breaks_shorter : (old new : Left) (e : BadRecord) → BreaksOff old e new → length new.bytes < length old.bytes
breaks_shorter old new e h = rw h.nothing_left (some_left old.bytes h.bad.some)
  where
    some_left : (bytes : List ℕ) → (bytes ≡ [] → ⊥) → 0 < length bytes
    some_left [] other = absurd (other refl)
    some_left (b ∷ bytes) other = omega arith
