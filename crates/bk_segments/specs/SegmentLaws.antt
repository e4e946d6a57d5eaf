-- The segments of a log, one behind the other.
use Rattle.std.proofs.Common.{◌≡◌, ◌⊎◌, ◌≤◌, ◌<◌, ℕ, zero, suc, ◌+◌, ◌-◌, List, [], ◌∷◌, ◌++◌, length, drop, Some, refl, inl, inr, sym, ap, subst, ◌∙◌, arith, append_assoc}
use Rattle.std.specs.Prelude.{slice_get, string_bytes}
use Rattle.std.proofs.lemmas.List.{append-nil}
use Rattle.std.proofs.lemmas.Option.{slice_get_within}
use Rattle.bk_device.specs.Disk.{Files}
use Rattle.bk_segments.specs.declared.head.Head.{Head}
use Rattle.bk_segments.specs.declared.segments.Segment.{Segment}
use Rattle.bk_segments.specs.Records.{IsRun}
use Rattle.bk_segments.specs.Files.{segment_file, blobs_at, blobs_from, blobs_of, AreSegments, BeginsAt, IsAdded}
use Rattle.bk_segments.specs.RunLaws.{run_split}
use Rattle.bk_segments.specs.FileLaws.{from_same}

-- ---- elements of lists

get_added : {A : Type 0} (xs : List A) (y x : A) (i : ℕ) → slice_get (xs ++ y ∷ []) i ≡ Some x → (slice_get xs i ≡ Some x) ⊎ (i ≡ length xs) × (x ≡ y)
get_added [] y x zero there = inr (refl, cc)
get_added [] y x (suc i) there = absurd cc
get_added (z ∷ xs) y x zero there = inl there
get_added (z ∷ xs) y x (suc i) there = elim (get_added xs y x i there) [ inl before ↦ inl before | inr last ↦ inr (ap suc last.0, last.1) ]

pub get_dropped : {A : Type 0} (xs : List A) (k i n : ℕ) (x : A) → n ≡ k + i → slice_get (drop k xs) i ≡ Some x → slice_get xs n ≡ Some x
get_dropped xs zero i n x e there = ap (slice_get xs) (omega (arith, e)) ∙ there
get_dropped [] (suc k) i n x e there = absurd cc
get_dropped (y ∷ xs) (suc k) i zero x e there = absurd (omega (arith, e))
get_dropped (y ∷ xs) (suc k) i (suc n) x e there = get_dropped xs k i n x (omega (arith, e)) there

-- ---- blobs

pub from_split : (blobs : ℕ → List (List ℕ)) (front k i n : ℕ) → n ≡ k + i → blobs_from blobs front n ≡ blobs_from blobs front k ++ blobs_from blobs (front + k) i
from_split blobs front k zero n e =
    let same : n ≡ k = omega (arith, e) in
    ap (blobs_from blobs front) same ∙ sym (append-nil (blobs_from blobs front k))
from_split blobs front k (suc i) zero e = absurd (omega (arith, e))
from_split blobs front k (suc i) (suc n) e =
    let at : front + n ≡ front + k + i = omega (arith, e) in
    ap (λ (bs : List (List ℕ)). bs ++ blobs (front + n)) (from_split blobs front k i n (omega (arith, e)))
    ∙ append_assoc (blobs_from blobs front k) (blobs_from blobs (front + k) i) (blobs (front + n))
    ∙ ap (λ (m : ℕ). blobs_from blobs front k ++ (blobs_from blobs (front + k) i ++ blobs m)) at

-- the blobs that count are those of the first segments and those of the others
pub blobs_split : (files : Files) (db k : ℕ) (head : Head) → head.front + k ≤ head.back → blobs_of files db head ≡ blobs_from (blobs_at files db) head.front k ++ blobs_of files db (record head { front = head.front + k })
blobs_split files db k head within =
    let sum : head.back - head.front ≡ k + (head.back - (head.front + k)) = omega (arith, within) in
    ap (λ (bs : List (List ℕ)). bs ++ blobs_at files db head.back) (from_split (blobs_at files db) head.front k (head.back - (head.front + k)) (head.back - head.front) sum)
    ∙ append_assoc (blobs_from (blobs_at files db) head.front k) (blobs_from (blobs_at files db) (head.front + k) (head.back - (head.front + k))) (blobs_at files db head.back)

-- ---- segments

-- segments that begin where others do
pub segments_same : (one two : ℕ → List (List ℕ)) (db front first : ℕ) (segments : List Segment) → AreSegments one db front first segments → ((n : ℕ) → front ≤ n → n + 1 < front + length segments → two n ≡ one n) → AreSegments two db front first segments
segments_same one two db front first segments are same = record {
  names = are.names;
  runs = λ i s there.
      subst (λ (bs : List (List ℕ)). IsRun first bs s.first)
      (sym (from_same one two front i (λ n low high. same n low (omega (arith, high, slice_get_within segments i s there))))) (are.runs i s there);
}

-- none, and one more
pub segments_none : (blobs : ℕ → List (List ℕ)) (db front first : ℕ) → AreSegments blobs db front first []
segments_none blobs db front first = record { names = λ i s there. absurd cc; runs = λ i s there. absurd cc }

pub segments_added : (blobs : ℕ → List (List ℕ)) (db front first n at : ℕ) (old new : List Segment) → AreSegments blobs db front first old → n ≡ front + length old → IsRun first (blobs_from blobs front (length old)) at → IsAdded old new db n at → AreSegments blobs db front first new
segments_added blobs db front first n at old new are place run added =
    let both : AreSegments blobs db front first (old ++ added.0 ∷ []) = record {
      names = λ i s there. elim (get_added old added.0 s i there) [
        | inl before ↦ are.names i s before
        | inr last ↦
            let number : n ≡ front + i = omega (arith, place, last.0) in
            ap (λ (x : Segment). string_bytes x.name) last.1 ∙ added.2 ∙ ap (segment_file db) number
      ];
      runs = λ i s there. elim (get_added old added.0 s i there) [
        | inl before ↦ are.runs i s before
        | inr last ↦
            let here : at ≡ s.first = sym (ap (λ (x : Segment). x.first) last.1 ∙ added.3) in
            subst (λ (m : ℕ). IsRun first (blobs_from blobs front m) s.first) (sym last.0) (subst (IsRun first (blobs_from blobs front (length old))) here run)
      ];
    } in
    subst (AreSegments blobs db front first) (sym added.1) both

-- the last ones
pub segments_dropped : (blobs : ℕ → List (List ℕ)) (db front first k : ℕ) (s : Segment) (segments : List Segment) → AreSegments blobs db front first segments → slice_get segments k ≡ Some s → AreSegments blobs db (front + k) s.first (drop k segments)
segments_dropped blobs db front first k s segments are here = record {
  names = λ i t there.
      let sum : front + (k + i) ≡ front + k + i = omega arith in
      are.names (k + i) t (get_dropped segments k i (k + i) t refl there) ∙ ap (segment_file db) sum;
  runs = λ i t there.
      run_split first s.first t.first (blobs_from blobs front k) (blobs_from blobs (front + k) i) (are.runs k s here)
      (subst (λ (bs : List (List ℕ)). IsRun first bs t.first) (from_split blobs front k i (k + i) refl) (are.runs (k + i) t (get_dropped segments k i (k + i) t refl there)));
}

-- ---- counting those below a number

-- so many lie below the number, of those that were looked at
pub record Below (segments : List Segment) (to count i : ℕ) : Type 0 where
  pub low : count < i
  pub within : (count ≡ 0 → ⊥) → count < length segments
  pub first : (n : ℕ) → (count ≡ 0 → ⊥) → BeginsAt segments count n → n ≤ to
  pub rest : (k n : ℕ) → count < k → k < i → BeginsAt segments k n → to < n
