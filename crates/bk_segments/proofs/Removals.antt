-- What removing segments did to the device.
use Rattle.std.proofs.Common.{◌≡◌, ◌≤◌, ◌<◌, ◌⊎◌, ℕ, zero, suc, ◌+◌, List, [], ◌∷◌, length, Some, None, refl, inl, inr, sym, ap, subst, ◌∙◌, arith}
use Rattle.bk_device.specs.Calls.{ChangesNothing}
use Rattle.bk_device.specs.Compose.{effect_then, effect_widen, effect_none}
use Rattle.bk_device.specs.Disk.{Files, Disk, IsLawful}
use Rattle.bk_device.specs.Effects.{Effect, IsName}
use Rattle.bk_device.specs.Laws.{nothing_then}
use Rattle.bk_device.specs.Names.{same_or_other}
use Rattle.std.specs.Prelude.{slice_get, string_bytes}
use Rattle.bk_segments.specs.declared.head.Head.{Head}
use Rattle.bk_segments.specs.declared.segments.Segment.{Segment}
use Rattle.bk_segments.specs.Files.{segment_file, HasNoRest, IsBeside, IsBetween, IsNamed}

-- none was removed yet
pub between_none : (db from to : ℕ) (a : Disk) → Effect (IsBetween db from to) (λ _. Unit {0}) a a
between_none db from to a = effect_none a (λ image mine. tt)

-- one more was removed
pub between_more : (db from to n : ℕ) (a b c : Disk) → from ≤ n → n < to → Effect (IsBetween db from to) (λ _. Unit {0}) a b → Effect (IsName (segment_file db n)) (λ _. Unit {0}) b c → Effect (IsBetween db from to) (λ _. Unit {0}) a c
between_more db from to n a b c low high so_far more = effect_then so_far (effect_widen (λ name at. (n, low, high, at)) (λ image here left. tt) more)

pub gone_more : {P : Files → Type 0} (db from n : ℕ) (b c : Disk) → ((m : ℕ) → from ≤ m → m < n → b.files (segment_file db m) ≡ None) → Effect (IsName (segment_file db n)) P b c → c.files (segment_file db n) ≡ None
    → (m : ℕ) → from ≤ m → m < n + 1 → c.files (segment_file db m) ≡ None
gone_more db from n b c so_far effect gone m low high = elim (same_or_other (segment_file db n) (segment_file db m)) [
  | inl same ↦ subst (λ (name : List ℕ). c.files name ≡ None) (sym same) gone
  | inr other ↦ effect.others (segment_file db m) other ∙ so_far m low (omega (arith, high, differ db m n other))
]
  where
    differ : (db m n : ℕ) → (segment_file db m ≡ segment_file db n → ⊥) → (m ≡ n → ⊥)
    differ db m n other same = other (ap (segment_file db) same)

-- none was there
pub still_more : (db from to n : ℕ) {a b c : Disk} → IsLawful a → ((m : ℕ) → from ≤ m → m < to → a.files (segment_file db m) ≡ None) → from ≤ n → n < to → ChangesNothing a b → (b.files (segment_file db n) ≡ None → ChangesNothing b c) → ChangesNothing a c
still_more db from to n lawful none low high so_far more = nothing_then lawful so_far (more (so_far.files (segment_file db n) ∙ none n low high))

-- ---- removing segments by their names

-- none was removed yet
pub named_none : (segments : List Segment) (a : Disk) → Effect (IsNamed segments) (λ _. Unit {0}) a a
named_none segments a = effect_none a (λ image mine. tt)

segment_at : (segments : List Segment) (i : ℕ) → i < length segments → (s : Segment) × (slice_get segments i ≡ Some s)
segment_at [] i below = absurd (omega (arith, below))
segment_at (s ∷ segments) zero below = (s, refl)
segment_at (s ∷ segments) (suc i) below = segment_at segments i (omega (arith, below))

-- one more was removed
pub named_more : (segments : List Segment) (i : ℕ) (a b c : Disk) → i < length segments → Effect (IsNamed segments) (λ _. Unit {0}) a b → ((s : Segment) → slice_get segments i ≡ Some s → Effect (IsName (string_bytes s.name)) (λ _. Unit {0}) b c) → Effect (IsNamed segments) (λ _. Unit {0}) a c
named_more segments i a b c below so_far more =
    let here = segment_at segments i below in
    effect_then so_far (effect_widen (λ name at. (i, here.0, here.1, at)) (λ image there left. tt) (more here.0 here.1))

pub named_gone : (segments : List Segment) (i : ℕ) (b c : Disk) → i < length segments → ((j : ℕ) (s : Segment) → j < i → slice_get segments j ≡ Some s → b.files (string_bytes s.name) ≡ None)
    → ((s : Segment) → slice_get segments i ≡ Some s → Effect (IsName (string_bytes s.name)) (λ _. Unit {0}) b c) → ((s : Segment) → slice_get segments i ≡ Some s → c.files (string_bytes s.name) ≡ None)
    → (j : ℕ) (s : Segment) → j < i + 1 → slice_get segments j ≡ Some s → c.files (string_bytes s.name) ≡ None
named_gone segments i b c below so_far more gone j s low there =
    let here = segment_at segments i below in
    elim (same_or_other (string_bytes here.0.name) (string_bytes s.name)) [
      | inl same ↦ subst (λ (name : List ℕ). c.files name ≡ None) (sym same) (gone here.0 here.1)
      | inr other ↦ (more here.0 here.1).others (string_bytes s.name) other ∙ so_far j s (omega (arith, low, differ segments i j here.0 s here.1 there other)) there
    ]
  where
    differ : (segments : List Segment) (i j : ℕ) (x s : Segment) → slice_get segments i ≡ Some x → slice_get segments j ≡ Some s → (string_bytes s.name ≡ string_bytes x.name → ⊥) → (j ≡ i → ⊥)
    differ segments i j x s here there other same =
        let both : Some s ≡ Some x = sym there ∙ ap (slice_get segments) same ∙ here in
        let one : s ≡ x = cc in
        other (ap (λ (y : Segment). string_bytes y.name) one)

-- ---- removing what doesn't count

pub beside_first : (db : ℕ) (head : Head) (a b : Disk) → head.front ≤ head.back → Effect (IsBetween db head.gone head.front) (λ _. Unit {0}) a b → Effect (IsBeside db head) (λ _. Unit {0}) a b
beside_first db head a b order effect = effect_widen (λ name at. (at.0, omega (arith, at.2, order), inl at.2, at.3)) (λ image here left. tt) effect

pub beside_second : (db : ℕ) (head : Head) (a b c : Disk) → head.front ≤ head.back → Effect (IsBetween db head.gone head.front) (λ _. Unit {0}) a b → Effect (IsName (segment_file db (head.back + 1))) (λ _. Unit {0}) b c → Effect (IsBeside db head) (λ _. Unit {0}) a c
beside_second db head a b c order first second =
    effect_then (beside_first db head a b order first) (effect_widen (λ name at. (head.back + 1, omega arith, inr (omega arith), at)) (λ image here left. tt) second)

-- and then none of these is there
pub beside_gone : {P : Files → Type 0} (db : ℕ) (head : Head) (b c : Disk) → ((n : ℕ) → head.gone ≤ n → n < head.front → b.files (segment_file db n) ≡ None) → Effect (IsName (segment_file db (head.back + 1))) P b c → c.files (segment_file db (head.back + 1)) ≡ None
    → (n : ℕ) → head.gone ≤ n → n ≤ head.back + 1 → (n < head.front) ⊎ (head.back < n) → c.files (segment_file db n) ≡ None
beside_gone db head b c first effect gone n low high beside = elim (same_or_other (segment_file db (head.back + 1)) (segment_file db n)) [
  | inl same ↦ subst (λ (name : List ℕ). c.files name ≡ None) (sym same) gone
  | inr other ↦ effect.others (segment_file db n) other ∙ first n low (elim beside [
    | inl below ↦ below
    | inr behind ↦ let same : n ≡ head.back + 1 = omega (arith, behind, high) in absurd (other (ap (segment_file db) same))
  ])
]

-- none was there
pub beside_still : (db : ℕ) (head : Head) {a b c : Disk} → IsLawful a → HasNoRest a.files db head → (((n : ℕ) → head.gone ≤ n → n < head.front → a.files (segment_file db n) ≡ None) → ChangesNothing a b) → (b.files (segment_file db (head.back + 1)) ≡ None → ChangesNothing b c) → ChangesNothing a c
beside_still db head lawful none first second =
    let call = first none.below in
    nothing_then lawful call (second (call.files (segment_file db (head.back + 1)) ∙ none.behind))
