-- Where a text is cut between characters.
use Rattle.std.proofs.Common.{◌≡◌, ◌<◌, ◌≤◌, ℕ, zero, suc, Bool, true, false, cond, List, length, take, leb, refl, sym, ◌∙◌, ap, subst, arith}
use Rattle.std.specs.Prelude.{slice_index}
use Rattle.std.specs.Str.{IsCharBoundary}
use Rattle.std.specs.Fmt.{is_char_start}
use Rattle.std.specs.Fmt.Cut.{floor_char_boundary}
use Rattle.std.proofs.lemmas.Bool.Decides.{nat_tests}
use Rattle.bk_machine.specs.statements.CreateDatabase.{text_front}

-- a byte begins a character or not
starts : (b : ℕ) → (128 ≤ b → 192 ≤ b) → is_char_start b ≡ true
starts b h = by (leb 128 b) refl
  where
    by : (t : Bool) → leb 128 b ≡ t → is_char_start b ≡ true
    by true e =
        let high : 128 ≤ b = grind (arith, nat_tests, e) in
        let top : 192 ≤ b = h high in
        grind (arith, nat_tests, high, top)
    by false e = grind (arith, nat_tests, e)

continues : (b : ℕ) → ((128 ≤ b → 192 ≤ b) → ⊥) → is_char_start b ≡ false
continues b h = by (leb 128 b) (leb 192 b) refl refl
  where
    by : (t s : Bool) → leb 128 b ≡ t → leb 192 b ≡ s → is_char_start b ≡ false
    by true false e f = grind (arith, nat_tests, e, f)
    by true true e f =
        let top : 192 ≤ b = grind (arith, nat_tests, f) in
        absurd (h (λ _. top))
    by false s e f =
        let low : b < 128 = grind (arith, nat_tests, e) in
        absurd (h (λ high. absurd (omega (arith, low, high))))

-- the last boundary at i or below is the one that is found
floor-is : (bs : List ℕ) (i kept : ℕ) → i < length bs → kept ≤ i → IsCharBoundary bs kept → ((j : ℕ) → kept < j → j ≤ i → IsCharBoundary bs j → ⊥) → floor_char_boundary bs i ≡ kept
unfolding floor_char_boundary
floor-is bs zero kept within le at none = omega arith
floor-is bs (suc i) kept within le at none = by (λ below. floor-is bs i kept (omega (arith, within)) below at (λ j p q. none j p (omega (arith, q)))) (leb kept i) refl
  where
    by : (kept ≤ i → floor_char_boundary bs i ≡ kept) → (t : Bool) → leb kept i ≡ t → cond (is_char_start (slice_index bs (suc i))) (suc i) (floor_char_boundary bs i) ≡ kept
    by lower true e =
        let below : kept ≤ i = grind (arith, nat_tests, e) in
        let no : is_char_start (slice_index bs (suc i)) ≡ false = continues (slice_index bs (suc i)) (λ h. none (suc i) (omega (arith, below)) (omega arith) (omega (arith, within), λ _. h)) in
        ap (λ t. cond t (suc i) (floor_char_boundary bs i)) no ∙ lower below
    by lower false e =
        let same : kept ≡ suc i = grind (arith, nat_tests, e, le) in
        let here : IsCharBoundary bs (suc i) = let P : ℕ → Type 0 = IsCharBoundary bs in subst P same at in
        let yes : is_char_start (slice_index bs (suc i)) ≡ true = starts (slice_index bs (suc i)) (here.1 within) in
        ap (λ t. cond t (suc i) (floor_char_boundary bs i)) yes ∙ sym same

-- so a text that is too long is cut there
pub front-cut : (text : List ℕ) (kept : ℕ) → 60 < length text → kept ≤ 60 → IsCharBoundary text kept → ((j : ℕ) → kept < j → j ≤ 60 → IsCharBoundary text j → ⊥) → text_front 60 text ≡ take kept text
front-cut text kept long le at none =
    let no : leb (length text) 60 ≡ false = grind (arith, nat_tests, long) in
    ap (λ t. cond t text (take (floor_char_boundary text 60) text)) no ∙ ap (λ n. take n text) (floor-is text 60 kept long le at none)
