-- Bits of lists of words, and an index of the words that aren't 0.
use Rattle.std.proofs.Common.{◌≡◌, ◌≢◌, ℕ, ◌+◌, ◌*◌, ◌/◌, ◌%◌, ◌^◌, ◌<◌, List, length, sym, ap, subst, ◌∙◌, arith, ⊎_elim, length-set, get_or-set_same, get_or-set_other, w64}
use Rattle.std.specs.Prelude.{slice_index, slice_set, bit_or, bit_and, replicate}
use Rattle.std.specs.Int.{bit_at, bit_not}
use Rattle.std.proofs.lemmas.Bool.{cases_eq, cases_lt}
use Rattle.std.proofs.lemmas.List.{get_or_past, get_or-replicate, length-replicate}
use Rattle.std.proofs.lemmas.Nat.Bits.{bit_at-zero, bit_at_set_same, bit_at_set_other, bit_at_clear_same, bit_at_clear_other}
use Rattle.bk_groups.specs.Bits.{bit_of, SetsBit, ClearsBit, IsIndex}

-- a word with a bit set
abbrev pub set_in : ℕ → ℕ → ℕ
set_in word k = bit_or word (1 * 2 ^ k % 2 ^ 64)

-- a word with a bit cleared
abbrev pub cleared_in : ℕ → ℕ → ℕ
cleared_in word k = bit_and word (bit_not w64 (1 * 2 ^ k % 2 ^ 64))

-- another bit of the same word has another place in it
apart : (i j : ℕ) → j ≢ i → j / 64 ≡ i / 64 → j % 64 ≢ i % 64
apart i j other same = λ e. other (omega arith)

pub sets_bit : (words : List ℕ) (i : ℕ) → i < 64 * length words → SetsBit words (slice_set words (i / 64) (set_in (slice_index words (i / 64)) (i % 64))) i
sets_bit words i within =
    let w = i / 64 in
    let word = set_in (slice_index words w) (i % 64) in
    let inside : w < length words = omega arith in
    let low : i % 64 < 64 = omega arith in
    record {
      len = length-set words w word;
      bit = ap (λ n. bit_at n (i % 64)) (get_or-set_same words w word 0 inside) ∙ bit_at_set_same w64 (slice_index words w) (i % 64) low;
      others = λ j other. ⊎_elim
          (λ same. ap (λ k. bit_at (slice_index (slice_set words w word) k) (j % 64)) same
          ∙ ap (λ n. bit_at n (j % 64)) (get_or-set_same words w word 0 inside)
          ∙ bit_at_set_other w64 (slice_index words w) (i % 64) low (j % 64) (apart i j other same)
          ∙ ap (λ k. bit_at (slice_index words k) (j % 64)) (sym same))
          (λ differ. ap (λ n. bit_at n (j % 64)) (get_or-set_other words w (j / 64) word 0 differ))
          (cases_eq (j / 64) w);
      words = λ k differ. get_or-set_other words w k word 0 differ;
    }

pub clears_bit : (words : List ℕ) (i : ℕ) → i < 64 * length words → ClearsBit words (slice_set words (i / 64) (cleared_in (slice_index words (i / 64)) (i % 64))) i
clears_bit words i within =
    let w = i / 64 in
    let word = cleared_in (slice_index words w) (i % 64) in
    let inside : w < length words = omega arith in
    let low : i % 64 < 64 = omega arith in
    record {
      len = length-set words w word;
      bit = ap (λ n. bit_at n (i % 64)) (get_or-set_same words w word 0 inside) ∙ bit_at_clear_same w64 (slice_index words w) (i % 64) low;
      others = λ j other. ⊎_elim
          (λ same. ap (λ k. bit_at (slice_index (slice_set words w word) k) (j % 64)) same
          ∙ ap (λ n. bit_at n (j % 64)) (get_or-set_same words w word 0 inside)
          ∙ bit_at_clear_other w64 (slice_index words w) (i % 64) low (j % 64) (omega arith) (apart i j other same)
          ∙ ap (λ k. bit_at (slice_index words k) (j % 64)) (sym same))
          (λ differ. ap (λ n. bit_at n (j % 64)) (get_or-set_other words w (j / 64) word 0 differ))
          (cases_eq (j / 64) w);
      words = λ k differ. get_or-set_other words w k word 0 differ;
    }

-- a word with a bit isn't 0
nonzero : (words : List ℕ) (i : ℕ) → bit_of words i ≡ 1 → 0 < slice_index words (i / 64)
nonzero words i set = ⊎_elim
    (λ lt. lt)
    (λ ge.
    let none : slice_index words (i / 64) ≡ 0 = omega arith in
    let zero_bit : bit_of words i ≡ 0 = ap (λ n. bit_at n (i % 64)) none ∙ bit_at-zero (i % 64) in
    absurd (omega arith))
    (cases_lt 0 (slice_index words (i / 64)))

-- the index after a cell was made free
pub IsIndex-set : (words marks new_words new_marks : List ℕ) (i : ℕ) → IsIndex words marks → SetsBit words new_words i → SetsBit marks new_marks (i / 64)
    → IsIndex new_words new_marks
IsIndex-set words marks new_words new_marks i index set marked = record {
  small = omega (arith, index.small, set.len);
  small_index = omega (arith, index.small_index, marked.len);
  room = omega (arith, index.room, set.len, marked.len);
  closed = λ w none. ⊎_elim
      (λ same. absurd (let one = ap (bit_of new_marks) same ∙ marked.bit in omega arith))
      (λ differ. set.words w differ ∙ index.closed w (sym (marked.others w differ) ∙ none))
      (cases_eq w (i / 64));
  opened = λ w one. ⊎_elim
      (λ same. subst (λ k. 0 < slice_index new_words k) (sym same) (nonzero new_words i set.bit))
      (λ differ. subst (λ n. 0 < n) (sym (set.words w differ)) (index.opened w (sym (marked.others w differ) ∙ one)))
      (cases_eq w (i / 64));
}

-- the index after the last free cell of a word was taken
pub IsIndex-close : (words marks new_words new_marks : List ℕ) (i : ℕ) → IsIndex words marks → ClearsBit words new_words i → slice_index new_words (i / 64) ≡ 0
    → ClearsBit marks new_marks (i / 64) → IsIndex new_words new_marks
IsIndex-close words marks new_words new_marks i index cleared none marked = record {
  small = omega (arith, index.small, cleared.len);
  small_index = omega (arith, index.small_index, marked.len);
  room = omega (arith, index.room, cleared.len, marked.len);
  closed = λ w zero_bit. ⊎_elim
      (λ same. ap (slice_index new_words) same ∙ none)
      (λ differ. cleared.words w differ ∙ index.closed w (sym (marked.others w differ) ∙ zero_bit))
      (cases_eq w (i / 64));
  opened = λ w one. ⊎_elim
      (λ same. absurd (let zero_bit = ap (bit_of new_marks) same ∙ marked.bit in omega arith))
      (λ differ. subst (λ n. 0 < n) (sym (cleared.words w differ)) (index.opened w (sym (marked.others w differ) ∙ one)))
      (cases_eq w (i / 64));
}

-- the index after another free cell of a word was taken
pub IsIndex-clear : (words marks new_words : List ℕ) (i : ℕ) → IsIndex words marks → bit_of words i ≡ 1 → ClearsBit words new_words i → slice_index new_words (i / 64) ≢ 0
    → IsIndex new_words marks
IsIndex-clear words marks new_words i index free cleared some = record {
  small = omega (arith, index.small, cleared.len);
  small_index = index.small_index;
  room = omega (arith, index.room, cleared.len);
  closed = λ w zero_bit. ⊎_elim
      (λ same. absurd (let none = index.closed (i / 64) (ap (bit_of marks) (sym same) ∙ zero_bit) in let one = nonzero words i free in omega arith))
      (λ differ. cleared.words w differ ∙ index.closed w zero_bit)
      (cases_eq w (i / 64));
  opened = λ w one. ⊎_elim
      (λ same. let at : slice_index new_words w ≡ slice_index new_words (i / 64) = ap (slice_index new_words) same in omega (arith, some))
      (λ differ. subst (λ n. 0 < n) (sym (cleared.words w differ)) (index.opened w one))
      (cases_eq w (i / 64));
}

-- no cell is free where the index has no bit
pub IsIndex-none : (words marks : List ℕ) → IsIndex words marks → ((i : ℕ) → i < length marks → slice_index marks i ≡ 0) → (cell : ℕ) → bit_of words cell ≡ 0
IsIndex-none words marks index none cell =
    let w = cell / 64 in
    let group : slice_index marks (w / 64) ≡ 0 = ⊎_elim (λ lt. none (w / 64) lt) (λ ge. get_or_past marks (w / 64) 0 ge) (cases_lt (w / 64) (length marks)) in
    let closed : bit_of marks w ≡ 0 = ap (λ n. bit_at n (w % 64)) group ∙ bit_at-zero (w % 64) in
    ap (λ n. bit_at n (cell % 64)) (index.closed w closed) ∙ bit_at-zero (cell % 64)

-- a bit by its word and its place there
pub bit_of-at : (words : List ℕ) (w k : ℕ) → k < 64 → bit_of words (64 * w + k) ≡ bit_at (slice_index words w) k
bit_of-at words w k low =
    let word : (64 * w + k) / 64 ≡ w = omega arith in
    let place : (64 * w + k) % 64 ≡ k = omega arith in
    ap (λ n. bit_at (slice_index words n) ((64 * w + k) % 64)) word ∙ ap (bit_at (slice_index words w)) place

-- no bit of a list of zeros is set
pub bit_of-zeros : (n i : ℕ) → bit_of (replicate n 0) i ≡ 0
bit_of-zeros n i = ap (λ m. bit_at m (i % 64)) (zero_word n (i / 64)) ∙ bit_at-zero (i % 64)
  where
    zero_word : (n w : ℕ) → slice_index (replicate n 0) w ≡ 0
    zero_word n w = ⊎_elim (λ lt. get_or-replicate n w 0 0 lt) (λ ge. get_or_past (replicate n 0) w 0 (omega (arith, length-replicate {A = ℕ} n 0))) (cases_lt w n)

-- the word that a bit of the index leads to
pub IsIndex-found : (words marks : List ℕ) (i k : ℕ) → IsIndex words marks → k < 64 → bit_at (slice_index marks i) k ≡ 1
    → 0 < slice_index words (64 * i + k)
IsIndex-found words marks i k index low set = index.opened (64 * i + k) (bit_of-at marks i k low ∙ set)

-- a word that isn't 0 is one of the list
pub within_list : (words : List ℕ) (w : ℕ) → 0 < slice_index words w → w < length words
within_list words w some = ⊎_elim (λ lt. lt) (λ ge. absurd (let none = get_or_past words w 0 ge in omega arith)) (cases_lt w (length words))
