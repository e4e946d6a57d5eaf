-- What the writes that fill a slot make of a file.
use Rattle.std.proofs.Common.{◌≡◌, ◌≤◌, ℕ, ◌+◌, List, [], ◌++◌, length, take, drop, replicate, inl, sym, ◌∙◌, ap, arith, length-append, lit≤}
use Rattle.std.proofs.lemmas.List.{take_all, take_at, drop_at, drop_all, append-nil}
use Rattle.bk_device.specs.Calls.{read_at, written}
use Rattle.bk_device.specs.Torn.{written-length, read_at-written, read_at-written_other}
use Rattle.bk_lemmas.specs.Numbers.{length-number_bytes, number_bytes}
use Rattle.bk_control.specs.Reads.{read_at-within}
use Rattle.bk_control.specs.Slots.{magic}
use Rattle.bk_control.specs.Stands.{IsFilled}

-- the bytes between a gate byte and the content
abbrev pub head_bytes : ℕ → ℕ → List ℕ
head_bytes sequence size = replicate 7 0 ++ number_bytes sequence ++ number_bytes size

pub length-head_bytes : (sequence size : ℕ) → length (head_bytes sequence size) ≡ 23
length-head_bytes sequence size =
    omega (arith, length-append (replicate 7 0 ++ number_bytes sequence) (number_bytes size), length-append (replicate 7 0) (number_bytes sequence), length-number_bytes sequence, length-number_bytes size)

head-sequence : (sequence size : ℕ) → read_at (head_bytes sequence size) 7 8 ≡ number_bytes sequence
head-sequence sequence size = take_at (number_bytes sequence) (number_bytes size) 8 (length-number_bytes sequence)

head-size : (sequence size : ℕ) → read_at (head_bytes sequence size) 15 8 ≡ number_bytes size
head-size sequence size =
    let behind : drop 15 (head_bytes sequence size) ≡ number_bytes size = drop_at (replicate 7 0 ++ number_bytes sequence) (number_bytes size) 15 (omega (arith, length-append (replicate 7 0) (number_bytes sequence), length-number_bytes sequence)) in
    ap (take 8) behind ∙ take_all 8 (number_bytes size) (omega (arith, length-number_bytes size))

pub fills : (start sequence : ℕ) (bytes before : List ℕ) → 131200 ≤ length before → start ≤ 65600 → length bytes ≤ 65536 → IsFilled start (record { sequence = sequence; bytes = bytes }) (written (written (written before start magic) (start + 9) (head_bytes sequence (length bytes))) (start + 32) bytes)
fills start sequence bytes before whole near short =
    let head : List ℕ = head_bytes sequence (length bytes) in
    let one : List ℕ = written before start magic in
    let two : List ℕ = written one (start + 9) head in
    let three : List ℕ = written two (start + 32) bytes in
    let size : length head ≡ 23 = length-head_bytes sequence (length bytes) in
    let length_one : length one ≡ length before = written-length start before magic (omega arith) ∙ omega arith in
    let length_two : length two ≡ length before = written-length (start + 9) one head (omega (arith, length_one)) ∙ omega (arith, size, length_one) in
    let in_two : read_at two (start + 9) 23 ≡ head = ap (read_at two (start + 9)) (sym size) ∙ read_at-written (start + 9) one head (omega (arith, length_one)) in
    let place_sequence : start + 9 + 7 ≡ start + 16 = omega arith in
    let place_size : start + 9 + 15 ≡ start + 24 = omega arith in
    record {
      mark =
          read_at-written_other start 8 (start + 32) two bytes (omega (arith, length_two)) (inl (omega arith))
          ∙ read_at-written_other start 8 (start + 9) one head (omega (arith, length_one)) (inl (omega arith))
          ∙ read_at-written start before magic (omega arith);
      sequence =
          read_at-written_other (start + 16) 8 (start + 32) two bytes (omega (arith, length_two)) (inl (omega arith))
          ∙ ap (λ (p : ℕ). read_at two p 8) (sym place_sequence)
          ∙ sym (read_at-within (start + 9) 23 7 8 two (lit≤ tt))
          ∙ ap (λ (h : List ℕ). read_at h 7 8) in_two
          ∙ head-sequence sequence (length bytes);
      size =
          read_at-written_other (start + 24) 8 (start + 32) two bytes (omega (arith, length_two)) (inl (omega arith))
          ∙ ap (λ (p : ℕ). read_at two p 8) (sym place_size)
          ∙ sym (read_at-within (start + 9) 23 15 8 two (lit≤ tt))
          ∙ ap (λ (h : List ℕ). read_at h 15 8) in_two
          ∙ head-size sequence (length bytes);
      bytes = read_at-written (start + 32) two bytes (omega (arith, length_two));
    }

-- how the code puts those bytes together
pub head_joined : (x y z : List ℕ) → length x ≡ 8 → length z ≡ 8 → take 15 (replicate 7 0 ++ (x ++ z)) ++ (y ++ drop 8 (drop 15 (replicate 7 0 ++ (x ++ z)))) ≡ replicate 7 0 ++ x ++ y
head_joined x y z front back =
    let rest : drop 8 (drop 8 (x ++ z)) ≡ [] = ap (drop 8) (drop_at x z 8 front) ∙ drop_all 8 z (omega (arith, back)) in
    ap (λ (f : List ℕ). replicate 7 0 ++ (f ++ (y ++ drop 8 (drop 8 (x ++ z))))) (take_at x z 8 front)
    ∙ ap (λ (r : List ℕ). replicate 7 0 ++ (x ++ (y ++ r))) rest
    ∙ ap (λ (r : List ℕ). replicate 7 0 ++ (x ++ r)) (append-nil y)
