-- What a write that a crash may have cut short leaves of a content, and what a whole one makes of it.
use Rattle.std.proofs.Common.{◌≡◌, ◌⊎◌, ◌<◌, ◌≤◌, ℕ, ◌+◌, ◌-◌, min, max, List, [], ◌∷◌, ◌++◌, length, take, drop, get_or, refl, inl, inr, sym, ◌∙◌, ap, subst, arith}
use Rattle.std.proofs.lemmas.Grind.{common_steps}
use Rattle.std.proofs.lemmas.List.{ext_get_or, places, get_or-take, get_or-drop, length-take, length-drop, length-append, take_at, drop_all, drop_at, take_all, append_assoc, drop-drop, take-append-drop, append-nil}
use Rattle.bk_device.specs.Calls.{IsTorn, written, read_at}

-- the write wasn't begun
pub torn-refl : (at n : ℕ) (content : List ℕ) → IsTorn at n content content
torn-refl at n content = record { outside = λ k below aside. refl; no_shorter = omega arith; no_longer = omega arith }

length-written : (at : ℕ) (content bytes : List ℕ) → length (written content at bytes) ≡ min at (length content) + length bytes + (length content - (at + length bytes))
length-written at content bytes = simp (length-append, length-append, length-take, length-drop) refl

written-before : (at : ℕ) (content bytes : List ℕ) (k : ℕ) → k < length content → k < at → get_or (written content at bytes) k 0 ≡ get_or content k 0
written-before at content bytes k below before = grind (arith, places)

written-behind : (at : ℕ) (content bytes : List ℕ) (k : ℕ) → k < length content → at + length bytes ≤ k → get_or (written content at bytes) k 0 ≡ get_or content k 0
written-behind at content bytes k below behind = grind (arith, places)

-- the write was done
pub torn-written : (at : ℕ) (content bytes : List ℕ) → IsTorn at (length bytes) content (written content at bytes)
torn-written at content bytes = record {
  outside = λ k below aside. elim aside [ inl before ↦ written-before at content bytes k below before | inr behind ↦ written-behind at content bytes k below behind ];
  no_shorter = omega (arith, length-written at content bytes);
  no_longer = omega (arith, length-written at content bytes);
}

-- inside of a file its length stays
pub length-torn : (at n : ℕ) (before after : List ℕ) → at + n ≤ length before → IsTorn at n before after → length after ≡ length before
length-torn at n before after inside torn = omega (arith, torn.no_shorter, torn.no_longer)

-- a part of the file that the write doesn't touch reads as before
pub read_at-torn : (from room at n : ℕ) (before after : List ℕ) → from + room ≤ length before → (from + room ≤ at) ⊎ (at + n ≤ from) → IsTorn at n before after → read_at after from room ≡ read_at before from room
read_at-torn from room at n before after inside aside torn =
    let no_shorter : length before ≤ length after = torn.no_shorter in
    let left : length (read_at after from room) ≡ room = simp (length-take, length-drop) (omega arith) in
    let right : length (read_at before from room) ≡ room = simp (length-take, length-drop) (omega arith) in
    ext_get_or 0 _ _ (left ∙ sym right) (λ k below. part from room at n before after inside aside torn k (omega (arith, left, below)))
  where
    part : (from room at n : ℕ) (before after : List ℕ) → from + room ≤ length before → (from + room ≤ at) ⊎ (at + n ≤ from) → IsTorn at n before after → (k : ℕ) → k < room → get_or (take room (drop from after)) k 0 ≡ get_or (take room (drop from before)) k 0
    part from room at n before after inside aside torn k below =
        let same : get_or after (from + k) 0 ≡ get_or before (from + k) 0 = torn.outside (from + k) (omega arith) (elim aside [ inl front ↦ inl (omega arith) | inr rest ↦ inr (omega arith) ]) in
        get_or-take room (drop from after) k 0 below ∙ get_or-drop from after k 0 ∙ same ∙ sym (get_or-drop from before k 0) ∙ sym (get_or-take room (drop from before) k 0 below)

-- a write past a place leaves the front up to it
pub take-torn : (place at n : ℕ) (before after : List ℕ) → place ≤ at → place ≤ length before → IsTorn at n before after → take place after ≡ take place before
take-torn place at n before after past inside torn = read_at-torn 0 place at n before after (omega arith) (inl (omega arith)) torn

-- a write leaves the rest behind it
pub drop-torn : (place at n : ℕ) (before after : List ℕ) → at + n ≤ place → IsTorn at n before after → drop place after ≡ drop place before
drop-torn place at n before after behind torn =
    let no_shorter : length before ≤ length after = torn.no_shorter in
    let no_longer : length after ≤ max (length before) (at + n) = torn.no_longer in
    let same_length : length (drop place after) ≡ length (drop place before) = simp length-drop (omega arith) in
    ext_get_or 0 _ _ same_length (λ k below.
    let inside : k < length before - place = omega (arith, length-drop place before, same_length, below) in
    let same : get_or after (place + k) 0 ≡ get_or before (place + k) 0 = torn.outside (place + k) (omega arith) (inr (omega arith)) in
    get_or-drop place after k 0 ∙ same ∙ sym (get_or-drop place before k 0))

-- a write that begins in the file leaves its front, any bytes, and its rest
pub split-torn : (at n : ℕ) (before after : List ℕ) → at ≤ length before → IsTorn at n before after → (middle : List ℕ) × (after ≡ take at before ++ middle ++ drop (at + n) before) × (length middle ≤ n) × (length before - at ≤ length middle + (length before - (at + n)))
split-torn at n before after inside torn =
    let no_shorter : length before ≤ length after = torn.no_shorter in
    let no_longer : length after ≤ max (length before) (at + n) = torn.no_longer in
    let front : take at after ≡ take at before = take-torn at at n before after (omega arith) inside torn in
    let rest : drop (at + n) after ≡ drop (at + n) before = drop-torn (at + n) at n before after (omega arith) torn in
    let rejoined : take at after ++ (take n (drop at after) ++ drop n (drop at after)) ≡ after = ap (λ (t : List ℕ). take at after ++ t) (take-append-drop n (drop at after)) ∙ take-append-drop at after in
    let pieces : after ≡ take at after ++ take n (drop at after) ++ drop n (drop at after) = sym (append_assoc (take at after) (take n (drop at after)) (drop n (drop at after)) ∙ rejoined) in
    let further : drop n (drop at after) ≡ drop (at + n) after = drop-drop n at after in
    let whole : after ≡ take at before ++ take n (drop at after) ++ drop (at + n) before = pieces ∙ (cc) in
    let size : length (take n (drop at after)) ≡ min n (length after - at) = simp (length-take, length-drop) refl in
    (take n (drop at after), whole, omega (arith, size), omega (arith, size))

one_of : (middle : List ℕ) → length middle ≤ 1 → (middle ≡ []) ⊎ ((byte : ℕ) × (middle ≡ byte ∷ []))
one_of [] short = inl refl
one_of (byte ∷ []) short = inr (byte, refl)
one_of (byte ∷ next ∷ rest) short = absurd (omega arith)

-- one byte inside of the file
pub byte-torn : (at : ℕ) (before after : List ℕ) → at < length before → IsTorn at 1 before after → (byte : ℕ) × (after ≡ written before at (byte ∷ []))
byte-torn at before after inside torn =
    let split = split-torn at 1 before after (omega arith) torn in
    elim (one_of split.0 split.2) [
      | inl none ↦ let empty : length split.0 ≡ 0 = ap length none in absurd (omega (arith, empty, split.3))
      | inr one ↦ (one.0, split.1 ∙ ap (λ (m : List ℕ). take at before ++ m ++ drop (at + 1) before) one.1)
    ]

-- one byte at the end of the file
pub last_byte-torn : (before after : List ℕ) → IsTorn (length before) 1 before after → (after ≡ before) ⊎ ((byte : ℕ) × (after ≡ before ++ byte ∷ []))
last_byte-torn before after torn =
    let split = split-torn (length before) 1 before after (omega arith) torn in
    let front : take (length before) before ≡ before = take_all (length before) before (omega arith) in
    let rest : drop (length before + 1) before ≡ [] = drop_all (length before + 1) before (omega arith) in
    let joined : after ≡ before ++ split.0 = split.1 ∙ (rw (front, rest) (append-nil (before ++ split.0))) in
    elim (one_of split.0 split.2) [
      | inl none ↦ inl (joined ∙ ap (λ (m : List ℕ). before ++ m) none ∙ append-nil before)
      | inr one ↦ inr (one.0, joined ∙ ap (λ (m : List ℕ). before ++ m) one.1)
    ]

-- what a whole write makes of a content

pub written-length : (at : ℕ) (content bytes : List ℕ) → at ≤ length content → length (written content at bytes) ≡ max (length content) (at + length bytes)
written-length at content bytes inside = omega (arith, length-written at content bytes)

-- what was written reads back
pub read_at-written : (at : ℕ) (content bytes : List ℕ) → at ≤ length content → read_at (written content at bytes) at (length bytes) ≡ bytes
read_at-written at content bytes inside =
    let front : length (take at content) ≡ at = simp length-take (omega arith) in
    let behind : drop at (take at content ++ bytes ++ drop (at + length bytes) content) ≡ bytes ++ drop (at + length bytes) content =
    ap (drop at) (append_assoc (take at content) bytes (drop (at + length bytes) content)) ∙ drop_at (take at content) (bytes ++ drop (at + length bytes) content) at front in
    ap (take (length bytes)) behind ∙ take_at bytes (drop (at + length bytes) content) (length bytes) refl

-- other parts read as before
pub read_at-written_other : (from room at : ℕ) (content bytes : List ℕ) → from + room ≤ length content → (from + room ≤ at) ⊎ (at + length bytes ≤ from) → read_at (written content at bytes) from room ≡ read_at content from room
read_at-written_other from room at content bytes inside aside = read_at-torn from room at (length bytes) content (written content at bytes) inside aside (torn-written at content bytes)

-- a write at the end appends
pub written-end : (content bytes : List ℕ) → written content (length content) bytes ≡ content ++ bytes
written-end content bytes =
    let front : take (length content) content ≡ content = take_all (length content) content (omega arith) in
    let rest : drop (length content + length bytes) content ≡ [] = drop_all (length content + length bytes) content (omega arith) in
    rw (front, rest) (append-nil (content ++ bytes))

-- a write of one byte that left it as it was left all as it was
pub same_byte : (at : ℕ) (before after : List ℕ) → at < length before → IsTorn at 1 before after → get_or after at 0 ≡ get_or before at 0 → after ≡ before
same_byte at before after inside torn same =
    let lengths : length after ≡ length before = length-torn at 1 before after (omega arith) torn in
    ext_get_or 0 after before lengths (λ k below.
    let where_is : (k ≡ at) ⊎ (k < at) ⊎ (at + 1 ≤ k) = order k at in
    elim where_is [
      | inl here ↦ let At : ℕ → Type 0 = λ p. get_or after p 0 ≡ get_or before p 0 in subst At (sym here) same
      | inr rest ↦ elim rest [
        | inl front ↦ torn.outside k (omega arith) (inl front)
        | inr back ↦ torn.outside k (omega arith) (inr back)
      ]
    ])
  where
    order : (k at : ℕ) → (k ≡ at) ⊎ (k < at) ⊎ (at + 1 ≤ k)
    order k at = grind (arith, common_steps)
