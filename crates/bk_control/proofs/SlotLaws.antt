-- What changes of a slot's bytes make of the slot that counts.
use Rattle.std.proofs.Common.{◌≡◌, ◌≢◌, ◌⊎◌, ◌<◌, ◌≤◌, ◌^◌, ℕ, ◌+◌, Bool, true, false, ◌&&◌, List, [], ◌∷◌, length, take, drop, get_or, Option, Some, None, refl, inl, inr, sym, ◌∙◌, ap, subst, arith, add-zero, lit≤, lit<, length-take, length-drop}
use Rattle.std.specs.Prelude.{◌==◌, nat_lt, slice_index, option_map}
use Rattle.std.specs.Str.{bytes_eq}
use Rattle.std.proofs.lemmas.List.{ext_get_or, get_or-take, get_or-drop}
use Rattle.std.proofs.lemmas.Bool.{eqb-true, eqb-false, le-leb, lt-leb, and_from, and_right}
use Rattle.std.proofs.lemmas.Grind.{common_steps}
use Rattle.bk_device.specs.Calls.{read_at, written, IsTorn}
use Rattle.bk_device.specs.Names.{true_or_false}
use Rattle.bk_device.specs.Torn.{length-torn, read_at-torn, torn-written, read_at-written, same_byte}
use Rattle.bk_lemmas.specs.Tests.{equal_or_not, test_false}
use Rattle.bk_lemmas.specs.Numbers.{number-reads_back, number}
use Rattle.bk_control.specs.declared.side.Side.{Side}
use Rattle.bk_control.specs.declared.side.Side.TheVariants.{First, Second}
use Rattle.bk_control.specs.Reads.{read_at-within, index-within}
use Rattle.bk_control.specs.Slots.{Slot, magic, fits, slot_in, slot_at, newer, counting, other, place}
use Rattle.bk_control.specs.Stands.{Stands, IsFilled, ChangesSlot, Rewrites, MayFollow}

-- tests

pub and_false : (a c : Bool) → ((a && false) && c) ≡ false
and_false true c = refl
and_false false c = refl

-- numbers

pub fits_true : (size room : ℕ) → size ≤ 65536 → 32 + size ≤ room → fits size room ≡ true
fits_true size room small inside = and_from _ _ (le-leb size 65536 small) (le-leb (32 + size) room inside)

no_room : (size room : ℕ) → room < 32 → fits size room ≡ false
no_room size room less = and_right _ _ (lt-leb (32 + size) room (omega arith))

-- one slot

-- a slot whose gate byte isn't 1 is closed
pub closed : (at : ℕ) (file : List ℕ) → slice_index file (at + 8) ≢ 1 → slot_at file at ≡ None
unfolding slot_in
closed at file gate =
    let byte : get_or (read_at file at 65600) 8 0 ≡ get_or file (at + 8) 0 = index-within at 65600 8 file (omega arith) in
    let test : (get_or (read_at file at 65600) 8 0 == 1) ≡ false = test_false _ 1 (λ one. gate (sym byte ∙ one)) in
    let tested : ((bytes_eq (take 8 (read_at file at 65600)) magic && (get_or (read_at file at 65600) 8 0 == 1)) && fits (number (read_at (read_at file at 65600) 24 8)) (length (read_at file at 65600))) ≡ false =
    rw test (and_false _ _) in
    rw tested refl

-- a slot of which the file has no head is closed
pub short_slot : (slot : List ℕ) → length slot < 32 → slot_in slot ≡ None
unfolding slot_in
short_slot slot less =
    let tested : ((bytes_eq (take 8 slot) magic && (get_or slot 8 0 == 1)) && fits (number (read_at slot 24 8)) (length slot)) ≡ false =
    and_right _ _ (no_room (number (read_at slot 24 8)) (length slot) less) in
    rw tested refl

-- the gate byte of an open slot is 1
pub open_gate : (at : ℕ) (file : List ℕ) (slot : Slot) → slot_at file at ≡ Some slot → slice_index file (at + 8) ≡ 1
open_gate at file slot here =
    elim (equal_or_not (slice_index file (at + 8)) 1) [
      | inl one ↦ one
      | inr differ ↦ let none : slot_at file at ≡ None = closed at file differ in cc
    ]

-- a filled slot with an open gate
pub opened : (at : ℕ) (slot : Slot) (file : List ℕ) → at + 65600 ≤ length file → slot.sequence < 2 ^ 64 → length slot.bytes ≤ 65536 → IsFilled at slot file → slice_index file (at + 8) ≡ 1 → slot_at file at ≡ Some slot
unfolding slot_in
opened at slot file whole small short filled gate =
    let mark : take 8 (read_at file at 65600) ≡ magic = read_at-within at 65600 0 8 file (omega arith) ∙ ap (λ (p : ℕ). read_at file p 8) (add-zero at) ∙ filled.mark in
    let byte : get_or (read_at file at 65600) 8 0 ≡ 1 = index-within at 65600 8 file (omega arith) ∙ gate in
    let size : number (read_at (read_at file at 65600) 24 8) ≡ length slot.bytes = ap number (read_at-within at 65600 24 8 file (omega arith) ∙ filled.size) ∙ number-reads_back (length slot.bytes) (omega arith) in
    let sequence : number (read_at (read_at file at 65600) 16 8) ≡ slot.sequence = ap number (read_at-within at 65600 16 8 file (omega arith) ∙ filled.sequence) ∙ number-reads_back slot.sequence small in
    let body : read_at (read_at file at 65600) 32 (length slot.bytes) ≡ slot.bytes = read_at-within at 65600 32 (length slot.bytes) file (omega arith) ∙ filled.bytes in
    let room : length (read_at file at 65600) ≡ 65600 = simp (length-take, length-drop) (omega arith) in
    let enough : fits (length slot.bytes) (length (read_at file at 65600)) ≡ true = fits_true (length slot.bytes) _ short (omega (arith, room)) in
    rw (mark, byte, size, enough, sequence, body) refl

-- of two slots

newer-none : (first : Option Slot) → newer first None ≡ first
newer-none None = refl
newer-none (Some first) = refl

pub counts_alone : (side : Side) (file : List ℕ) → slot_at file (place (other side)) ≡ None → counting file ≡ slot_at file (place side)
unfolding counting
counts_alone First file none = rw none (newer-none _)
counts_alone Second file none = rw none refl

pub counts_newer : (side : Side) (file : List ℕ) (old new : Slot) → slot_at file (place (other side)) ≡ Some old → slot_at file (place side) ≡ Some new → old.sequence < new.sequence → counting file ≡ Some new
unfolding counting
counts_newer First file old new there here less =
    let test : nat_lt new.sequence old.sequence ≡ false = grind (arith, common_steps) in
    rw (there, here, test) refl
counts_newer Second file old new there here less =
    let test : nat_lt old.sequence new.sequence ≡ true = grind (arith, common_steps) in
    rw (there, here, test) refl

one_of_two : (a b : Slot) → (newer (Some a) (Some b) ≡ Some a) ⊎ (newer (Some a) (Some b) ≡ Some b)
one_of_two a b = elim (true_or_false (nat_lt a.sequence b.sequence)) [ inl less ↦ inr (rw less refl) | inr not ↦ inl (rw not refl) ]

-- of two open slots with the same bytes, either has them
pub counts_same : (side : Side) (file : List ℕ) (old new : Slot) → slot_at file (place (other side)) ≡ Some old → slot_at file (place side) ≡ Some new → old.bytes ≡ new.bytes → option_map (λ (slot : Slot). slot.bytes) (counting file) ≡ Some new.bytes
unfolding counting
counts_same First file old new there here same =
    rw (there, here) (elim (one_of_two new old) [
      | inl first ↦ rw first refl
      | inr second ↦ rw second (ap Some same)
    ])
counts_same Second file old new there here same =
    rw (there, here) (elim (one_of_two old new) [
      | inl first ↦ rw first (ap Some same)
      | inr second ↦ rw second refl
    ])

-- what a write of one slot's gate byte leaves

inside_gate : (side : Side) → place side + 65600 ≤ 131200
inside_gate First = lit≤ tt
inside_gate Second = lit≤ tt

apart : (side : Side) → (place side + 65600 ≤ place (other side) + 8) ⊎ (place (other side) + 8 + 1 ≤ place side)
apart First = inl (lit≤ tt)
apart Second = inr (lit≤ tt)

-- the other slot stays
pub gate_aside : (side : Side) (before after : List ℕ) → 131200 ≤ length before → IsTorn (place (other side) + 8) 1 before after → slot_at after (place side) ≡ slot_at before (place side)
gate_aside side before after whole torn =
    let within : place side + 65600 ≤ 131200 = inside_gate side in
    ap slot_in (read_at-torn (place side) 65600 (place (other side) + 8) 1 before after (omega arith) (apart side) torn)

pub gate_length : (side : Side) (before after : List ℕ) → 131200 ≤ length before → IsTorn (place side + 8) 1 before after → 131200 ≤ length after
gate_length side before after whole torn =
    let within : place side + 65600 ≤ 131200 = inside_gate side in
    let same : length after ≡ length before = length-torn (place side + 8) 1 before after (omega arith) torn in
    omega arith

-- a byte that was written as it was
-- Closing an open gate leaves the content, whatever a crash leaves of the gate byte.
pub closing : (side : Side) (slot : Slot) (before after : List ℕ) → Stands side true slot before → IsTorn (place (other side) + 8) 1 before after → counting after ≡ Some slot
closing side slot before after stands torn =
    let within : place (other side) + 65600 ≤ 131200 = inside_gate (other side) in
    let whole : 131200 ≤ length before = stands.whole in
    let was : get_or before (place (other side) + 8) 0 ≡ 1 = eqb-true _ 1 (sym stands.gate) in
    elim (equal_or_not (slice_index after (place (other side) + 8)) 1) [
      | inl one ↦ ap counting (same_byte (place (other side) + 8) before after (omega arith) torn (one ∙ sym was)) ∙ stands.counts
      | inr differ ↦
          counts_alone side after (closed (place (other side)) after differ)
          ∙ gate_aside side before after whole torn
          ∙ stands.here
    ]

-- a gate byte that was written
pub gate_written : (side : Side) (byte : ℕ) (before : List ℕ) → 131200 ≤ length before → slice_index (written before (place side + 8) (byte ∷ [])) (place side + 8) ≡ byte
gate_written side byte before whole =
    let within : place side + 65600 ≤ 131200 = inside_gate side in
    let read : read_at (written before (place side + 8) (byte ∷ [])) (place side + 8) 1 ≡ byte ∷ [] = read_at-written (place side + 8) before (byte ∷ []) (omega arith) in
    ap (λ (p : ℕ). get_or (written before (place side + 8) (byte ∷ [])) p 0) (sym (add-zero (place side + 8))) ∙ sym (get_or-drop (place side + 8) _ 0 0) ∙ sym (get_or-take 1 (drop (place side + 8) (written before (place side + 8) (byte ∷ []))) 0 0 (lit< tt)) ∙ ap (λ (xs : List ℕ). get_or xs 0 0) read

-- after it the other slot is closed
pub closing_done : (side : Side) (is_open : Bool) (slot : Slot) (before : List ℕ) → Stands side is_open slot before → Stands side false slot (written before (place (other side) + 8) (0 ∷ []))
closing_done side is_open slot before stands =
    let torn = torn-written (place (other side) + 8) before (0 ∷ []) in
    let gate = gate_written (other side) 0 before stands.whole in
    let here = gate_aside side before _ stands.whole torn ∙ stands.here in
    let differ : slice_index (written before (place (other side) + 8) (0 ∷ [])) (place (other side) + 8) ≢ 1 = λ one. absurd (omega (arith, gate, one)) in
    record {
      whole = gate_length (other side) before _ stands.whole torn;
      here = here;
      counts = counts_alone side _ (closed (place (other side)) _ differ) ∙ here;
      gate = rw gate refl;
    }

-- filling a closed slot

pub changes_none : (at : ℕ) (file : List ℕ) → ChangesSlot at file file
changes_none at file = record { same_length = refl; outside = λ k below aside. refl }

pub changes_torn : (start at n : ℕ) (a b c : List ℕ) → start + 65600 ≤ length a → (start ≤ at) × (at + n ≤ start + 8) ⊎ (start + 9 ≤ at) × (at + n ≤ start + 65600) → ChangesSlot start a b → IsTorn at n b c → ChangesSlot start a c
changes_torn start at n a b c whole inside first torn =
    let lengths : length b ≡ length a = first.same_length in
    let within : at + n ≤ length b = elim inside [ inl mark ↦ omega (arith, mark.0, mark.1) | inr rest ↦ omega (arith, rest.0, rest.1) ] in
    record {
      same_length = length-torn at n b c within torn ∙ lengths;
      outside = λ k below aside. torn.outside k (omega arith) (off start at n inside k aside) ∙ first.outside k below aside;
    }
  where
    off : (start at n : ℕ) → (start ≤ at) × (at + n ≤ start + 8) ⊎ (start + 9 ≤ at) × (at + n ≤ start + 65600) → (k : ℕ) → (k < start) ⊎ (start + 65600 ≤ k) ⊎ (k ≡ start + 8) → (k < at) ⊎ (at + n ≤ k)
    off start at n (inl mark) k (inl front) = inl (omega (arith, mark.0))
    off start at n (inl mark) k (inr (inl behind)) = inr (omega (arith, mark.1))
    off start at n (inl mark) k (inr (inr gate)) = inr (omega (arith, mark.1))
    off start at n (inr rest) k (inl front) = inl (omega (arith, rest.0))
    off start at n (inr rest) k (inr (inl behind)) = inr (omega (arith, rest.1))
    off start at n (inr rest) k (inr (inr gate)) = inl (omega (arith, rest.0))

-- the other slot stays
pub slot_aside : (side : Side) (before after : List ℕ) → 131200 ≤ length before → ChangesSlot (place (other side)) before after → slot_at after (place side) ≡ slot_at before (place side)
slot_aside side before after whole changes =
    let within : place side + 65600 ≤ 131200 = inside_gate side in
    let lengths : length after ≡ length before = changes.same_length in
    let left : length (read_at after (place side) 65600) ≡ 65600 = simp (length-take, length-drop) (omega arith) in
    let right : length (read_at before (place side) 65600) ≡ 65600 = simp (length-take, length-drop) (omega arith) in
    ap slot_in (ext_get_or 0 _ _ (left ∙ sym right) (λ k below.
    let inside : k < 65600 = omega (arith, left, below) in
    index-within (place side) 65600 k after inside
    ∙ changes.outside (place side + k) (omega arith) (beside side k inside)
    ∙ sym (index-within (place side) 65600 k before inside)))
  where
    beside : (side : Side) (k : ℕ) → k < 65600 → (place side + k < place (other side)) ⊎ (place (other side) + 65600 ≤ place side + k) ⊎ (place side + k ≡ place (other side) + 8)
    beside First k inside = inl (omega arith)
    beside Second k inside = inr (inl (omega arith))

-- what stands stays while the other slot is filled
pub filling : (side : Side) (slot : Slot) (before after : List ℕ) → Stands side false slot before → ChangesSlot (place (other side)) before after → Stands side false slot after
filling side slot before after stands changes =
    let within : place (other side) + 65600 ≤ 131200 = inside_gate (other side) in
    let before_whole : 131200 ≤ length before = stands.whole in
    let lengths : length after ≡ length before = changes.same_length in
    let whole : 131200 ≤ length after = omega arith in
    let here = slot_aside side before after stands.whole changes ∙ stands.here in
    let byte : slice_index after (place (other side) + 8) ≡ slice_index before (place (other side) + 8) = changes.outside (place (other side) + 8) (omega arith) (inr (inr refl)) in
    let shut : false ≡ (slice_index after (place (other side) + 8) == 1) = rw byte stands.gate in
    record {
      whole = whole;
      here = here;
      counts = counts_alone side after (closed (place (other side)) after (λ one. eqb-false _ 1 (sym shut) one)) ∙ here;
      gate = shut;
    }

-- opening a filled slot

pub filled_torn : (at : ℕ) (slot : Slot) (before after : List ℕ) → at + 65600 ≤ length before → length slot.bytes ≤ 65536 → IsFilled at slot before → IsTorn (at + 8) 1 before after → IsFilled at slot after
filled_torn at slot before after inside short filled torn =
    record {
      mark = read_at-torn at 8 (at + 8) 1 before after (omega arith) (inl (omega arith)) torn ∙ filled.mark;
      sequence = read_at-torn (at + 16) 8 (at + 8) 1 before after (omega arith) (inr (omega arith)) torn ∙ filled.sequence;
      size = read_at-torn (at + 24) 8 (at + 8) 1 before after (omega arith) (inr (omega arith)) torn ∙ filled.size;
      bytes = read_at-torn (at + 32) (length slot.bytes) (at + 8) 1 before after (omega arith) (inr (omega arith)) torn ∙ filled.bytes;
    }

pub other_other : (side : Side) → other (other side) ≡ side
other_other First = refl
other_other Second = refl

-- once the gate is open
both_open : (side : Side) (old new : Slot) (before after : List ℕ) → Stands (other side) false old before → IsFilled (place side) new before → new.sequence < 2 ^ 64 → length new.bytes ≤ 65536 → IsTorn (place side + 8) 1 before after → slice_index after (place side + 8) ≡ 1 → Rewrites side new before after
both_open side old new before after stands filled small short torn one =
    let within : place side + 65600 ≤ 131200 = inside_gate side in
    let whole : 131200 ≤ length before = stands.whole in
    let Torn : Side → Type 0 = λ s. IsTorn (place s + 8) 1 before after in
    record {
      whole = gate_length side before after whole torn;
      here = opened (place side) new after (omega (arith, gate_length side before after whole torn)) small short (filled_torn (place side) new before after (omega arith) short filled torn) one;
      there = gate_aside (other side) before after whole (subst Torn (sym (other_other side)) torn);
    }

-- the content after a slot was rewritten
pub rewritten : (side : Side) (old new : Slot) (before after : List ℕ) → Stands (other side) false old before → MayFollow old new → Rewrites side new before after → option_map (λ (slot : Slot). slot.bytes) (counting after) ≡ Some new.bytes
rewritten side old new before after stands follows rewrites =
    elim follows [
      | inl less ↦ ap (option_map (λ (slot : Slot). slot.bytes)) (counts_newer side after old new (rewrites.there ∙ stands.here) rewrites.here less)
      | inr same ↦ counts_same side after old new (rewrites.there ∙ stands.here) rewrites.here same
    ]

-- A crash while the gate is opened leaves the old content or the new one.
pub opening : (side : Side) (old new : Slot) (before after : List ℕ) → Stands (other side) false old before → IsFilled (place side) new before → new.sequence < 2 ^ 64 → length new.bytes ≤ 65536 → MayFollow old new → IsTorn (place side + 8) 1 before after → (counting after ≡ Some old) ⊎ (option_map (λ (slot : Slot). slot.bytes) (counting after) ≡ Some new.bytes)
opening side old new before after stands filled small short follows torn =
    let Torn : Side → Type 0 = λ s. IsTorn (place s + 8) 1 before after in
    elim (equal_or_not (slice_index after (place side + 8)) 1) [
      | inl one ↦ inr (rewritten side old new before after stands follows (both_open side old new before after stands filled small short torn one))
      | inr differ ↦
          let None_at : Side → Type 0 = λ s. slot_at after (place s) ≡ None in
          inl (counts_alone (other side) after (subst None_at (sym (other_other side)) (closed (place side) after differ))
          ∙ gate_aside (other side) before after stands.whole (subst Torn (sym (other_other side)) torn)
          ∙ stands.here)
    ]

pub opening_done : (side : Side) (old new : Slot) (before : List ℕ) → Stands (other side) false old before → IsFilled (place side) new before → new.sequence < 2 ^ 64 → length new.bytes ≤ 65536 → Rewrites side new before (written before (place side + 8) (1 ∷ []))
opening_done side old new before stands filled small short =
    both_open side old new before _ stands filled small short (torn-written (place side + 8) before (1 ∷ [])) (gate_written side 1 before stands.whole)

-- closing the slot that counted, once the other has the same content

dropped_gate : (side : Side) (old new : Slot) (is_open : Bool) (before mid : List ℕ) → Stands (other side) is_open old before → Rewrites side new before mid → slice_index mid (place (other side) + 8) ≡ 1
dropped_gate side old new is_open before mid stands rewrites = open_gate (place (other side)) mid old (rewrites.there ∙ stands.here)

pub dropping : (side : Side) (old new : Slot) (is_open : Bool) (before mid after : List ℕ) → Stands (other side) is_open old before → old.bytes ≡ new.bytes → Rewrites side new before mid → IsTorn (place (other side) + 8) 1 mid after → option_map (λ (slot : Slot). slot.bytes) (counting after) ≡ Some new.bytes
dropping side old new is_open before mid after stands same rewrites torn =
    let within : place (other side) + 65600 ≤ 131200 = inside_gate (other side) in
    let whole : 131200 ≤ length mid = rewrites.whole in
    elim (equal_or_not (slice_index after (place (other side) + 8)) 1) [
      | inl one ↦
          ap (λ (f : List ℕ). option_map (λ (slot : Slot). slot.bytes) (counting f)) (same_byte (place (other side) + 8) mid after (omega arith) torn (one ∙ sym (dropped_gate side old new is_open before mid stands rewrites)))
          ∙ counts_same side mid old new (rewrites.there ∙ stands.here) rewrites.here same
      | inr differ ↦ ap (option_map (λ (slot : Slot). slot.bytes)) (counts_alone side after (closed (place (other side)) after differ) ∙ gate_aside side mid after whole torn ∙ rewrites.here)
    ]

pub dropping_done : (side : Side) (new : Slot) (before mid : List ℕ) → Rewrites side new before mid → Stands side false new (written mid (place (other side) + 8) (0 ∷ []))
dropping_done side new before mid rewrites =
    let torn = torn-written (place (other side) + 8) mid (0 ∷ []) in
    let gate = gate_written (other side) 0 mid rewrites.whole in
    let here = gate_aside side mid _ rewrites.whole torn ∙ rewrites.here in
    let differ : slice_index (written mid (place (other side) + 8) (0 ∷ [])) (place (other side) + 8) ≢ 1 = λ one. absurd (omega (arith, gate, one)) in
    record {
      whole = gate_length (other side) mid _ rewrites.whole torn;
      here = here;
      counts = counts_alone side _ (closed (place (other side)) _ differ) ∙ here;
      gate = rw gate refl;
    }

-- a slot with a greater sequence counts
pub advancing_done : (side : Side) (old new : Slot) (is_open : Bool) (before after : List ℕ) → Stands (other side) is_open old before → old.sequence < new.sequence → Rewrites side new before after → Stands side true new after
advancing_done side old new is_open before after stands less rewrites =
    let there = rewrites.there ∙ stands.here in
    record {
      whole = rewrites.whole;
      here = rewrites.here;
      counts = counts_newer side after old new there rewrites.here less;
      gate = rw (open_gate (place (other side)) after old there) refl;
    }
