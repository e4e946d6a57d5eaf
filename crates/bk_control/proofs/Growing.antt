-- What bytes that come behind a file leave of its slots.
use Rattle.std.proofs.Common.{◌≡◌, ◌≢◌, ◌⊎◌, ◌<◌, ◌≤◌, ℕ, ◌+◌, ◌-◌, Bool, true, ◌&&◌, max, min, List, ◌++◌, length, take, drop, get_or, replicate, Some, None, refl, inl, inr, sym, ◌∙◌, ap, subst, arith, zero-add, length-take, length-drop}
use Rattle.std.specs.Prelude.{◌==◌, slice_index}
use Rattle.std.specs.Str.{bytes_eq}
use Rattle.std.proofs.lemmas.Bool.{and_parts, leb-true, cases_lt}
use Rattle.std.proofs.lemmas.List.{get_or-take, take-take, take_all, get_or_past, take-append-le, length-append, get_or-append_right, get_or-replicate, length-replicate}
use Rattle.std.proofs.Math.ListN.{get_or-append}
use Rattle.bk_device.specs.Calls.{contents, written, read_at, IsTorn, LeavesWrite, CallsOn}
use Rattle.bk_device.specs.Compose.{effect_then, effect_of_step}
use Rattle.bk_device.specs.Disk.{Disk, Files}
use Rattle.bk_device.specs.Effects.{Effect, IsName}
use Rattle.bk_device.specs.Names.{true_or_false}
use Rattle.bk_device.specs.Torn.{take-torn, written-end}
use Rattle.bk_lemmas.specs.Numbers.{number}
use Rattle.bk_control.specs.Reads.{read_at-within}
use Rattle.bk_device.specs.Laws.{torn-contents}
use Rattle.bk_control.specs.Slots.{Slot, magic, fits, slot_in, slot_at, counting}
use Rattle.bk_control.specs.Stands.{Grows, Lengthens}
use Rattle.bk_control.proofs.SlotLaws.{closed, short_slot, fits_true}

-- parts of the file read as before

grown_length : (most : ℕ) (before after : List ℕ) → Grows most before after → length before ≤ length after
grown_length most before after grows =
    let size : min (length before) (length after) ≡ length before = sym (length-take (length before) after) ∙ ap length grows.front in
    omega (arith, size)

pub grown_read : (most at n : ℕ) (before after : List ℕ) → Grows most before after → at + n ≤ length before → read_at after at n ≡ read_at before at n
grown_read most at n before after grows inside =
    sym (ap (λ (f : List ℕ). read_at f at n) (sym grows.front)
    ∙ read_at-within 0 (length before) at n after inside
    ∙ ap (λ (p : ℕ). read_at after p n) (zero-add at))

pub grown_byte : (most k : ℕ) (before after : List ℕ) → Grows most before after → k < length before → slice_index after k ≡ slice_index before k
grown_byte most k before after grows inside =
    sym (get_or-take (length before) after k 0 inside) ∙ ap (λ (f : List ℕ). get_or f k 0) grows.front

-- a slot that is open stays so, whatever comes behind it

slot_test : List ℕ → Bool
slot_test slot = (bytes_eq (take 8 slot) magic && (get_or slot 8 0 == 1)) && fits (number (read_at slot 24 8)) (length slot)

tested : (slot : List ℕ) (held : Slot) → slot_in slot ≡ Some held → slot_test slot ≡ true
unfolding slot_in slot_test
tested slot held some =
    elim (true_or_false (slot_test slot)) [
      | inl open_one ↦ open_one
      | inr shut ↦ let none : slot_in slot ≡ None = rw shut refl in let both : None ≡ Some held = sym none ∙ some in cc
    ]

open_room : (slot : List ℕ) (held : Slot) → slot_in slot ≡ Some held → 32 + number (read_at slot 24 8) ≤ length slot
unfolding slot_test
open_room slot held some =
    let outer = and_parts _ _ (tested slot held some) in
    let inner = and_parts _ _ outer.1 in
    leb-true _ _ inner.1

open_small : (slot : List ℕ) (held : Slot) → slot_in slot ≡ Some held → number (read_at slot 24 8) ≤ 65536
unfolding slot_test
open_small slot held some =
    let outer = and_parts _ _ (tested slot held some) in
    let inner = and_parts _ _ outer.1 in
    leb-true _ _ inner.0

pub open_long : (slot : List ℕ) (held : Slot) → slot_in slot ≡ Some held → 32 ≤ length slot
open_long slot held some = omega (arith, open_room slot held some)

front_read : (one two : List ℕ) (at n : ℕ) → take (length one) two ≡ one → at + n ≤ length one → read_at two at n ≡ read_at one at n
front_read one two at n front inside =
    sym (ap (λ (f : List ℕ). read_at f at n) (sym front) ∙ read_at-within 0 (length one) at n two inside ∙ ap (λ (p : ℕ). read_at two p n) (zero-add at))

extended : (one two : List ℕ) (held : Slot) → take (length one) two ≡ one → slot_in one ≡ Some held → 32 + number (read_at one 24 8) ≤ length one → slot_in two ≡ slot_in one
unfolding slot_in
extended one two held front some room =
    let longer : min (length one) (length two) ≡ length one = sym (length-take (length one) two) ∙ ap length front in
    let mark : take 8 two ≡ take 8 one = front_read one two 0 8 front (omega (arith, room)) in
    let byte : get_or two 8 0 ≡ get_or one 8 0 = sym (get_or-take (length one) two 8 0 (omega (arith, room))) ∙ ap (λ (f : List ℕ). get_or f 8 0) front in
    let size : read_at two 24 8 ≡ read_at one 24 8 = front_read one two 24 8 front (omega (arith, room)) in
    let sequence : read_at two 16 8 ≡ read_at one 16 8 = front_read one two 16 8 front (omega (arith, room)) in
    let body : read_at two 32 (number (read_at one 24 8)) ≡ read_at one 32 (number (read_at one 24 8)) = front_read one two 32 (number (read_at one 24 8)) front room in
    let small : number (read_at one 24 8) ≤ 65536 = open_small one held some in
    let here : fits (number (read_at one 24 8)) (length one) ≡ true = fits_true _ _ small room in
    let there : fits (number (read_at one 24 8)) (length two) ≡ true = fits_true _ _ small (omega (arith, room, longer)) in
    rw (mark, byte, size, sequence, body, here, there) refl

open_extends : (one two : List ℕ) (held : Slot) → take (length one) two ≡ one → slot_in one ≡ Some held → slot_in two ≡ Some held
open_extends one two held front some = extended one two held front some (open_room one held some) ∙ some

-- a slot that bytes behind the file don't change: too short either way, closed, open, or there in its whole length
abbrev pub IsFixed : ℕ → List ℕ → ℕ → Type 0
IsFixed most before at = (length before < at + 32) × (most < at + 32) ⊎ (at + 8 < length before) × (slice_index before (at + 8) ≢ 1) ⊎ ((slot : Slot) × slot_at before at ≡ Some slot) ⊎ (at + 65600 ≤ length before)

pub short_at : (at : ℕ) (file : List ℕ) → length file < at + 32 → slot_at file at ≡ None
short_at at file less =
    let size : length (read_at file at 65600) ≡ min 65600 (length file - at) = simp (length-take, length-drop) refl in
    short_slot (read_at file at 65600) (omega (arith, size))

pub slot_grown : (most at : ℕ) (before after : List ℕ) → IsFixed most before at → Grows most before after → slot_at after at ≡ slot_at before at
slot_grown most at before after fixed grows =
    let longest : length after ≤ max (length before) most = grows.short in
    elim fixed [
      | inl short ↦ short_at at after (omega (arith, longest, short.0, short.1)) ∙ sym (short_at at before short.0)
      | inr rest ↦ elim rest [
        | inl shut ↦ closed at after (λ one. shut.1 (sym (grown_byte most (at + 8) before after grows shut.0) ∙ one)) ∙ sym (closed at before shut.1)
        | inr more ↦ elim more [
          | inl here ↦ still most at before after here.0 grows here.1
          | inr whole ↦ ap slot_in (grown_read most at 65600 before after grows whole)
        ]
      ]
    ]
  where
    still : (most at : ℕ) (before after : List ℕ) (slot : Slot) → Grows most before after → slot_at before at ≡ Some slot → slot_at after at ≡ slot_at before at
    still most at before after slot grows some =
        let size : length (read_at before at 65600) ≡ min 65600 (length before - at) = simp (length-take, length-drop) refl in
        let long : 32 ≤ length (read_at before at 65600) = open_long _ slot some in
        let n : ℕ = length (read_at before at 65600) in
        let inside : at + n ≤ length before = omega (arith, size, long) in
        let front : take n (read_at after at 65600) ≡ read_at before at 65600 =
        take-take n 65600 (drop at after) (omega (arith, size))
        ∙ grown_read most at n before after grows inside
        ∙ sym (take-take n 65600 (drop at before) (omega (arith, size)))
        ∙ take_all n (read_at before at 65600) (omega arith) in
        open_extends (read_at before at 65600) (read_at after at 65600) slot front some ∙ sym some

-- and so the same slot counts
pub counting_grown : (most : ℕ) (before after : List ℕ) → IsFixed most before 0 → IsFixed most before 65600 → Grows most before after → counting after ≡ counting before
unfolding counting
counting_grown most before after first second grows =
    rw (slot_grown most 0 before after first grows, slot_grown most 65600 before after second grows) refl

pub lengthens_grows : (len : ℕ) (before after : List ℕ) → Lengthens len before after → Grows len before after
lengthens_grows len before after lengthens = record { front = lengthens.front; short = omega (arith, lengthens.size) }

-- writing behind a file

abbrev pub Growing : List ℕ → ℕ → Disk → Files → Type 0
Growing name most a image = Grows most (contents (a.files name)) (contents (image name))

grows_torn : (most at n : ℕ) (a b c : List ℕ) → length a ≤ at → at + n ≤ max (length a) most → Grows most a b → IsTorn at n b c → Grows most a c
grows_torn most at n a b c behind inside first torn =
    let longer : length a ≤ length b = grown_length most a b first in
    let longest : length c ≤ max (length b) (at + n) = torn.no_longer in
    record {
      front = take-torn (length a) at n b c behind longer torn ∙ first.front;
      short = omega (arith, longest, first.short);
    }

pub grow_step : (name : List ℕ) (most at n : ℕ) (a b c : Disk) → length (contents (a.files name)) ≤ at → at + n ≤ max (length (contents (a.files name))) most → Effect (IsName name) (Growing name most a) a b → CallsOn name (LeavesWrite at n) b c → Effect (IsName name) (Growing name most a) a c
grow_step name most at n a b c behind inside first call =
    effect_then first
    (effect_of_step refl first.now (λ before after so_far leaves others.
    grows_torn most at n (contents (a.files name)) (contents (before name)) (contents (after name)) behind inside so_far (torn-contents at n (before name) (after name) leaves)) call)

zero_at : (n k : ℕ) → slice_index (replicate n 0) k ≡ 0
zero_at n k =
    let zeros : List ℕ = replicate n 0 in
    let size : length zeros ≡ n = length-replicate {A = ℕ} n 0 in
    elim (cases_lt k n) [
      | inl inside ↦ get_or-replicate {A = ℕ} n k 0 0 inside
      | inr past ↦ get_or_past zeros k 0 (omega (arith, size, past))
    ]

pub lengthens_more : (at n : ℕ) (a b c : List ℕ) → length a ≤ at → Lengthens at a b → c ≡ written b at (replicate n 0) → Lengthens (at + n) a c
lengthens_more at n a b c behind first wrote =
    let zeros : List ℕ = replicate n 0 in
    let end : length b ≡ at = omega (arith, first.size) in
    let size : length zeros ≡ n = length-replicate {A = ℕ} n 0 in
    let joined : c ≡ b ++ zeros = wrote ∙ ap (λ (p : ℕ). written b p zeros) (sym end) ∙ written-end b zeros in
    record {
      front = ap (take (length a)) joined ∙ take-append-le (length a) b zeros (omega (arith, end)) ∙ first.front;
      size = ap length joined ∙ length-append b zeros ∙ omega (arith, end, size);
      zeros = λ k past.
          ap (λ (f : List ℕ). get_or f k 0) joined
          ∙ elim (cases_lt k (length b)) [
            | inl inside ↦ get_or-append b zeros 0 k inside ∙ first.zeros k past
            | inr behind_b ↦ get_or-append_right b zeros (length b) k 0 refl behind_b ∙ zero_at n (k - length b)
          ];
    }

pub lengthens_end : (at len : ℕ) (a b c : List ℕ) → length a ≤ at → len ≤ at → at ≤ max (length a) len → Lengthens at a b → c ≡ b → Lengthens len a c
lengthens_end at len a b c behind past within lengthens same =
    let Of : List ℕ → Type 0 = λ file. Lengthens len a file in
    subst Of (sym same) (record { front = lengthens.front; size = lengthens.size ∙ omega arith; zeros = lengthens.zeros })
