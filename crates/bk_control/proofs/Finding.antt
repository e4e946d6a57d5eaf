-- Which slot of a file counts, by the heads of both.
use Rattle.std.proofs.Common.{◌≡◌, ◌≢◌, ◌≤◌, ◌<◌, ℕ, ◌+◌, ◌-◌, min, Bool, true, false, ◌&&◌, List, length, take, drop, get_or, Option, Some, None, refl, inl, inr, sym, ◌∙◌, ap, subst, arith, lit≤, lit<, zero-add}
use Rattle.std.specs.Prelude.{slice_index, option_map, ◌==◌, nat_le, nat_lt, IfSome}
use Rattle.std.specs.Str.{bytes_eq}
use Rattle.std.proofs.lemmas.Bool.{cases_lt, and_parts, leb-true}
use Rattle.std.proofs.lemmas.Grind.{common_steps}
use Rattle.std.proofs.lemmas.List.{take-take, get_or-take, length-take, length-drop}
use Rattle.std.proofs.Math.ListN.{get_or-append}
use Rattle.bk_device.specs.Calls.{read_at, filled}
use Rattle.bk_device.specs.Laws.{filled_whole}
use Rattle.bk_lemmas.specs.Tests.{test_false}
use Rattle.bk_lemmas.specs.Numbers.{number}
use Rattle.bk_control.specs.declared.found.Entry.{Entry}
use Rattle.bk_control.specs.declared.found.Head.{Head}
use Rattle.bk_control.specs.declared.side.Side.TheVariants.{First, Second}
use Rattle.bk_control.proofs.SlotLaws.{and_false, short_slot}
use Rattle.bk_control.specs.Found.{sized, IsHead, IsFound}
use Rattle.bk_control.specs.Reads.{read_at-within, index-within}
use Rattle.bk_control.specs.Slots.{Slot, magic, fits, slot_in, slot_at, counting}

-- a head as code reads it

-- a part of a slot's front is a part of the slot
front_part : (at n : ℕ) (slot : List ℕ) → at + n ≤ 32 → read_at (take 32 slot) at n ≡ read_at slot at n
front_part at n slot inside = read_at-within 0 32 at n slot inside ∙ ap (λ (p : ℕ). read_at slot p n) (zero-add at)

pub open_entry : (slot head : List ℕ) (sequence len : ℕ) → take 32 slot ≡ head → take 8 head ≡ magic → get_or head 8 0 ≡ 1 → number (read_at head 24 8) ≡ len → number (read_at head 16 8) ≡ sequence → fits len (length slot) ≡ true → slot_in slot ≡ Some (record { sequence = sequence; bytes = read_at slot 32 len })
unfolding slot_in
open_entry slot head sequence len front mark gate size first fit =
    let marked : take 8 slot ≡ magic = sym (take-take 8 32 slot (lit≤ tt)) ∙ ap (take 8) front ∙ mark in
    let byte : get_or slot 8 0 ≡ 1 = sym (get_or-take 32 slot 8 0 (lit< tt)) ∙ ap (λ (h : List ℕ). get_or h 8 0) front ∙ gate in
    let length_is : number (read_at slot 24 8) ≡ len = ap number (sym (front_part 24 8 slot (lit≤ tt)) ∙ ap (λ (h : List ℕ). read_at h 24 8) front) ∙ size in
    let sequence_is : number (read_at slot 16 8) ≡ sequence = ap number (sym (front_part 16 8 slot (lit≤ tt)) ∙ ap (λ (h : List ℕ). read_at h 16 8) front) ∙ first in
    rw (marked, byte, length_is, fit, sequence_is) refl

-- where a content fits, the head was read whole
pub open_front : (slot head : List ℕ) (len room : ℕ) → fits len room ≡ true → (32 ≤ room → take 32 slot ≡ head) → take 32 slot ≡ head
open_front slot head len room fit begins =
    let both = and_parts (nat_le len 65536) (nat_le (32 + len) room) fit in
    let inside : 32 + len ≤ room = leb-true (32 + len) room both.1 in
    begins (omega (arith, inside))

-- of two heads

pub no_slot_counts : (file : List ℕ) (first second : Head) → IsHead file 0 first → IsHead file 65600 second → first.entry ≡ None → second.entry ≡ None → counting file ≡ None
unfolding counting
no_slot_counts file first second one two none none2 =
    let here : slot_at file 0 ≡ None = one.slot ∙ ap (option_map (sized (read_at file 0 65600))) none in
    let there : slot_at file 65600 ≡ None = two.slot ∙ ap (option_map (sized (read_at file 65600 65600))) none2 in
    rw (here, there) refl

-- the content that an entry names
entry_bytes : (file : List ℕ) (start : ℕ) (head : Head) (entry : Entry) → IsHead file start head → head.entry ≡ Some entry → entry.len ≤ 65536 → slot_at file start ≡ Some (record { sequence = entry.sequence; bytes = read_at file (start + 32) entry.len })
entry_bytes file start head entry is some short =
    is.slot ∙ ap (option_map (sized (read_at file start 65600))) some
    ∙ ap (λ (b : List ℕ). let slot : Slot = record { sequence = entry.sequence; bytes = b } in Some slot) (read_at-within start 65600 32 entry.len file (omega arith))

first_newest : (file : List ℕ) (slot : Slot) (entry : Option Entry) → slot_at file 0 ≡ Some slot → slot_at file 65600 ≡ option_map (sized (read_at file 65600 65600)) entry → ((b : Entry) → entry ≡ Some b → b.sequence ≤ slot.sequence) → counting file ≡ Some slot
unfolding counting
first_newest file slot None here there newest = rw (here, there) refl
first_newest file slot (Some b) here there newest =
    let no_more : b.sequence ≤ slot.sequence = newest b refl in
    let order : nat_lt slot.sequence b.sequence ≡ false = grind (arith, common_steps) in
    rw (here, there, order) refl

second_newest : (file : List ℕ) (slot : Slot) (entry : Option Entry) → slot_at file 65600 ≡ Some slot → slot_at file 0 ≡ option_map (sized (read_at file 0 65600)) entry → ((a : Entry) → entry ≡ Some a → a.sequence < slot.sequence) → counting file ≡ Some slot
unfolding counting
second_newest file slot None here there newest = rw (there, here) refl
second_newest file slot (Some a) here there newest =
    let more : a.sequence < slot.sequence = newest a refl in
    let order : nat_lt a.sequence slot.sequence ≡ true = grind (arith, common_steps) in
    rw (there, here, order) refl

entry_inside : (file : List ℕ) (start : ℕ) (head : Head) (entry : Entry) → IsHead file start head → head.entry ≡ Some entry → start + 32 + entry.len ≤ length file
entry_inside file start head entry is some = let P : Option Entry → Type 0 = λ x. IfSome x (λ e. start + 32 + e.len ≤ length file) in subst P some is.inside

pub first_counts : (file : List ℕ) (first second : Head) (a : Entry) → IsHead file 0 first → IsHead file 65600 second → first.entry ≡ Some a → ((b : Entry) → second.entry ≡ Some b → b.sequence ≤ a.sequence) → a.len ≤ 65536 → IsFound file (record { side = First; sequence = a.sequence; len = a.len; is_other_open = second.gate_is_open })
first_counts file first second a one two some newest short =
    let here = entry_bytes file 0 first a one some short in
    record {
      holds = record { here = here; counts = first_newest file (record { sequence = a.sequence; bytes = read_at file 32 a.len }) second.entry here two.slot newest; gate = two.gate };
      inside = entry_inside file 0 first a one some;
    }

pub second_counts : (file : List ℕ) (first second : Head) (b : Entry) → IsHead file 0 first → IsHead file 65600 second → second.entry ≡ Some b → ((a : Entry) → first.entry ≡ Some a → a.sequence < b.sequence) → b.len ≤ 65536 → IsFound file (record { side = Second; sequence = b.sequence; len = b.len; is_other_open = first.gate_is_open })
second_counts file first second b one two some newest short =
    let here = entry_bytes file 65600 second b two some short in
    record {
      holds = record { here = here; counts = second_newest file (record { sequence = b.sequence; bytes = read_at file 65632 b.len }) first.entry here one.slot newest; gate = one.gate };
      inside = entry_inside file 65600 second b two some;
    }

-- small steps of the cases

pub short_entry : (o : Option Entry) (b : Entry) → o ≡ Some b → IfSome o (λ e. e.len ≤ 65536) → b.len ≤ 65536
short_entry o b is all = let P : Option Entry → Type 0 = λ x. IfSome x (λ e. e.len ≤ 65536) in subst P is all

pub same_entry : (o : Option Entry) (b x : Entry) → o ≡ Some b → o ≡ Some x → b ≡ x
same_entry o b x is also = let same : Some b ≡ Some x = sym is ∙ also in cc

pub not_less : (o : Option Entry) (b : Entry) (n : ℕ) → o ≡ Some b → b.sequence ≤ n → (x : Entry) → o ≡ Some x → x.sequence ≤ n
not_less o b n is less x also = let P : Entry → Type 0 = λ e. e.sequence ≤ n in subst P (same_entry o b x is also) less

pub is_less : (o : Option Entry) (a : Entry) (n : ℕ) → o ≡ Some a → a.sequence < n → (x : Entry) → o ≡ Some x → x.sequence < n
is_less o a n is less x also = let P : Entry → Type 0 = λ e. e.sequence < n in subst P (same_entry o a x is also) less

pub not_some : (o : Option Entry) (x : Entry) → o ≡ None → o ≡ Some x → ⊥
not_some o x is also = let both : None ≡ Some x = sym is ∙ also in cc

-- a slot that isn't open

shut_entry : (slot head : List ℕ) (room : ℕ) → length slot ≡ room → (32 ≤ room → take 32 slot ≡ head) → ((bytes_eq (take 8 head) magic && (get_or head 8 0 == 1)) && fits (number (read_at head 24 8)) room) ≡ false → slot_in slot ≡ None
unfolding slot_in
shut_entry slot head room size begins test =
    elim (cases_lt room 32) [
      | inl less ↦ short_slot slot (omega (arith, size, less))
      | inr enough ↦
          let front : take 32 slot ≡ head = begins enough in
          let marked : take 8 slot ≡ take 8 head = sym (take-take 8 32 slot (lit≤ tt)) ∙ ap (take 8) front in
          let byte : get_or slot 8 0 ≡ get_or head 8 0 = sym (get_or-take 32 slot 8 0 (lit< tt)) ∙ ap (λ (h : List ℕ). get_or h 8 0) front in
          let length_is : number (read_at slot 24 8) ≡ number (read_at head 24 8) = ap number (sym (front_part 24 8 slot (lit≤ tt)) ∙ ap (λ (h : List ℕ). read_at h 24 8) front) in
          rw (marked, byte, length_is, size, test) refl
    ]

and_last : (a : Bool) → (a && false) ≡ false
and_last true = refl
and_last false = refl

pub wrong_mark : (slot head : List ℕ) (room : ℕ) → length slot ≡ room → (32 ≤ room → take 32 slot ≡ head) → bytes_eq (take 8 head) magic ≡ false → slot_in slot ≡ None
wrong_mark slot head room size front test = shut_entry slot head room size front (rw test refl)

pub wrong_gate : (slot head : List ℕ) (room : ℕ) → length slot ≡ room → (32 ≤ room → take 32 slot ≡ head) → get_or head 8 0 ≢ 1 → slot_in slot ≡ None
wrong_gate slot head room size front differ = shut_entry slot head room size front (rw (test_false (get_or head 8 0) 1 differ) (and_false _ _))

pub wrong_size : (slot head : List ℕ) (len room : ℕ) → length slot ≡ room → (32 ≤ room → take 32 slot ≡ head) → len ≡ number (read_at head 24 8) → fits len room ≡ false → slot_in slot ≡ None
wrong_size slot head len room size front is test =
    shut_entry slot head room size front (rw (sym is, test) (and_last _))

-- of a file's calls

-- a buffer of zeros, of which the front was read
read_byte : (zeros file : List ℕ) (start : ℕ) → start + 9 ≤ length file → get_or (filled zeros (read_at file start 32)) 8 0 ≡ slice_index file (start + 8)
read_byte zeros file start there =
    let size : length (read_at file start 32) ≡ min 32 (length file - start) = simp (length-take, length-drop) refl in
    get_or-append (read_at file start 32) (drop (length (read_at file start 32)) zeros) 0 8 (omega (arith, size))
    ∙ index-within start 32 8 file (lit< tt)

pub head_read : (file buf zeros : List ℕ) (start room : ℕ) (entry : Option Entry) → room ≡ min (length file - start) 65600 → length zeros ≡ 32 → buf ≡ filled zeros (read_at file start 32) → ((slot : List ℕ) → length slot ≡ room → (32 ≤ room → take 32 slot ≡ buf) → slot_in slot ≡ option_map (sized slot) entry) → IfSome entry (λ e. 32 + e.len ≤ room) → IsHead file start (record { gate_is_open = (get_or buf 8 0 == 1); entry = entry })
head_read file buf zeros start room entry is_room size is parsed inside =
    let slot_size : length (read_at file start 65600) ≡ room = simp (length-take, length-drop) (omega (arith, is_room)) in
    let front : 32 ≤ room → take 32 (read_at file start 65600) ≡ buf = λ enough.
    take-take 32 65600 (drop start file) (lit≤ tt) ∙ sym (is ∙ filled_whole zeros file start 32 (sym size) (omega (arith, is_room, enough)))
    in record {
      gate = λ there. ap (λ (b : ℕ). b == 1) (ap (λ (b : List ℕ). get_or b 8 0) is ∙ read_byte zeros file start there);
      inside = within entry inside;
      slot = parsed (read_at file start 65600) slot_size front;
    }
  where
    within : (entry : Option Entry) → IfSome entry (λ e. 32 + e.len ≤ room) → IfSome entry (λ e. start + 32 + e.len ≤ length file)
    within None none = none
    within (Some e) fit = let fit : 32 + e.len ≤ room = fit in omega (arith, is_room, fit)
