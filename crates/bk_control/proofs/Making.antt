-- Making a control file.
use Rattle.std.proofs.Common.{◌≡◌, ◌≢◌, ◌≤◌, ◌⊎◌, ℕ, List, [], ◌∷◌, length, Option, Some, None, true, false, refl, inl, inr, sym, ◌∙◌, ap, subst, arith, lit≤, lit<}
use Rattle.std.specs.Prelude.{slice_index, option_map}
use Rattle.std.proofs.lemmas.Bool.{cases_eq, ne_eqb}
use Rattle.bk_device.specs.Calls.{contents, written, IsTorn, LeavesWrite}
use Rattle.bk_device.specs.Compose.{effect_then, effect_weaken}
use Rattle.bk_device.specs.Disk.{Files, Disk, IsDurable}
use Rattle.bk_device.specs.Effects.{Effect, IsName}
use Rattle.bk_device.specs.Torn.{torn-written}
use Rattle.bk_control.specs.declared.side.Side.TheVariants.{First, Second}
use Rattle.bk_control.specs.Control.{IsControl}
use Rattle.bk_device.specs.Laws.{torn-contents}
use Rattle.bk_control.specs.Slots.{Slot, slot_at, counting, control_of}
use Rattle.bk_control.specs.Stands.{Stands, IsFilled, IsBlank, ChangesSlot, Grows, Lengthens}
use Rattle.bk_control.proofs.Growing.{Growing, grown_byte, lengthens_grows, short_at}
use Rattle.bk_control.proofs.SlotLaws.{closed, opened, counts_alone, gate_aside, gate_length, gate_written, filled_torn}
use Rattle.bk_control.proofs.Steps.{Filling}

-- a file whose slots are closed holds no control

none_counts : (file : List ℕ) → slot_at file 0 ≡ None → slot_at file 65600 ≡ None → counting file ≡ None
none_counts file first second = counts_alone First file second ∙ first

blank_counts : (file : List ℕ) → IsBlank file → counting file ≡ None
blank_counts file blank = none_counts file (closed 0 file blank.first) (closed 65600 file blank.second)

-- while the file is laid, up to the first gate byte, up to the second, and to the end

grown_none : (at : ℕ) (file : List ℕ) → at ≤ 9 → length file ≡ 0 → (after : List ℕ) → Grows at file after → counting after ≡ None
grown_none at file near empty after grows =
    let longest = grows.short in
    none_counts after (short_at 0 after (omega (arith, longest, empty))) (short_at 65600 after (omega (arith, longest, empty)))

zero_shut : (byte : ℕ) → byte ≡ 0 → byte ≢ 1
zero_shut byte zero one = absurd (omega (arith, zero, one))

-- the first gate byte is there, and closed
pub record OneGate (file : List ℕ) : Type 0 where
  pub size : length file ≡ 9
  pub first : slice_index file 8 ≡ 0

pub one_gate : (before after : List ℕ) → length before ≡ 0 → Lengthens 9 before after → OneGate after
one_gate before after empty lengthens = record {
  size = omega (arith, lengthens.size, empty);
  first = lengthens.zeros 8 (omega (arith, empty));
}

one_gate_none : (file after : List ℕ) → OneGate file → Grows 65609 file after → counting after ≡ None
one_gate_none file after gate grows =
    let longest = grows.short in
    let byte : slice_index after 8 ≡ 0 = grown_byte 65609 8 file after grows (omega (arith, gate.size)) ∙ gate.first in
    none_counts after (closed 0 after (zero_shut _ byte)) (short_at 65600 after (omega (arith, longest, gate.size)))

-- both are
pub record TwoGates (file : List ℕ) : Type 0 where
  pub size : length file ≡ 65609
  pub first : slice_index file 8 ≡ 0
  pub second : slice_index file 65608 ≡ 0

pub two_gates : (before after : List ℕ) → OneGate before → Lengthens 65609 before after → TwoGates after
two_gates before after gate lengthens = record {
  size = omega (arith, lengthens.size, gate.size);
  first = grown_byte 65609 8 before after (lengthens_grows 65609 before after lengthens) (omega (arith, gate.size)) ∙ gate.first;
  second = lengthens.zeros 65608 (omega (arith, gate.size));
}

two_gates_kept : (most : ℕ) (file after : List ℕ) → TwoGates file → Grows most file after → (slice_index after 8 ≡ 0) × (slice_index after 65608 ≡ 0)
two_gates_kept most file after gates grows =
    (grown_byte most 8 file after grows (omega (arith, gates.size)) ∙ gates.first, grown_byte most 65608 file after grows (omega (arith, gates.size)) ∙ gates.second)

two_gates_none : (file after : List ℕ) → TwoGates file → Grows 131200 file after → counting after ≡ None
two_gates_none file after gates grows =
    let kept = two_gates_kept 131200 file after gates grows in
    none_counts after (closed 0 after (zero_shut _ kept.0)) (closed 65600 after (zero_shut _ kept.1))

pub laid_blank : (before after : List ℕ) → TwoGates before → Lengthens 131200 before after → IsBlank after
laid_blank before after gates lengthens =
    let kept = two_gates_kept 131200 before after gates (lengthens_grows 131200 before after lengthens) in
    record {
      whole = omega (arith, lengthens.size);
      first = zero_shut _ kept.0;
      second = zero_shut _ kept.1;
    }

-- what a crash leaves meanwhile

abbrev pub Laying : List ℕ → Disk → Files → Type 0
Laying name a image = a.may name (image name) ⊎ (counting (contents (image name)) ≡ None)

empty_none : (file : Option (List ℕ)) → file ≡ None → counting (contents file) ≡ None
empty_none file gone =
    let empty : length (contents file) ≡ 0 = ap (λ (f : Option (List ℕ)). length (contents f)) gone in
    none_counts (contents file) (short_at 0 (contents file) (omega (arith, empty))) (short_at 65600 (contents file) (omega (arith, empty)))

pub gone_empty : (file : Option (List ℕ)) → file ≡ None → length (contents file) ≡ 0
gone_empty file gone = ap (λ (f : Option (List ℕ)). length (contents f)) gone

pub lay_removed : (name : List ℕ) (a b : Disk) → Effect (IsName name) (λ image. a.may name (image name) ⊎ (image name ≡ None)) a b → Effect (IsName name) (Laying name a) a b
lay_removed name a b effect =
    effect_weaken (λ image either. elim either [ inl before ↦ inl before | inr none ↦ inr (empty_none (image name) none) ]) effect

pub lay_first : (name : List ℕ) (a b c : Disk) → Effect (IsName name) (Laying name a) a b → length (contents (b.files name)) ≡ 0 → Effect (IsName name) (Growing name 9 b) b c → Effect (IsName name) (Laying name a) a c
lay_first name a b c first empty effect =
    effect_then first (effect_weaken (λ image grows. inr (grown_none 9 (contents (b.files name)) (lit≤ tt) empty (contents (image name)) grows)) effect)

pub lay_second : (name : List ℕ) (a b c : Disk) → Effect (IsName name) (Laying name a) a b → OneGate (contents (b.files name)) → Effect (IsName name) (Growing name 65609 b) b c → Effect (IsName name) (Laying name a) a c
lay_second name a b c first gate effect =
    effect_then first (effect_weaken (λ image grows. inr (one_gate_none (contents (b.files name)) (contents (image name)) gate grows)) effect)

pub lay_rest : (name : List ℕ) (a b c : Disk) → Effect (IsName name) (Laying name a) a b → TwoGates (contents (b.files name)) → Effect (IsName name) (Growing name 131200 b) b c → Effect (IsName name) (Laying name a) a c
lay_rest name a b c first gates effect =
    effect_then first (effect_weaken (λ image grows. inr (two_gates_none (contents (b.files name)) (contents (image name)) gates grows)) effect)

-- opening the first slot

abbrev pub NoneOr : List ℕ → List ℕ → Files → Type 0
NoneOr name bytes image = (control_of (image name) ≡ None) ⊎ (control_of (image name) ≡ Some bytes)

bytes_of : Option Slot → Option (List ℕ)
bytes_of slot = option_map (λ (s : Slot). s.bytes) slot

pub blank_filled : (before after : List ℕ) → IsBlank before → ChangesSlot 0 before after → IsBlank after
blank_filled before after blank changes =
    let enough : 131200 ≤ length before = blank.whole in
    record {
      whole = omega (arith, changes.same_length, enough);
      first = λ one. blank.first (sym (changes.outside 8 (omega (arith, enough)) (inr (inr refl))) ∙ one);
      second = λ one. blank.second (sym (changes.outside 65608 (omega (arith, enough)) (inr (inl (lit≤ tt)))) ∙ one);
    }

pub fill_blank : (name bytes : List ℕ) (a b : Disk) → IsBlank (contents (a.files name)) → Effect (IsName name) (Filling name 0 a) a b → Effect (IsName name) (NoneOr name bytes) a b
fill_blank name bytes a b blank effect =
    effect_weaken (λ image changes. inl (ap (option_map (λ (s : Slot). s.bytes)) (blank_counts (contents (image name)) (blank_filled (contents (a.files name)) (contents (image name)) blank changes)))) effect

-- once the gate is open
open_blank : (bytes before after : List ℕ) → IsBlank before → IsFilled 0 (record { sequence = 0; bytes = bytes }) before → length bytes ≤ 65536 → IsTorn 8 1 before after → slice_index after 8 ≡ 1 → Stands First false (record { sequence = 0; bytes = bytes }) after
open_blank bytes before after blank filled short torn one =
    let enough : 131200 ≤ length before = blank.whole in
    let whole : 131200 ≤ length after = gate_length First before after blank.whole torn in
    let here : slot_at after 0 ≡ Some (record { sequence = 0; bytes = bytes }) =
    opened 0 (record { sequence = 0; bytes = bytes }) after (omega arith) (lit< tt) short (filled_torn 0 (record { sequence = 0; bytes = bytes }) before after (omega arith) short filled torn) one in
    let byte : slice_index after 65608 ≡ slice_index before 65608 = torn.outside 65608 (omega arith) (inr (lit≤ tt)) in
    let differ : slice_index after 65608 ≢ 1 = λ is. blank.second (sym byte ∙ is) in
    record {
      whole = whole;
      here = here;
      counts = counts_alone First after (closed 65600 after differ) ∙ here;
      gate = sym (ne_eqb _ 1 differ);
    }

opening_blank : (bytes before after : List ℕ) → IsBlank before → IsFilled 0 (record { sequence = 0; bytes = bytes }) before → length bytes ≤ 65536 → IsTorn 8 1 before after → (counting after ≡ None) ⊎ (counting after ≡ Some (record { sequence = 0; bytes = bytes }))
opening_blank bytes before after blank filled short torn =
    elim (cases_eq (slice_index after 8) 1) [
      | inl one ↦ inr (open_blank bytes before after blank filled short torn one).counts
      | inr differ ↦ inl (none_counts after (closed 0 after differ) (gate_aside Second before after blank.whole torn ∙ closed 65600 before blank.second))
    ]

pub open_step : (name bytes : List ℕ) (a b : Disk) → IsBlank (contents (a.files name)) → IsFilled 0 (record { sequence = 0; bytes = bytes }) (contents (a.files name)) → length bytes ≤ 65536 → Effect (IsName name) (λ image. LeavesWrite 8 1 (a.files name) (image name)) a b → Effect (IsName name) (NoneOr name bytes) a b
open_step name bytes a b blank filled short effect =
    effect_weaken (λ image leaves.
    elim (opening_blank bytes (contents (a.files name)) (contents (image name)) blank filled short (torn-contents 8 1 (a.files name) (image name) leaves)) [
      | inl none ↦ inl (ap (option_map (λ (s : Slot). s.bytes)) none)
      | inr made ↦ inr (ap (option_map (λ (s : Slot). s.bytes)) made)
    ]) effect

pub open_done : (bytes before after : List ℕ) → IsBlank before → IsFilled 0 (record { sequence = 0; bytes = bytes }) before → length bytes ≤ 65536 → after ≡ written before 8 (1 ∷ []) → Stands First false (record { sequence = 0; bytes = bytes }) after
open_done bytes before after blank filled short is =
    let Done : List ℕ → Type 0 = λ file. Stands First false (record { sequence = 0; bytes = bytes }) file in
    subst Done (sym is) (open_blank bytes before (written before 8 (1 ∷ [])) blank filled short (torn-written 8 before (1 ∷ [])) (gate_written First 1 before blank.whole))

-- laying, then opening

pub laid_crash : (name bytes : List ℕ) (a b : Disk) → Effect (IsName name) (Laying name a) a b → Effect (IsName name) (λ image. a.may name (image name) ⊎ (control_of (image name) ≡ None) ⊎ (control_of (image name) ≡ Some bytes)) a b
laid_crash name bytes a b effect =
    effect_weaken (λ image either. elim either [ inl before ↦ inl before | inr none ↦ inr (inl (ap (option_map (λ (s : Slot). s.bytes)) none)) ]) effect

pub make_crash : (name bytes : List ℕ) (a b c : Disk) → Effect (IsName name) (Laying name a) a b → Effect (IsName name) (NoneOr name bytes) b c → Effect (IsName name) (λ image. a.may name (image name) ⊎ (control_of (image name) ≡ None) ⊎ (control_of (image name) ≡ Some bytes)) a c
make_crash name bytes a b c laid opens =
    effect_then (laid_crash name bytes a b laid) (effect_weaken (λ image either. inr either) opens)

pub made_control : (name bytes kept content : List ℕ) (b : Disk) → Stands First false (record { sequence = 0; bytes = bytes }) (contents (b.files name)) → IsDurable b name → kept ≡ name → content ≡ bytes → IsControl b (record { name = kept; content = content; failed = false; side = First; sequence = 0; is_other_open = false; is_whole = true })
made_control name bytes kept content b stands durable named held =
    let AtName : List ℕ → Type 0 = λ n. Stands First false (record { sequence = 0; bytes = bytes }) (contents (b.files n)) in
    let AtBytes : List ℕ → Type 0 = λ x. Stands First false (record { sequence = 0; bytes = x }) (contents (b.files kept)) in
    let after = subst AtBytes (sym held) (subst AtName (sym named) stands) in
    record {
      durable = subst (IsDurable b) (sym named) durable;
      holds = record { here = after.here; counts = after.counts; gate = λ there. after.gate };
      whole = λ known. after.whole;
    }
