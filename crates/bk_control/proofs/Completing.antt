-- Bringing a control file to its whole length.
use Rattle.std.proofs.Common.{◌≡◌, ◌≢◌, ◌≤◌, ℕ, min, List, length, take, drop, Option, Some, None, Bool, false, refl, inl, inr, sym, ◌∙◌, ap, subst, arith, lit≤, lit<, length-take, length-drop}
use Rattle.std.specs.Prelude.{slice_index, option_map, ◌==◌}
use Rattle.std.proofs.lemmas.Bool.{ne_eqb}
use Rattle.std.proofs.lemmas.List.{take-take}
use Rattle.bk_device.specs.Calls.{contents, LeavesCut, LeavesSame, CallsOn, ChangesNothing}
use Rattle.bk_device.specs.Compose.{effect_then, effect_weaken, effect_of_step, effect_of_nothing}
use Rattle.bk_device.specs.Disk.{Files, Disk, IsDurable}
use Rattle.bk_device.specs.Effects.{Effect, IsName}
use Rattle.bk_control.specs.declared.side.Side.{Side}
use Rattle.bk_control.specs.declared.side.Side.TheVariants.{First, Second}
use Rattle.bk_control.specs.Slots.{Slot, slot_in, slot_at, counting}
use Rattle.bk_control.specs.Stands.{Holds, Stands, Grows, Lengthens}
use Rattle.bk_control.proofs.Growing.{Growing, grown_byte, slot_grown, counting_grown, lengthens_grows, short_at, open_long}
use Rattle.bk_control.proofs.SlotLaws.{closed, counts_alone}

abbrev pub Counts : List ℕ → Option Slot → Files → Type 0
Counts name slot image = counting (contents (image name)) ≡ slot

-- without the second slot the first one counts

pub cut_first : (file : List ℕ) → slot_at (take 65600 file) 0 ≡ slot_at file 0
cut_first file = ap slot_in (take-take 65600 65600 file (lit≤ tt))

cut_counts : (file : List ℕ) (is_open : Bool) (slot : Slot) → Holds First is_open slot file → counting (take 65600 file) ≡ counting file
cut_counts file is_open slot holds =
    counts_alone First (take 65600 file) (short_at 65600 (take 65600 file) (omega (arith, length-take 65600 file)))
    ∙ cut_first file ∙ holds.here ∙ sym holds.counts

pub cut_contents : (file : Option (List ℕ)) → contents (option_map (take 65600) file) ≡ take 65600 (contents file)
cut_contents None = refl
cut_contents (Some file) = refl

pub cut_step : (name : List ℕ) (is_open : Bool) (slot : Slot) (a b : Disk) → IsDurable a name → Holds First is_open slot (contents (a.files name)) → CallsOn name (LeavesCut 65600) a b → Effect (IsName name) (Counts name (counting (contents (a.files name)))) a b
cut_step name is_open slot a b durable holds call =
    effect_of_step {P = λ image. image name ≡ a.files name} refl (λ image mine. durable (image name) (mine name refl)) (λ before after was leaves others.
    let Here : Option (List ℕ) → Type 0 = λ file. counting (contents file) ≡ counting (contents (a.files name)) in
    elim leaves [
      | inl same ↦ subst Here (sym (same ∙ was)) refl
      | inr cut ↦ ap (λ (file : Option (List ℕ)). counting (contents file)) (cut ∙ ap (option_map (take 65600)) was)
          ∙ ap counting (cut_contents (a.files name))
          ∙ cut_counts (contents (a.files name)) is_open slot holds
    ]) call

pub same_step : (name : List ℕ) (slot : Option Slot) (a b c : Disk) → Effect (IsName name) (Counts name slot) a b → CallsOn name LeavesSame b c → Effect (IsName name) (Counts name slot) a c
same_step name slot a b c first call =
    effect_then first
    (effect_of_step refl first.now (λ before after so_far leaves others.
    let Here : Option (List ℕ) → Type 0 = λ file. counting (contents file) ≡ slot in
    subst Here (sym leaves) so_far) call)

-- a second slot behind the first

-- the first slot counts, in a file without the second
pub record Alone (slot : Slot) (file : List ℕ) : Type 0 where
  pub short : length file ≤ 65600
  pub here : slot_at file 0 ≡ Some slot

pub alone : (slot : Slot) (left : ℕ) (before after : List ℕ) → left ≡ length after → left ≤ 65600 → slot_at after 0 ≡ slot_at before 0 → slot_at before 0 ≡ Some slot → Alone slot after
alone slot left before after size short same here = record { short = omega (arith, size, short); here = same ∙ here }

alone_counts : (slot : Slot) (file : List ℕ) → Alone slot file → counting file ≡ Some slot
alone_counts slot file alone = counts_alone First file (short_at 65600 file (omega (arith, alone.short))) ∙ alone.here

pub grows_alone : (slot : Slot) (file after : List ℕ) → Alone slot file → Grows 65609 file after → counting after ≡ Some slot
grows_alone slot file after alone grows =
    counting_grown 65609 file after (inr (inr (inl (slot, alone.here)))) (inl (omega (arith, alone.short), lit< tt)) grows ∙ alone_counts slot file alone

-- with the second slot's gate byte, which is closed
pub record Gated (slot : Slot) (file : List ℕ) : Type 0 where
  pub size : length file ≡ 65609
  pub here : slot_at file 0 ≡ Some slot
  pub gate : slice_index file 65608 ≡ 0

pub gated : (slot : Slot) (before after : List ℕ) → Alone slot before → Lengthens 65609 before after → Gated slot after
gated slot before after alone lengthens = record {
  size = omega (arith, lengthens.size, alone.short);
  here = slot_grown 65609 0 before after (inr (inr (inl (slot, alone.here)))) (lengthens_grows 65609 before after lengthens) ∙ alone.here;
  gate = lengthens.zeros 65608 (omega (arith, alone.short));
}

gated_shut : (slot : Slot) (file : List ℕ) → Gated slot file → slice_index file 65608 ≢ 1
gated_shut slot file gate one = absurd (omega (arith, gate.gate, one))

pub grows_gated : (slot : Slot) (file after : List ℕ) → Gated slot file → Grows 131200 file after → counting after ≡ Some slot
grows_gated slot file after gate grows =
    counting_grown 131200 file after (inr (inr (inl (slot, gate.here)))) (inr (inl (omega (arith, gate.size), gated_shut slot file gate))) grows
    ∙ counts_alone First file (closed 65600 file (gated_shut slot file gate)) ∙ gate.here

pub whole_gated : (slot : Slot) (before after : List ℕ) → Gated slot before → Lengthens 131200 before after → Stands First false slot after
whole_gated slot before after gate lengthens =
    let grows = lengthens_grows 131200 before after lengthens in
    let byte : slice_index after 65608 ≡ 0 = grown_byte 131200 65608 before after grows (omega (arith, gate.size)) ∙ gate.gate in
    record {
      whole = omega (arith, lengthens.size);
      here = slot_grown 131200 0 before after (inr (inr (inl (slot, gate.here)))) grows ∙ gate.here;
      counts = grows_gated slot before after gate grows;
      gate = sym (ne_eqb _ 1 (λ one. absurd (omega (arith, byte, one))));
    }

pub add_front : (name : List ℕ) (slot : Slot) (counted : Option Slot) (a b c : Disk) → counted ≡ Some slot → Effect (IsName name) (Counts name counted) a b → Alone slot (contents (b.files name)) → Effect (IsName name) (Growing name 65609 b) b c → Effect (IsName name) (Counts name counted) a c
add_front name slot counted a b c is first alone effect =
    effect_then first (effect_weaken (λ image grows. grows_alone slot (contents (b.files name)) (contents (image name)) alone grows ∙ sym is) effect)

pub add_rest : (name : List ℕ) (slot : Slot) (counted : Option Slot) (a b c : Disk) → counted ≡ Some slot → Effect (IsName name) (Counts name counted) a b → Gated slot (contents (b.files name)) → Effect (IsName name) (Growing name 131200 b) b c → Effect (IsName name) (Counts name counted) a c
add_rest name slot counted a b c is first gate effect =
    effect_then first (effect_weaken (λ image grows. grows_gated slot (contents (b.files name)) (contents (image name)) gate grows ∙ sym is) effect)

-- the rest of a second slot that counts

past_first : (file : List ℕ) (slot : Slot) → slot_at file 65600 ≡ Some slot → 65632 ≤ length file
past_first file slot here =
    let long = open_long _ slot here in
    let size : length (take 65600 (drop 65600 file)) ≡ min 65600 (length (drop 65600 file)) = length-take 65600 (drop 65600 file) in
    omega (arith, long, size, length-drop 65600 file)

pub grows_second : (is_open : Bool) (slot : Slot) (file after : List ℕ) → Holds Second is_open slot file → Grows 131200 file after → counting after ≡ counting file
grows_second is_open slot file after holds grows =
    counting_grown 131200 file after (inr (inr (inr (omega (arith, past_first file slot holds.here))))) (inr (inr (inl (slot, holds.here)))) grows

pub whole_second : (is_open : Bool) (slot : Slot) (before after : List ℕ) → Holds Second is_open slot before → Lengthens 131200 before after → Stands Second is_open slot after
whole_second is_open slot before after holds lengthens =
    let grows = lengthens_grows 131200 before after lengthens in
    let long : 65632 ≤ length before = past_first before slot holds.here in
    let byte : slice_index after 8 ≡ slice_index before 8 = grown_byte 131200 8 before after grows (omega arith) in
    record {
      whole = omega (arith, lengthens.size);
      here = slot_grown 131200 65600 before after (inr (inr (inl (slot, holds.here)))) grows ∙ holds.here;
      counts = grows_second is_open slot before after holds grows ∙ holds.counts;
      gate = holds.gate (omega arith) ∙ ap (λ (b : ℕ). b == 1) (sym byte);
    }

pub second_part : (name : List ℕ) (is_open : Bool) (slot : Slot) (a b : Disk) → Holds Second is_open slot (contents (a.files name)) → Effect (IsName name) (Growing name 131200 a) a b → Effect (IsName name) (Counts name (counting (contents (a.files name)))) a b
second_part name is_open slot a b holds effect =
    effect_weaken (λ image grows. grows_second is_open slot (contents (a.files name)) (contents (image name)) holds grows) effect

-- after the file's length was asked

pub first_stands : (side : Side) (is_open : Bool) (slot : Slot) (before mid after : List ℕ) → side ≡ First → mid ≡ before → Holds side is_open slot before → ((is : Bool) (s : Slot) → Holds First is s mid → Stands First false s after) → Stands side false slot after
first_stands side is_open slot before mid after is same holds stands =
    let At : Side → Type 0 = λ s. Holds s is_open slot before in
    let Of : List ℕ → Type 0 = λ file. Holds First is_open slot file in
    let Done : Side → Type 0 = λ s. Stands s false slot after in
    subst Done (sym is) (stands is_open slot (subst Of (sym same) (subst At is holds)))

pub second_stands : (side : Side) (is_open : Bool) (slot : Slot) (before mid after : List ℕ) → side ≡ Second → mid ≡ before → Holds side is_open slot before → Lengthens 131200 mid after → Stands side is_open slot after
second_stands side is_open slot before mid after is same holds lengthens =
    let At : Side → Type 0 = λ s. Holds s is_open slot before in
    let Of : List ℕ → Type 0 = λ file. Holds Second is_open slot file in
    let Done : Side → Type 0 = λ s. Stands s is_open slot after in
    subst Done (sym is) (whole_second is_open slot mid after (subst Of (sym same) (subst At is holds)) lengthens)

pub second_crash : (name : List ℕ) (side : Side) (is_open : Bool) (slot : Slot) (a b d : Disk) → side ≡ Second → IsDurable a name → ChangesNothing a b → Holds side is_open slot (contents (a.files name)) → Effect (IsName name) (Growing name 131200 b) b d → Effect (IsName name) (Counts name (counting (contents (a.files name)))) a d
second_crash name side is_open slot a b d is durable nothing holds effect =
    let same : contents (b.files name) ≡ contents (a.files name) = ap contents (nothing.files name) in
    let At : Side → Type 0 = λ s. Holds s is_open slot (contents (a.files name)) in
    let Of : List ℕ → Type 0 = λ file. Holds Second is_open slot file in
    let By : List ℕ → Type 0 = λ file. Effect (IsName name) (Counts name (counting file)) b d in
    effect_then
    (effect_of_nothing (λ image mine. ap (λ (file : Option (List ℕ)). counting (contents file)) (durable (image name) (mine name refl))) nothing)
    (subst By same (second_part name is_open slot b d (subst Of (sym same) (subst At is holds)) effect))
