-- What the steps of a write did to the device.
use Rattle.std.proofs.Common.{◌≡◌, ◌≤◌, ◌<◌, ◌^◌, ◌⊎◌, ℕ, ◌+◌, List, [], ◌∷◌, length, Option, Some, Bool, true, false, refl, inl, inr, sym, ◌∙◌, ap, subst, arith}
use Rattle.std.specs.Prelude.{option_map}
use Rattle.bk_device.specs.Calls.{contents, written, LeavesWrite, LeavesSame, CallsOn}
use Rattle.bk_device.specs.Compose.{effect_then, effect_weaken, effect_none, effect_of_step}
use Rattle.bk_device.specs.Disk.{Files, Disk, IsDurable}
use Rattle.bk_device.specs.Effects.{Effect, IsName}
use Rattle.bk_control.specs.declared.side.Side.{Side}
use Rattle.bk_control.specs.declared.side.Side.TheVariants.{First, Second}
use Rattle.bk_device.specs.Laws.{torn-contents}
use Rattle.bk_control.specs.Slots.{Slot, counting, control_of, other, place}
use Rattle.bk_control.specs.Stands.{Stands, IsFilled, ChangesSlot, Rewrites, MayFollow}
use Rattle.bk_control.proofs.SlotLaws.{changes_none, changes_torn, closing, closing_done, filling, opening, opening_done, other_other}

-- filling a slot

abbrev pub Filling : List ℕ → ℕ → Disk → Files → Type 0
Filling name start a image = ChangesSlot start (contents (a.files name)) (contents (image name))

pub fill_starts : (name : List ℕ) (start : ℕ) (a : Disk) → IsDurable a name → Effect (IsName name) (Filling name start a) a a
fill_starts name start a durable =
    effect_none a (λ image mine.
    let Here : Option (List ℕ) → Type 0 = λ file. ChangesSlot start (contents (a.files name)) (contents file) in
    subst Here (sym (durable (image name) (mine name refl))) (changes_none start (contents (a.files name))))

pub fill_step : (name : List ℕ) (start at n : ℕ) (a b c : Disk) → start + 65600 ≤ length (contents (a.files name)) → (start ≤ at) × (at + n ≤ start + 8) ⊎ (start + 9 ≤ at) × (at + n ≤ start + 65600) → Effect (IsName name) (Filling name start a) a b → CallsOn name (LeavesWrite at n) b c → Effect (IsName name) (Filling name start a) a c
fill_step name start at n a b c whole inside first call =
    effect_then first
    (effect_of_step refl first.now (λ before after so_far leaves others.
    changes_torn start at n (contents (a.files name)) (contents (before name)) (contents (after name)) whole inside so_far (torn-contents at n (before name) (after name) leaves)) call)

pub fill_sync : (name : List ℕ) (start : ℕ) (a b c : Disk) → Effect (IsName name) (Filling name start a) a b → CallsOn name LeavesSame b c → Effect (IsName name) (Filling name start a) a c
fill_sync name start a b c first call =
    effect_then first
    (effect_of_step refl first.now (λ before after so_far leaves others.
    let Here : Option (List ℕ) → Type 0 = λ file. ChangesSlot start (contents (a.files name)) (contents file) in
    subst Here (sym leaves) so_far) call)

-- the content at each crash

abbrev bytes_of : Option Slot → Option (List ℕ)
bytes_of slot = option_map (λ (s : Slot). s.bytes) slot

-- while a gate is closed
pub close_step : (name : List ℕ) (side : Side) (old : Slot) (start : ℕ) (a b : Disk) → start ≡ place side → Stands (other side) true old (contents (a.files name)) → Effect (IsName name) (λ image. LeavesWrite (start + 8) 1 (a.files name) (image name)) a b → Effect (IsName name) (λ image. counting (contents (image name)) ≡ counting (contents (a.files name))) a b
close_step name side old start a b is stands effect =
    effect_weaken (λ image leaves.
    let Torn : ℕ → Type 0 = λ p. LeavesWrite (p + 8) 1 (a.files name) (image name) in
    closing (other side) old (contents (a.files name)) (contents (image name)) stands
    (torn-contents (place (other (other side)) + 8) 1 (a.files name) (image name) (subst Torn (is ∙ ap place (sym (other_other side))) leaves))
    ∙ sym stands.counts) effect

pub close_end : (side : Side) (is_open : Bool) (old : Slot) (start : ℕ) (before : List ℕ) → start ≡ place side → Stands (other side) is_open old before → Stands (other side) false old (written before (start + 8) (0 ∷ []))
close_end side is_open old start before is stands =
    let At : ℕ → Type 0 = λ p. Stands (other side) false old (written before (p + 8) (0 ∷ [])) in
    subst At (ap place (other_other side) ∙ sym is) (closing_done (other side) is_open old before stands)

abbrev pub OldOrNew : List ℕ → Option (List ℕ) → List ℕ → Files → Type 0
OldOrNew name before bytes image = (control_of (image name) ≡ before) ⊎ (control_of (image name) ≡ Some bytes)

pub close_part : (name : List ℕ) (bytes : List ℕ) (a b : Disk) → Effect (IsName name) (λ image. counting (contents (image name)) ≡ counting (contents (a.files name))) a b → Effect (IsName name) (OldOrNew name (control_of (a.files name)) bytes) a b
close_part name bytes a b effect = effect_weaken (λ image same. inl (ap bytes_of same)) effect

-- while a slot is filled
pub fill_part : (name bytes : List ℕ) (before : Option (List ℕ)) (side : Side) (old : Slot) (start : ℕ) (a b : Disk) → start ≡ place side → Stands (other side) false old (contents (a.files name)) → before ≡ Some old.bytes → Effect (IsName name) (Filling name start a) a b → Effect (IsName name) (OldOrNew name before bytes) a b
fill_part name bytes before side old start a b is stands content effect =
    effect_weaken (λ image changes.
    let At : ℕ → Type 0 = λ p. ChangesSlot p (contents (a.files name)) (contents (image name)) in
    let after = filling (other side) old (contents (a.files name)) (contents (image name)) stands (subst At (is ∙ ap place (sym (other_other side))) changes) in
    inl (ap bytes_of after.counts ∙ sym content)) effect

pub fill_end : (side : Side) (old : Slot) (start : ℕ) (before after : List ℕ) → start ≡ place side → Stands (other side) false old before → ChangesSlot start before after → Stands (other side) false old after
fill_end side old start before after is stands changes =
    let At : ℕ → Type 0 = λ p. ChangesSlot p before after in
    filling (other side) old before after stands (subst At (is ∙ ap place (sym (other_other side))) changes)

-- while a gate is opened
pub open_part : (name : List ℕ) (before : Option (List ℕ)) (side : Side) (old new : Slot) (start : ℕ) (a b : Disk) → start ≡ place side → Stands (other side) false old (contents (a.files name)) → before ≡ Some old.bytes → IsFilled start new (contents (a.files name)) → new.sequence < 2 ^ 64 → length new.bytes ≤ 65536 → MayFollow old new → Effect (IsName name) (λ image. LeavesWrite (start + 8) 1 (a.files name) (image name)) a b → Effect (IsName name) (OldOrNew name before new.bytes) a b
open_part name before side old new start a b is stands content filled small short follows effect =
    let Filled : ℕ → Type 0 = λ p. IsFilled p new (contents (a.files name)) in
    effect_weaken (λ image leaves.
    let Torn : ℕ → Type 0 = λ p. LeavesWrite (p + 8) 1 (a.files name) (image name) in
    elim (opening side old new (contents (a.files name)) (contents (image name)) stands (subst Filled is filled) small short follows (torn-contents (place side + 8) 1 (a.files name) (image name) (subst Torn is leaves))) [
      | inl stays ↦ inl (ap bytes_of stays ∙ sym content)
      | inr changed ↦ inr changed
    ]) effect

pub open_end : (side : Side) (old new : Slot) (start : ℕ) (before : List ℕ) → start ≡ place side → Stands (other side) false old before → IsFilled start new before → new.sequence < 2 ^ 64 → length new.bytes ≤ 65536 → Rewrites side new before (written before (start + 8) (1 ∷ []))
open_end side old new start before is stands filled small short =
    let Filled : ℕ → Type 0 = λ p. IsFilled p new before in
    let At : ℕ → Type 0 = λ p. Rewrites side new before (written before (p + 8) (1 ∷ [])) in
    subst At (sym is) (opening_done side old new before stands (subst Filled is filled) small short)

pub place_bound : (side : Side) (start : ℕ) → start ≡ place side → start ≤ 65600
place_bound First start is = omega (arith, is)
place_bound Second start is = omega (arith, is)

pub same_start : (side : Side) (p q : ℕ) (new : Slot) {file : List ℕ} → p ≡ place side → q ≡ place side → IsFilled p new file → IsFilled q new file
same_start side p q new {file} is_p is_q filled = let Filled : ℕ → Type 0 = λ n. IsFilled n new file in subst Filled (is_p ∙ sym is_q) filled

-- what was rewritten after the other slot was filled, as against the file before that
pub rebased : (side : Side) (new old : Slot) (first between after : List ℕ) {is_open : Bool} → Stands (other side) is_open old first → Stands (other side) false old between → Rewrites side new between after → Rewrites side new first after
rebased side new old first between after begins filled rewrites = record {
  whole = rewrites.whole;
  here = rewrites.here;
  there = rewrites.there ∙ filled.here ∙ sym begins.here;
}
