-- The steps of a put, told of the control.
use Rattle.std.proofs.Common.{◌≡◌, ◌<◌, ◌⊎◌, ℕ, ◌+◌, List, [], ◌∷◌, Some, Bool, true, false, refl, inl, inr, sym, ◌∙◌, ap, subst}
use Rattle.bk_device.specs.Calls.{contents, written, LeavesWrite}
use Rattle.bk_device.specs.Compose.{effect_then, effect_weaken}
use Rattle.bk_device.specs.Disk.{Disk, IsDurable}
use Rattle.bk_device.specs.Effects.{Effect, IsName}
use Rattle.bk_control.specs.declared.side.Side.{Side}
use Rattle.bk_control.specs.Control.{Kept, IsControl, IsReady, slot_of, control_value}
use Rattle.bk_device.specs.Laws.{torn-contents}
use Rattle.bk_control.specs.Slots.{Slot, control_of, other, place}
use Rattle.bk_control.specs.Stands.{Holds, Stands, Rewrites}
use Rattle.bk_control.proofs.SlotLaws.{dropping, dropping_done, advancing_done, other_other}

-- a control whose slots are both there in their whole length
pub ready_control : {disk : Disk} {control : Kept} → IsReady disk control → IsControl disk control
ready_control is = record {
  durable = is.durable;
  holds = record { here = is.stands.here; counts = is.stands.counts; gate = λ there. is.stands.gate };
  whole = λ known. is.stands.whole;
}

pub ready_value : {disk : Disk} {control : Kept} → IsReady disk control → control_of (disk.files control.name) ≡ Some control.content
ready_value is = control_value (ready_control is)

-- the slot that counts is the other of the one that is written
pub stands_before : (side : Side) (control : Kept) (name : List ℕ) (a : Disk) → IsReady a control → side ≡ other control.side → name ≡ control.name → Stands (other side) control.is_other_open (slot_of control) (contents (a.files name))
stands_before side control name a is turned named =
    let At : Side → Type 0 = λ s. Stands s control.is_other_open (slot_of control) (contents (a.files name)) in
    let Of : List ℕ → Type 0 = λ n. Stands control.side control.is_other_open (slot_of control) (contents (a.files n)) in
    subst At (sym (ap other turned ∙ other_other control.side)) (subst Of (sym named) is.stands)

-- what a crash leaves, under the control's own name
pub put_crash : (control : Kept) (name bytes : List ℕ) (a b : Disk) → IsReady a control → name ≡ control.name → Effect (IsName name) (λ image. (control_of (image name) ≡ control_of (a.files name)) ⊎ (control_of (image name) ≡ Some bytes)) a b → Effect (IsName control.name) (λ image. (control_of (image control.name) ≡ Some control.content) ⊎ (control_of (image control.name) ≡ Some bytes)) a b
put_crash control name bytes a b is named effect =
    let By : List ℕ → Type 0 = λ n. Effect (IsName n) (λ image. (control_of (image n) ≡ control_of (a.files n)) ⊎ (control_of (image n) ≡ Some bytes)) a b in
    effect_weaken (λ image either. elim either [ inl old ↦ inl (old ∙ ready_value is) | inr new ↦ inr new ]) (subst By named effect)

pub put_done : (side : Side) (control : Kept) (name : List ℕ) (a b : Disk) (sequence : ℕ) (bytes content : List ℕ) → IsReady a control → side ≡ other control.side → name ≡ control.name → control.sequence < sequence → Rewrites side (record { sequence = sequence; bytes = bytes }) (contents (a.files name)) (contents (b.files name)) → IsDurable b name → content ≡ bytes → IsReady b (record { name = control.name; content = content; failed = control.failed; side = side; sequence = sequence; is_other_open = true; is_whole = control.is_whole })
put_done side control name a b sequence bytes content is turned named less rewrites durable same =
    let At : List ℕ → List ℕ → Type 0 = λ n x. Stands side true (record { sequence = sequence; bytes = x }) (contents (b.files n)) in
    let AtName : List ℕ → Type 0 = λ n. At n bytes in
    let AtBytes : List ℕ → Type 0 = λ x. At control.name x in
    let after = advancing_done side (slot_of control) (record { sequence = sequence; bytes = bytes }) control.is_other_open (contents (a.files name)) (contents (b.files name)) (stands_before side control name a is turned named) less rewrites in
    record {
      durable = subst (IsDurable b) named durable;
      stands = subst AtBytes (sym same) (subst AtName named after);
    }

-- the two halves of a renumbering

pub same_crash : (control : Kept) (name bytes : List ℕ) (a b : Disk) → IsReady a control → name ≡ control.name → bytes ≡ control.content → Effect (IsName name) (λ image. (control_of (image name) ≡ control_of (a.files name)) ⊎ (control_of (image name) ≡ Some bytes)) a b → Effect (IsName control.name) (λ image. control_of (image control.name) ≡ Some control.content) a b
same_crash control name bytes a b is named same effect =
    effect_weaken (λ image either. elim either [ inl old ↦ old | inr new ↦ new ∙ ap Some same ]) (put_crash control name bytes a b is named effect)

pub drop_crash : (side : Side) (control : Kept) (name name2 bytes : List ℕ) (start : ℕ) (a b d : Disk) → IsReady a control → side ≡ other control.side → name ≡ control.name → name2 ≡ control.name → bytes ≡ control.content → start ≡ place control.side → Rewrites side (record { sequence = 0; bytes = bytes }) (contents (a.files name)) (contents (b.files name)) → Effect (IsName name2) (λ image. LeavesWrite (start + 8) 1 (b.files name2) (image name2)) b d → Effect (IsName control.name) (λ image. control_of (image control.name) ≡ Some control.content) b d
drop_crash side control name name2 bytes start a b d is turned named named2 same starts rewrites effect =
    let new : Slot = record { sequence = 0; bytes = bytes } in
    let By : List ℕ → Type 0 = λ n. Effect (IsName n) (λ image. LeavesWrite (start + 8) 1 (b.files n) (image n)) b d in
    let At : List ℕ → Type 0 = λ n. Rewrites side new (contents (a.files n)) (contents (b.files n)) in
    let place_is : start ≡ place (other side) = starts ∙ ap place (sym (ap other turned ∙ other_other control.side)) in
    effect_weaken (λ image leaves.
    let Torn : ℕ → Type 0 = λ p. LeavesWrite (p + 8) 1 (b.files control.name) (image control.name) in
    dropping side (slot_of control) new control.is_other_open (contents (a.files control.name)) (contents (b.files control.name)) (contents (image control.name))
    (stands_before side control control.name a is turned refl) (sym same) (subst At named rewrites)
    (torn-contents (place (other side) + 8) 1 (b.files control.name) (image control.name) (subst Torn place_is leaves))
    ∙ ap Some same)
    (subst By named2 effect)

pub drop_done : (side : Side) (control : Kept) (name name2 bytes content : List ℕ) (start : ℕ) (a b d : Disk) → IsReady a control → side ≡ other control.side → name ≡ control.name → name2 ≡ control.name → content ≡ bytes → start ≡ place control.side → Rewrites side (record { sequence = 0; bytes = bytes }) (contents (a.files name)) (contents (b.files name)) → d.files name2 ≡ Some (written (contents (b.files name2)) (start + 8) (0 ∷ [])) → IsDurable d name2 → IsReady d (record { name = control.name; content = content; failed = control.failed; side = side; sequence = 0; is_other_open = false; is_whole = control.is_whole })
drop_done side control name name2 bytes content start a b d is turned named named2 same starts rewrites wrote durable =
    let new : Slot = record { sequence = 0; bytes = bytes } in
    let place_is : start ≡ place (other side) = starts ∙ ap place (sym (ap other turned ∙ other_other control.side)) in
    let At : List ℕ → Type 0 = λ n. Rewrites side new (contents (a.files n)) (contents (b.files n)) in
    let Wrote : List ℕ → Type 0 = λ n. d.files n ≡ Some (written (contents (b.files n)) (start + 8) (0 ∷ [])) in
    let file : contents (d.files control.name) ≡ written (contents (b.files control.name)) (place (other side) + 8) (0 ∷ []) =
    ap contents (subst Wrote named2 wrote) ∙ ap (λ (p : ℕ). written (contents (b.files control.name)) (p + 8) (0 ∷ [])) place_is in
    let After : List ℕ → Type 0 = λ f. Stands side false new f in
    let Bytes : List ℕ → Type 0 = λ x. Stands side false (record { sequence = 0; bytes = x }) (contents (d.files control.name)) in
    record {
      durable = subst (IsDurable d) named2 durable;
      stands = subst Bytes (sym same) (subst After (sym file) (dropping_done side new (contents (a.files control.name)) (contents (b.files control.name)) (subst At named rewrites)));
    }

-- the file was brought to its whole length
pub whole_done : (before : Kept) (name : List ℕ) (is_open : Bool) (a b : Disk) → IsControl a before → name ≡ before.name → ((slot : Slot) → Holds before.side before.is_other_open slot (contents (a.files name)) → Stands before.side is_open slot (contents (b.files name))) → IsDurable b name → IsReady b (record { name = before.name; content = before.content; failed = before.failed; side = before.side; sequence = before.sequence; is_other_open = is_open; is_whole = true })
whole_done before name is_open a b is named stands durable =
    let AtName : List ℕ → Type 0 = λ n. Holds before.side before.is_other_open (slot_of before) (contents (a.files n)) in
    let Done : List ℕ → Type 0 = λ n. Stands before.side is_open (slot_of before) (contents (b.files n)) in
    record {
      durable = subst (IsDurable b) named durable;
      stands = subst Done named (stands (slot_of before) (subst AtName (sym named) is.holds));
    }

-- two steps that keep the content
pub kept_after : (control next : Kept) (a b d : Disk) → next.name ≡ control.name → next.content ≡ control.content → Effect (IsName control.name) (λ image. control_of (image control.name) ≡ Some control.content) a b → Effect (IsName next.name) (λ image. control_of (image next.name) ≡ Some next.content) b d → Effect (IsName control.name) (λ image. control_of (image control.name) ≡ Some control.content) a d
kept_after control next a b d named same first second =
    let By : List ℕ → Type 0 = λ n. Effect (IsName n) (λ image. control_of (image n) ≡ Some next.content) b d in
    effect_then first (effect_weaken (λ image old. old ∙ ap Some same) (subst By named second))

-- a step that keeps the content, and then a put
pub put_after : (control next : Kept) (bytes : List ℕ) (a b d : Disk) → next.name ≡ control.name → next.content ≡ control.content → Effect (IsName control.name) (λ image. control_of (image control.name) ≡ Some control.content) a b → Effect (IsName next.name) (λ image. (control_of (image next.name) ≡ Some next.content) ⊎ (control_of (image next.name) ≡ Some bytes)) b d → Effect (IsName control.name) (λ image. (control_of (image control.name) ≡ Some control.content) ⊎ (control_of (image control.name) ≡ Some bytes)) a d
put_after control next bytes a b d named same first second =
    let By : List ℕ → Type 0 = λ n. Effect (IsName n) (λ image. (control_of (image n) ≡ Some next.content) ⊎ (control_of (image n) ≡ Some bytes)) b d in
    effect_then (effect_weaken (λ image old. inl old) first)
    (effect_weaken (λ image either. elim either [ inl old ↦ inl (old ∙ ap Some same) | inr new ↦ inr new ]) (subst By named second))
