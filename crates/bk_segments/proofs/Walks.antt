-- What a walk over the last segment found.
use Rattle.std.proofs.Common.{◌≡◌, ℕ, List, refl, sym, ap, subst, ◌∙◌}
use Rattle.bk_device.specs.Calls.{contents, ChangesNothing}
use Rattle.bk_device.specs.Compose.{keeps_by_nothing, durable_kept}
use Rattle.bk_device.specs.Disk.{Disk, IsDurable}
use Rattle.bk_device.specs.Effects.{IsName}
use Rattle.bk_gate.specs.Gate.{IsGate, Kept as KeptGate}
use Rattle.bk_gate.specs.Opened.{IsOpened, opened_stands}

-- what changes nothing leaves nothing pending
pub settled : (name : List ℕ) {a b : Disk} → ChangesNothing a b → IsDurable a name → IsDurable b name
settled name call durable = durable_kept {names = IsName name} name refl (keeps_by_nothing call) durable

-- the gate that was opened by the bytes that were read stands
pub opened_gate : (at name file : List ℕ) (a b : Disk) (gate : KeptGate) → name ≡ at → gate.name ≡ at → IsOpened file gate → file ≡ contents (a.files name) → ChangesNothing a b → IsDurable a at → IsGate b gate
opened_gate at name file a b gate named gate_is opened bytes call durable =
    let Open : List ℕ → Type 0 = λ f. IsOpened f gate in
    let Durable : List ℕ → Type 0 = IsDurable b in
    let here : file ≡ contents (b.files gate.name) = bytes ∙ ap (λ (n : List ℕ). contents (a.files n)) (named ∙ sym gate_is) ∙ ap contents (sym (call.files gate.name)) in
    opened_stands (subst Open here opened) (subst Durable (sym gate_is) (settled at call durable))
