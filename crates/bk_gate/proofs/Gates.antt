-- The steps of a seal, told of the gate.
use Rattle.std.proofs.Common.{◌≡◌, ◌≤◌, ◌⊎◌, ℕ, ◌+◌, Bool, true, List, [], ◌∷◌, ◌++◌, length, get_or, Some, None, refl, sym, ◌∙◌, subst, arith}
use Rattle.std.specs.Prelude.{unwrap_or}
use Rattle.std.proofs.lemmas.List.Elements.{All-append, All-cons, All-nil}
use Rattle.bk_device.specs.Calls.{contents, read_at}
use Rattle.bk_device.specs.Disk.{Disk}
use Rattle.bk_device.specs.Effects.{Effect, IsName}
use Rattle.bk_gate.specs.Blobs.{sealed}
use Rattle.bk_gate.specs.Gate.{Kept, Quiet, IsAt, IsGate, AreWithin, begun_of}
use Rattle.bk_gate.proofs.Steps.{Keeps, KeepsOrEmpties}

pub seal_named : (gate : Kept) (name : List ℕ) (end len : ℕ) (a b : Disk) → name ≡ gate.name → end ≡ gate.end → len ≡ unwrap_or gate.begun 0 → Effect (IsName name) (λ image. (sealed (image name) ≡ sealed (a.files name)) ⊎ (sealed (image name) ≡ sealed (a.files name) ++ read_at (contents (a.files name)) (end + 9) len ∷ [])) a b → Effect (IsName gate.name) (λ image. (sealed (image gate.name) ≡ sealed (a.files gate.name)) ⊎ (sealed (image gate.name) ≡ sealed (a.files gate.name) ++ begun_of a gate ∷ [])) a b
seal_named gate name end len a b named ended sized effect =
    let ByLen : ℕ → Type 0 = λ l. Effect (IsName name) (λ image. (sealed (image name) ≡ sealed (a.files name)) ⊎ (sealed (image name) ≡ sealed (a.files name) ++ read_at (contents (a.files name)) (end + 9) l ∷ [])) a b in
    let ByEnd : ℕ → Type 0 = λ e. Effect (IsName name) (λ image. (sealed (image name) ≡ sealed (a.files name)) ⊎ (sealed (image name) ≡ sealed (a.files name) ++ read_at (contents (a.files name)) (e + 9) (unwrap_or gate.begun 0) ∷ [])) a b in
    let ByName : List ℕ → Type 0 = λ n. Effect (IsName n) (λ image. (sealed (image n) ≡ sealed (a.files n)) ⊎ (sealed (image n) ≡ sealed (a.files n) ++ read_at (contents (a.files n)) (gate.end + 9) (unwrap_or gate.begun 0) ∷ [])) a b in
    subst ByName named (subst ByEnd ended (subst ByLen sized effect))

pub append_named : (gate : Kept) (name blob : List ℕ) (a b : Disk) → name ≡ gate.name → Effect (IsName name) (λ image. (sealed (image name) ≡ sealed (a.files name)) ⊎ (sealed (image name) ≡ sealed (a.files name) ++ blob ∷ [])) a b → Effect (IsName gate.name) (λ image. (sealed (image gate.name) ≡ sealed (a.files gate.name)) ⊎ (sealed (image gate.name) ≡ sealed (a.files gate.name) ++ blob ∷ [])) a b
append_named gate name blob a b named effect =
    let ByName : List ℕ → Type 0 = λ n. Effect (IsName n) (λ image. (sealed (image n) ≡ sealed (a.files n)) ⊎ (sealed (image n) ≡ sealed (a.files n) ++ blob ∷ [])) a b in
    subst ByName named effect

-- the same of a call that keeps the blobs, or empties the file
pub keeps_named : (gate : Kept) (name : List ℕ) (a b : Disk) → name ≡ gate.name → Effect (IsName name) (Keeps name a) a b → Effect (IsName gate.name) (Keeps gate.name a) a b
keeps_named gate name a b named effect =
    let ByName : List ℕ → Type 0 = λ n. Effect (IsName n) (Keeps n a) a b in
    subst ByName named effect

pub empties_named : (gate : Kept) (name : List ℕ) (a b : Disk) → name ≡ gate.name → Effect (IsName name) (KeepsOrEmpties name a) a b → Effect (IsName gate.name) (KeepsOrEmpties gate.name a) a b
empties_named gate name a b named effect =
    let ByName : List ℕ → Type 0 = λ n. Effect (IsName n) (KeepsOrEmpties n a) a b in
    subst ByName named effect

-- a gate whose begun blob has so many bytes
pub added_gate : {gate : Kept} {a b : Disk} (name : List ℕ) (size : ℕ) → name ≡ gate.name → IsGate a gate → ((spans : List (ℕ × ℕ)) → IsAt spans gate.end gate.is_closed name a → Quiet spans gate.end name b) → gate.end + 9 + size ≤ length (contents (b.files name)) → IsGate b (record gate { begun = Some size; is_closed = true })
added_gate {gate = gate} {a = a} {b = b} name size named is quiet room =
    let OfQuiet : List ℕ → Type 0 = λ n. (spans : List (ℕ × ℕ)) → IsAt spans gate.end gate.is_closed n a → Quiet spans gate.end n b in
    let OfRoom : List ℕ → Type 0 = λ n. gate.end + 9 + size ≤ length (contents (b.files n)) in
    record {
      at = subst OfQuiet named quiet gate.spans is.at;
      room = λ n begun more. let same : size ≡ n = cc in (refl, omega (arith, same, subst OfRoom named room));
    }

-- a gate with no blob begun, behind whose blobs the gate byte is closed
pub quiet_gate : {gate : Kept} {b : Disk} (spans : List (ℕ × ℕ)) (end : ℕ) (name : List ℕ) → name ≡ gate.name → spans ≡ gate.spans → end ≡ gate.end → true ≡ gate.is_closed → gate.begun ≡ None → Quiet spans end name b → IsGate b gate
quiet_gate {gate = gate} {b = b} spans end name named spanned ended closed none quiet =
    let OfName : List ℕ → Type 0 = λ n. Quiet spans end n b in
    let OfSpans : List (ℕ × ℕ) → Type 0 = λ s. Quiet s end gate.name b in
    let OfEnd : ℕ → Type 0 = λ e. Quiet gate.spans e gate.name b in
    let OfClosed : Bool → Type 0 = λ is. IsAt gate.spans gate.end is gate.name b in
    record {
      at = subst OfClosed closed (subst OfEnd ended (subst OfSpans spanned (subst OfName named quiet)));
      room = λ n begun more. let never : None ≡ Some n = sym none ∙ begun in absurd (cc);
    }

-- one more blob behind the others
pub within_pushed : (end next : ℕ) (spans items : List (ℕ × ℕ)) (span : ℕ × ℕ) → end ≤ next → span.0 + span.1 ≤ next → items ≡ spans ++ span ∷ [] → AreWithin end spans → AreWithin next items
within_pushed end next spans items span less here is within =
    let Next : ℕ × ℕ → Type 0 = λ s. s.0 + s.1 ≤ next in
    let Of : List (ℕ × ℕ) → Type 0 = AreWithin next in
    let others : AreWithin next spans = λ i d below.
    let before : (get_or spans i d).0 + (get_or spans i d).1 ≤ end = within i d below in
    omega (arith, before, less) in
    subst Of (sym is) (All-append Next spans (span ∷ []) others (All-cons Next span [] here (All-nil Next)))
