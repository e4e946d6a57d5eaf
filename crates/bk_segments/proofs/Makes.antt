-- What making the files of a log did to the device.
use Rattle.std.proofs.Common.{◌≡◌, ◌⊎◌, ℕ, List, [], ◌∷◌, ◌++◌, map, Some, None, refl, inl, inr, sym, ap, subst, ◌∙◌, arith}
use Rattle.bk_control.specs.Control.{IsControl, control_value, control_durable, Kept as KeptControl}
use Rattle.bk_control.specs.Slots.{control_of}
use Rattle.bk_device.specs.Calls.{contents}
use Rattle.bk_device.specs.Compose.{effect_then, effect_weaken, effect_widen, effect_none, keeps_by_effect, durable_kept}
use Rattle.bk_device.specs.Disk.{Files, Disk, IsDurable}
use Rattle.bk_device.specs.Effects.{Effect, IsName}
use Rattle.bk_gate.specs.Blobs.{sealed, part_of}
use Rattle.bk_gate.specs.BlobLaws.{foreign_blobs}
use Rattle.bk_gate.specs.Gate.{IsGate, Kept as KeptGate}
use Rattle.bk_gate.specs.Laws.{gate_sealed}
use Rattle.bk_segments.specs.FileLaws.{control_not_segment}
use Rattle.bk_segments.specs.Files.{control_file, segment_file, IsOwn}
use Rattle.bk_segments.specs.Making.{Made}

-- an absent file has no blob
pub none_sealed : sealed None ≡ []
none_sealed = foreign_blobs [] (λ is. absurd (omega (arith, is.1)))

-- nor has a gate without spans
pub no_spans : (a : Disk) (gate : KeptGate) → IsGate a gate → gate.spans ≡ [] → sealed (a.files gate.name) ≡ []
no_spans a gate is none = gate_sealed is ∙ ap (map (part_of (contents (a.files gate.name)))) none

pub empty_at : (at : List ℕ) (a : Disk) (gate : KeptGate) → gate.name ≡ at → IsGate a gate → gate.spans ≡ [] → sealed (a.files at) ≡ []
empty_at at a gate is stands none = let Empty : List ℕ → Type 0 = λ n. sealed (a.files n) ≡ [] in subst Empty is (no_spans a gate stands none)

-- ---- a new segment

-- nothing was done yet
pub segment_untouched : (at : List ℕ) (a : Disk) → Effect (IsName at) (λ image. a.may at (image at) ⊎ (sealed (image at) ≡ []) ⊎ (sealed (image at) ≡ [] ∷ [])) a a
segment_untouched at a = effect_none a (λ image mine. inl (mine at refl))

-- it was made, and then a blob without a byte was sealed in it
pub segment_made : (at name : List ℕ) (a b : Disk) → name ≡ at → Effect (IsName name) (λ image. a.may name (image name) ⊎ (sealed (image name) ≡ [])) a b
    → Effect (IsName at) (λ image. a.may at (image at) ⊎ (sealed (image at) ≡ []) ⊎ (sealed (image at) ≡ [] ∷ [])) a b
segment_made at name a b is making =
    let At : List ℕ → Type 0 = λ n. Effect (IsName n) (λ image. a.may n (image n) ⊎ (sealed (image n) ≡ [])) a b in
    effect_weaken (λ image here. elim here [ inl old ↦ inl old | inr none ↦ inr (inl none) ]) (subst At is making)

pub segment_begun : (at name gate_name : List ℕ) (a b c : Disk) → name ≡ at → gate_name ≡ at → Effect (IsName name) (λ image. a.may name (image name) ⊎ (sealed (image name) ≡ [])) a b → sealed (b.files at) ≡ []
    → Effect (IsName gate_name) (λ image. (sealed (image gate_name) ≡ sealed (b.files gate_name)) ⊎ (sealed (image gate_name) ≡ sealed (b.files gate_name) ++ [] ∷ [])) b c
    → Effect (IsName at) (λ image. a.may at (image at) ⊎ (sealed (image at) ≡ []) ⊎ (sealed (image at) ≡ [] ∷ [])) a c
segment_begun at name gate_name a b c is gate_is making none sealing =
    let At : List ℕ → Type 0 = λ n. Effect (IsName n) (λ image. (sealed (image n) ≡ sealed (b.files n)) ⊎ (sealed (image n) ≡ sealed (b.files n) ++ [] ∷ [])) b c in
    effect_then (segment_made at name a b is making) (effect_weaken (λ image here. elim here [
      | inl old ↦ inr (inl (old ∙ none))
      | inr new ↦ inr (inr (new ∙ ap (λ (bs : List (List ℕ)). bs ++ [] ∷ []) none))
    ]) (subst At gate_is sealing))

-- and that is its only one
pub begun_sealed : (at gate_name : List ℕ) (b c : Disk) → gate_name ≡ at → sealed (b.files at) ≡ [] → sealed (c.files gate_name) ≡ sealed (b.files gate_name) ++ [] ∷ [] → sealed (c.files at) ≡ [] ∷ []
begun_sealed at gate_name b c is none more =
    let More : List ℕ → Type 0 = λ n. sealed (c.files n) ≡ sealed (b.files n) ++ [] ∷ [] in
    subst More is more ∙ ap (λ (bs : List (List ℕ)). bs ++ [] ∷ []) none

-- ---- making the files

-- the first segment was removed
pub make_first : {P : Files → Type 0} (db : ℕ) (bytes name : List ℕ) (a b : Disk) → name ≡ segment_file db 1 → IsDurable a (control_file db) → control_of (a.files (control_file db)) ≡ None → Effect (IsName name) P a b → Effect (IsOwn db) (Made db bytes) a b
make_first db bytes name a b named durable none effect =
    effect_widen (λ n at. inr (1, at ∙ named)) (λ image here left. inl (ap control_of (durable (image (control_file db)) (left (control_file db) (λ same. control_not_segment db 1 (same ∙ named)) (inl refl))) ∙ none)) effect

kept_control : {P : Files → Type 0} (db : ℕ) (name : List ℕ) (a b : Disk) → name ≡ segment_file db 1 → Effect (IsName name) P a b → IsDurable a (control_file db) → IsDurable b (control_file db)
kept_control db name a b named effect durable = durable_kept {names = IsName (control_file db)} (control_file db) refl (keeps_by_effect (λ n at same. control_not_segment db 1 (sym at ∙ (same ∙ named))) effect) durable

same_control : {P : Files → Type 0} (db : ℕ) (name : List ℕ) (a b : Disk) → name ≡ segment_file db 1 → Effect (IsName name) P a b → b.files (control_file db) ≡ a.files (control_file db)
same_control db name a b named effect = effect.others (control_file db) (λ same. control_not_segment db 1 (same ∙ named))

-- then the control was made
pub make_second : {P : Files → Type 0} (db : ℕ) (bytes name first : List ℕ) (a b c : Disk) → first ≡ segment_file db 1 → name ≡ control_file db → IsDurable a (control_file db) → control_of (a.files (control_file db)) ≡ None
    → Effect (IsName first) P a b → b.files first ≡ None → IsDurable b first
    → Effect (IsName name) (λ image. b.may name (image name) ⊎ (control_of (image name) ≡ None) ⊎ (control_of (image name) ≡ Some bytes)) b c
    → Effect (IsOwn db) (Made db bytes) a c
make_second db bytes name first a b c named is durable none removing removed gone making =
    let At : List ℕ → Type 0 = λ n. Effect (IsName n) (λ image. b.may n (image n) ⊎ (control_of (image n) ≡ None) ⊎ (control_of (image n) ≡ Some bytes)) b c in
    let Durable : List ℕ → Type 0 = λ n. IsDurable b n in
    let Absent : List ℕ → Type 0 = λ n. b.files n ≡ None in
    let there : IsDurable b (segment_file db 1) = subst Durable named gone in
    let absent : b.files (segment_file db 1) ≡ None = subst Absent named removed in
    let before : b.files (control_file db) ≡ a.files (control_file db) = same_control db first a b named removing in
    let settled : IsDurable b (control_file db) = kept_control db first a b named removing durable in
    effect_then (make_first db bytes first a b named durable none removing)
    (effect_widen (λ n at. inl at) (λ image here left. elim here [
      | inl old ↦ inl (ap control_of (settled (image (control_file db)) old ∙ before) ∙ none)
      | inr other ↦ elim other [
        | inl nothing ↦ inl nothing
        | inr made ↦ inr (made, inl (ap sealed (there (image (segment_file db 1)) (left (segment_file db 1) (λ same. control_not_segment db 1 (sym same)) (inr (1, refl))) ∙ absent) ∙ none_sealed))
      ]
    ]) (subst At is making))

-- then the first segment
pub make_third : {Q : Files → Type 0} (db : ℕ) (bytes first name : List ℕ) (a b c d : Disk) (control : KeptControl) → first ≡ segment_file db 1 → name ≡ control_file db → control.name ≡ control_file db → control.content ≡ bytes → IsControl c control → b.files first ≡ None → IsDurable b first
    → Effect (IsOwn db) (Made db bytes) a c → Effect (IsName name) Q b c
    → Effect (IsName (segment_file db 1)) (λ image. c.may (segment_file db 1) (image (segment_file db 1)) ⊎ (sealed (image (segment_file db 1)) ≡ []) ⊎ (sealed (image (segment_file db 1)) ≡ [] ∷ [])) c d
    → Effect (IsOwn db) (Made db bytes) a d
make_third db bytes first name a b c d control named called is content controls removed gone so_far making last =
    let off : (n : List ℕ) → IsName first n → IsName name n → ⊥ = λ n at same. control_not_segment db 1 (sym called ∙ (sym same ∙ (at ∙ named))) in
    let keeps = keeps_by_effect {names = IsName first} off making in
    let Durable : List ℕ → Type 0 = λ n. IsDurable c n in
    let Absent : List ℕ → Type 0 = λ n. c.files n ≡ None in
    let there : IsDurable c (segment_file db 1) = subst Durable named (durable_kept first refl keeps gone) in
    let absent : c.files (segment_file db 1) ≡ None = subst Absent named (keeps.same first refl ∙ removed) in
    let settled : IsDurable c (control_file db) = subst Durable is (control_durable controls) in
    let held : control_of (c.files (control_file db)) ≡ Some bytes = ap (λ (n : List ℕ). control_of (c.files n)) (sym is) ∙ control_value controls ∙ ap (λ (x : List ℕ). Some x) content in
    effect_then so_far
    (effect_widen (λ n at. inr (1, at)) (λ image here left.
    let same : control_of (image (control_file db)) ≡ Some bytes = ap control_of (settled (image (control_file db)) (left (control_file db) (control_not_segment db 1) (inl refl))) ∙ held in
    elim here [
      | inl old ↦ inr (same, inl (ap sealed (there (image (segment_file db 1)) old ∙ absent) ∙ none_sealed))
      | inr new ↦ inr (same, new)
    ]) last)
