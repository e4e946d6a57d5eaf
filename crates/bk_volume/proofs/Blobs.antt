-- The blob of a set from its parts.
use Rattle.std.proofs.Common.{◌≡◌, ◌≢◌, ℕ, List, [], ◌∷◌, ◌++◌, Option, Some, inl, inr, sym, ap, subst, ◌∙◌}
use Rattle.bk_device.specs.Calls.{contents, read_at}
use Rattle.bk_device.specs.Compose.{effect_then, effect_weaken}
use Rattle.bk_device.specs.Disk.{Files, Disk}
use Rattle.bk_device.specs.Effects.{Effect, IsName}
use Rattle.bk_gate.specs.Blobs.{sealed}
use Rattle.bk_gate.specs.Gate.{Kept, begun_of}
use Rattle.sha2.specs.declared.Sha256.{Sha256}
use Rattle.sha2.specs.Sha256.{sha256}
use Rattle.bk_volume.specs.Writing.{Adds, Copies, LeavesSealed, parts_of, with_digest, HasSealed, LeavesGrown}
use Rattle.bk_volume.proofs.Copying.{adds_then}

-- the parts, one after the other
pub parts_put : (file front size : List ℕ) (n m : ℕ) (k0 k1 k2 k3 k4 : Kept) (h1 h2 h3 h4 : Sha256) {d0 d1 d2 d3 d4 : Disk} {P Q : Files → Type 0} → file ≢ k0.name → k1.name ≡ k0.name → k2.name ≡ k1.name → k3.name ≡ k2.name
    → Adds k0 k1 front h1 d0 d1 → Effect (IsName k0.name) P d0 d1 → Copies file 0 n k1 k2 h2 d1 d2 → Adds k2 k3 size h3 d2 d3 → Effect (IsName k2.name) Q d2 d3 → Copies file n m k3 k4 h4 d3 d4
    → Adds k0 k4 (parts_of front (contents (d0.files file)) n size m) h4 d0 d4
parts_put file front size n m k0 k1 k2 k3 k4 h1 h2 h3 h4 {d0} {d1} {d2} {d3} {d4} apart one two three first crash second third later fourth =
    let same1 : d1.files file ≡ d0.files file = crash.others file apart in
    let same3 : d3.files file ≡ d0.files file = later.others file (λ is. apart (is ∙ two ∙ one)) ∙ second.source ∙ same1 in
    let read : ℕ → ℕ → Option (List ℕ) → List ℕ = λ at len f. read_at (contents f) at len in
    let all = adds_then k0 k1 k4 front (read 0 n (d1.files file) ++ (size ++ read n m (d3.files file))) h1 h4 one first
    (adds_then k1 k2 k4 (read 0 n (d1.files file)) (size ++ read n m (d3.files file)) h2 h4 two second.adds
    (adds_then k2 k3 k4 size (read n m (d3.files file)) h3 h4 three third fourth.adds)) in
    let Of : List ℕ → Type 0 = λ bytes. Adds k0 k4 bytes h4 d0 d4 in
    subst Of (ap (λ (f : Option (List ℕ)). front ++ (read 0 n f ++ (size ++ read n m (d3.files file)))) same1 ∙ ap (λ (f : Option (List ℕ)). front ++ (read 0 n (d0.files file) ++ (size ++ read n m f))) same3) all

-- the blob that was begun with nothing, and its digest
pub blob_is : (gate new : Kept) (parts digest : List ℕ) (hasher : Sha256) {a b : Disk} → Adds (record gate { begun = Some 0 }) new parts hasher a b → digest ≡ sha256 (begun_of b new) → begun_of b new ++ digest ≡ with_digest parts
blob_is gate new parts digest hasher {a} {b} adds is =
    let begun : begun_of b new ≡ parts = adds.added in
    ap (λ (d : List ℕ). begun_of b new ++ d) is ∙ ap with_digest begun

-- the blob is sealed
pub parts_sealed : (gate new : Kept) (parts digest : List ℕ) (hasher : Sha256) (file : Option (List ℕ)) {a b : Disk} → new.name ≡ gate.name → Adds (record gate { begun = Some 0 }) new parts hasher a b → digest ≡ sha256 (begun_of b new)
    → HasSealed new.name (begun_of b new ++ digest) b file → HasSealed gate.name (with_digest parts) a file
parts_sealed gate new parts digest hasher file {a} {b} named adds is has =
    has ∙ ap (λ (n : List ℕ). sealed (b.files n) ++ (begun_of b new ++ digest) ∷ []) named ∙ ap (λ (s : List (List ℕ)). s ++ (begun_of b new ++ digest) ∷ []) adds.same
    ∙ ap (λ (blob : List ℕ). sealed (a.files gate.name) ++ blob ∷ []) (blob_is gate new parts digest hasher adds is)

-- the same, from the gate whose blob was begun
pub parts_sealed_from : (gate began new : Kept) (parts digest : List ℕ) (hasher : Sha256) (c : Disk) {a b : Disk} → began ≡ record gate { begun = Some 0 } → new.name ≡ began.name → Adds began new parts hasher a b → digest ≡ sha256 (begun_of b new)
    → HasSealed new.name (begun_of b new ++ digest) b (c.files new.name) → HasSealed gate.name (with_digest parts) a (c.files gate.name)
parts_sealed_from gate began new parts digest hasher c {a} {b} start named adds is has =
    let Of : Kept → Type 0 = λ k. Adds k new parts hasher a b in
    let name : new.name ≡ gate.name = named ∙ ap (λ (k : Kept). k.name) start in
    parts_sealed gate new parts digest hasher (c.files gate.name) name (subst Of start adds) is (subst (λ (n : List ℕ). HasSealed new.name (begun_of b new ++ digest) b (c.files n)) name has)

-- and a crash leaves the blobs that there were, or it too
pub parts_crash : (gate new : Kept) (parts digest : List ℕ) (hasher : Sha256) {a b c : Disk} → new.name ≡ gate.name → Adds (record gate { begun = Some 0 }) new parts hasher a b → digest ≡ sha256 (begun_of b new)
    → Effect (IsName gate.name) (LeavesSealed gate.name a) a b → Effect (IsName new.name) (LeavesGrown new.name (begun_of b new ++ digest) b) b c → Effect (IsName gate.name) (LeavesGrown gate.name (with_digest parts) a) a c
parts_crash gate new parts digest hasher {a} {b} {c} named adds is first second =
    let At : List ℕ → Type 0 = λ n. Effect (IsName n) (LeavesGrown n (begun_of b new ++ digest) b) b c in
    let Grown : List ℕ → Files → Type 0 = λ n image. HasSealed n (begun_of b new ++ digest) b (image n) in
    effect_then (effect_weaken (λ image same. inl same) first) (effect_weaken (λ image either. elim either [
      | inl same ↦ inl (same ∙ adds.same)
      | inr grown ↦ inr (parts_sealed gate new parts digest hasher (image gate.name) named adds is (subst (λ (n : List ℕ). HasSealed n (begun_of b new ++ digest) b (image gate.name)) (sym named) grown))
    ]) (subst At named second))

-- nothing was sealed
pub grown_none : (name blob : List ℕ) {a b : Disk} → Effect (IsName name) (LeavesSealed name a) a b → Effect (IsName name) (LeavesGrown name blob a) a b
grown_none name blob effect = effect_weaken (λ image same. inl same) effect

-- the same, from the gate whose blob was begun
pub parts_crash_from : (gate began new : Kept) (parts digest : List ℕ) (hasher : Sha256) {a b c : Disk} → began ≡ record gate { begun = Some 0 } → new.name ≡ began.name → Adds began new parts hasher a b → digest ≡ sha256 (begun_of b new)
    → Effect (IsName began.name) (LeavesSealed began.name a) a b → Effect (IsName new.name) (LeavesGrown new.name (begun_of b new ++ digest) b) b c → Effect (IsName gate.name) (LeavesGrown gate.name (with_digest parts) a) a c
parts_crash_from gate began new parts digest hasher {a} {b} {c} start named adds is first second =
    let Of : Kept → Type 0 = λ k. Adds k new parts hasher a b in
    let At : Kept → Type 0 = λ k. Effect (IsName k.name) (LeavesSealed k.name a) a b in
    parts_crash gate new parts digest hasher (named ∙ ap (λ (k : Kept). k.name) start) (subst Of start adds) is (subst At start first) second
