-- Parts of a file that are added to a blob one after the other.
use Rattle.std.proofs.Common.{◌≡◌, ◌≢◌, ◌≤◌, ℕ, ◌+◌, Bool, true, List, ◌++◌, length, take, drop, Option, refl, sym, ap, subst, ◌∙◌, arith, append-nil, append_assoc}
use Rattle.std.specs.Prelude.{unwrap_or}
use Rattle.std.proofs.lemmas.List.{take-append-drop, take-take, drop-take, drop-drop}
use Rattle.bk_device.specs.Calls.{contents, read_at, filled, ChangesNothing}
use Rattle.bk_device.specs.Compose.{effect_none, effect_of_nothing, effect_then, effect_weaken}
use Rattle.bk_device.specs.Disk.{Disk}
use Rattle.bk_device.specs.Effects.{Effect, IsName}
use Rattle.bk_device.specs.Laws.{filled_whole}
use Rattle.bk_gate.specs.Blobs.{sealed}
use Rattle.bk_gate.specs.Gate.{Kept, IsGate, begun_of}
use Rattle.bk_gate.specs.Laws.{gate_left}
use Rattle.sha2.specs.declared.Sha256.{Sha256}
use Rattle.sha2.specs.Hashers.{Holds256}
use Rattle.bk_volume.specs.Writing.{Adds, Copies, LeavesSealed}

pub read_two : (file : List ℕ) (at m n : ℕ) → read_at file at (m + n) ≡ read_at file at m ++ read_at file (at + m) n
read_two file at m n =
    sym (take-append-drop m (take (m + n) (drop at file)))
    ∙ ap (λ (r : List ℕ). r ++ drop m (take (m + n) (drop at file))) (take-take m (m + n) (drop at file) (omega arith))
    ∙ ap (λ (r : List ℕ). take m (drop at file) ++ r) (drop-take m n (drop at file) ∙ ap (take n) (drop-drop m at file))

-- the begun blob is read of the gate's file
begun_same : (gate : Kept) (a b : Disk) → b.files gate.name ≡ a.files gate.name → begun_of b gate ≡ begun_of a gate
begun_same gate a b same = ap (λ (f : Option (List ℕ)). read_at (contents f) (gate.end + 9) (unwrap_or gate.begun 0)) same

-- what was added after a call that changes nothing
adds_after : (old new : Kept) (bytes part : List ℕ) (hasher : Sha256) {a b c : Disk} → ChangesNothing a b → bytes ≡ part → Adds old new bytes hasher b c → Adds old new part hasher a c
adds_after old new bytes part hasher {a} {b} {c} nothing is adds = record {
  stands = adds.stands;
  added = adds.added ∙ ap (λ (f : List ℕ). f ++ bytes) (begun_same old a b (nothing.files old.name)) ∙ ap (λ (p : List ℕ). begun_of a old ++ p) is;
  same = adds.same ∙ ap sealed (nothing.files old.name);
  hashed = adds.hashed;
}

-- one piece: it was read, and added
pub piece_copied : (file : List ℕ) (at room : ℕ) (buffer bytes : List ℕ) (old new : Kept) (hasher : Sha256) {a b c : Disk} → ChangesNothing a b → file ≢ old.name → room ≡ length buffer → at + room ≤ length (contents (a.files file))
    → bytes ≡ filled buffer (read_at (contents (a.files file)) at room) → Effect (IsName old.name) (LeavesSealed old.name b) b c → Adds old new bytes hasher b c → Copies file at room old new hasher a c
piece_copied file at room buffer bytes old new hasher {a} {b} {c} nothing apart is inside read effect adds = record {
  adds = adds_after old new bytes (read_at (contents (a.files file)) at room) hasher nothing (read ∙ filled_whole buffer (contents (a.files file)) at room is inside) adds;
  source = effect.others file apart ∙ nothing.files file;
}

-- a crash before leaves the sealed blobs
pub sealed_left : (gate : Kept) (name : List ℕ) {a b : Disk} → name ≡ gate.name → IsGate a gate → ChangesNothing a b → Effect (IsName name) (LeavesSealed name a) a b
sealed_left gate name {a} {b} is stands nothing =
    let At : List ℕ → Type 0 = λ n. Effect (IsName n) (LeavesSealed n a) a b in
    subst At (sym is) (effect_of_nothing (λ image mine. gate_left (image gate.name) stands (mine gate.name refl)) nothing)

-- so the effect goes on behind blobs that are the same
pub sealed_then : (name : List ℕ) {a b c : Disk} → sealed (b.files name) ≡ sealed (a.files name) → Effect (IsName name) (LeavesSealed name a) a b → Effect (IsName name) (LeavesSealed name b) b c → Effect (IsName name) (LeavesSealed name a) a c
sealed_then name same first second = effect_then first (effect_weaken (λ image is. is ∙ same) second)

-- nothing of a part
pub none_copied : (file : List ℕ) (at : ℕ) (gate : Kept) (hasher : Sha256) (a : Disk) → IsGate a gate → Holds256 hasher (begun_of a gate) → Copies file at 0 gate gate hasher a a
none_copied file at gate hasher a stands hashed = record {
  adds = record { stands = stands; added = sym (append-nil (begun_of a gate)); same = refl; hashed = hashed };
  source = refl;
}

-- a part, and what follows it
pub more_copied : (file : List ℕ) (at m n : ℕ) (old mid new : Kept) (one two : Sha256) {a b c : Disk} → mid.name ≡ old.name → Copies file at m old mid one a b → Copies file (at + m) n mid new two b c → Copies file at (m + n) old new two a c
more_copied file at m n old mid new one two {a} {b} {c} named first second =
    let same : read_at (contents (b.files file)) (at + m) n ≡ read_at (contents (a.files file)) (at + m) n = ap (λ (f : Option (List ℕ)). read_at (contents f) (at + m) n) first.source in
    let Sealed : List ℕ → Type 0 = λ name. sealed (c.files name) ≡ sealed (b.files name) in
    record {
      adds = record {
        stands = second.adds.stands;
        added = second.adds.added ∙ ap (λ (x : List ℕ). x ++ read_at (contents (b.files file)) (at + m) n) first.adds.added
            ∙ append_assoc (begun_of a old) (read_at (contents (a.files file)) at m) (read_at (contents (b.files file)) (at + m) n)
            ∙ ap (λ (x : List ℕ). begun_of a old ++ (read_at (contents (a.files file)) at m ++ x)) same
            ∙ ap (λ (x : List ℕ). begun_of a old ++ x) (sym (read_two (contents (a.files file)) at m n));
        same = subst Sealed named second.adds.same ∙ first.adds.same;
        hashed = second.adds.hashed;
      };
      source = second.source ∙ first.source;
    }

-- bytes that were added, and what was added behind them
pub adds_then : (old mid new : Kept) (x y : List ℕ) (one two : Sha256) {a b c : Disk} → mid.name ≡ old.name → Adds old mid x one a b → Adds mid new y two b c → Adds old new (x ++ y) two a c
adds_then old mid new x y one two {a} {b} {c} named first second =
    let Sealed : List ℕ → Type 0 = λ name. sealed (c.files name) ≡ sealed (b.files name) in
    record {
      stands = second.stands;
      added = second.added ∙ ap (λ (f : List ℕ). f ++ y) first.added ∙ append_assoc (begun_of a old) x y;
      same = subst Sealed named second.same ∙ first.same;
      hashed = second.hashed;
    }

-- a part so far, and what a crash left
pub record Copying (file : List ℕ) (at n : ℕ) (old new : Kept) (hasher : Sha256) (a b : Disk) : Type 0 where
  pub copies : Copies file at n old new hasher a b
  pub effect : Effect (IsName old.name) (LeavesSealed old.name a) a b

pub copying_none : (file : List ℕ) (at : ℕ) (gate : Kept) (hasher : Sha256) (a : Disk) → IsGate a gate → Holds256 hasher (begun_of a gate) → Copying file at 0 gate gate hasher a a
copying_none file at gate hasher a stands hashed = record {
  copies = none_copied file at gate hasher a stands hashed;
  effect = effect_none a (λ image mine. gate_left (image gate.name) stands (mine gate.name refl));
}

-- a call on the gate's file behind blobs that are the same
pub effect_on : (name other : List ℕ) {a b c : Disk} → other ≡ name → sealed (b.files name) ≡ sealed (a.files name) → Effect (IsName name) (LeavesSealed name a) a b → Effect (IsName other) (LeavesSealed other b) b c → Effect (IsName name) (LeavesSealed name a) a c
effect_on name other {a} {b} {c} is same first second =
    let At : List ℕ → Type 0 = λ n. Effect (IsName n) (LeavesSealed n b) b c in
    sealed_then name same first (subst At is second)

pub copying_failed : (file : List ℕ) (at n : ℕ) (old mid : Kept) (hasher : Sha256) {a b c : Disk} → mid.name ≡ old.name → Copying file at n old mid hasher a b → Effect (IsName mid.name) (LeavesSealed mid.name b) b c → Effect (IsName old.name) (LeavesSealed old.name a) a c
copying_failed file at n old mid hasher named first second = effect_on old.name mid.name named first.copies.adds.same first.effect second

pub copying_more : (file : List ℕ) (at m n place next : ℕ) (old mid new : Kept) (one two : Sha256) {a b c : Disk} → mid.name ≡ old.name → place ≡ at + m → next ≡ m + n → Copying file at m old mid one a b → Copies file place n mid new two b c → Effect (IsName mid.name) (LeavesSealed mid.name b) b c
    → Copying file at next old new two a c
copying_more file at m n place next old mid new one two {a} {b} {c} named here more first second effect =
    let Place : ℕ → Type 0 = λ p. Copies file p n mid new two b c in
    let Next : ℕ → Type 0 = λ k. Copies file at k old new two a c in
    record {
      copies = subst Next (sym more) (more_copied file at m n old mid new one two named first.copies (subst Place here second));
      effect = copying_failed file at m old mid one named first effect;
    }

-- what adding changes of a gate
pub gate_same : (old mid new : Kept) → mid ≡ record old { begun = mid.begun; is_closed = mid.is_closed } → new ≡ record mid { begun = new.begun; is_closed = true } → new ≡ record old { begun = new.begun; is_closed = new.is_closed }
gate_same old mid new first second =
    second ∙ ap (λ (m : Kept). record m { begun = new.begun; is_closed = true }) first
    ∙ ap (λ (b : Bool). record old { begun = new.begun; is_closed = b }) (sym (ap (λ (k : Kept). k.is_closed) second))
