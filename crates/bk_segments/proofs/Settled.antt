-- What syncs of a log's files did to the device.
use Rattle.std.proofs.Common.{◌≡◌, ◌≤◌, ◌<◌, ℕ, ◌+◌, List, inl, inr, sym, ap, subst, arith}
use Rattle.bk_device.specs.Calls.{LeavesSame, CallsOn, ChangesNothing}
use Rattle.bk_device.specs.Compose.{effect_of_nothing, effect_of_sync, effect_weaken}
use Rattle.bk_device.specs.Disk.{Disk, IsDurable, IsLawful}
use Rattle.bk_device.specs.Effects.{Effect, MayLeaveOwn}
use Rattle.bk_device.specs.Laws.{durable_by_nothing, effect_after_nothing}
use Rattle.bk_device.specs.Names.{same_or_other}
use Rattle.bk_segments.specs.Files.{control_file, segment_file, AreSettled, IsOwn, IsUnheld}
use Rattle.bk_segments.specs.FileLaws.{held_before}

-- what a crash leaves was there
abbrev pub Left : ℕ → Disk → Disk → Type 0
Left db a b = Effect (IsOwn db) (MayLeaveOwn (IsOwn db) a) a b

pub left_nothing : {a b : Disk} (db : ℕ) → ChangesNothing a b → Left db a b
left_nothing db call = effect_of_nothing (λ image mine. mine) call

pub left_sync : {name : List ℕ} {a b : Disk} (db : ℕ) → IsOwn db name → CallsOn name LeavesSame a b → Left db a b
left_sync db own call = effect_of_sync own (λ image mine. mine) call

pub left_then : {a b c : Disk} (db : ℕ) → IsLawful a → ChangesNothing a b → Left db b c → Left db a c
left_then db lawful first second = effect_after_nothing lawful first (effect_weaken (λ image mine name own. first.nothing_more name (image name) (mine name own)) second)

-- one segment more is durable
pub durable_more : (db from n : ℕ) {b c : Disk} → ((m : ℕ) → from ≤ m → m < n → IsDurable b (segment_file db m)) → ChangesNothing b c → IsDurable c (segment_file db n)
    → (m : ℕ) → from ≤ m → m < n + 1 → IsDurable c (segment_file db m)
durable_more db from n {c = c} so_far call here m low high = elim (same_or_other (segment_file db n) (segment_file db m)) [
  | inl same ↦ let Durable : List ℕ → Type 0 = λ name. IsDurable c name in subst Durable (sym same) here
  | inr other ↦ durable_by_nothing (segment_file db m) call (so_far m low (omega (arith, high, differ db m n other)))
]
  where
    differ : (db m n : ℕ) → (segment_file db m ≡ segment_file db n → ⊥) → (m ≡ n → ⊥)
    differ db m n other same = other (ap (segment_file db) same)

-- no head is there
pub settled_none : {b c : Disk} (db : ℕ) → IsDurable b (control_file db) → IsUnheld b.files db → ChangesNothing b c → AreSettled db c
settled_none db control none call = record {
  control = durable_by_nothing (control_file db) call control;
  counted = λ head holds n low high. absurd (none head (held_before db head call holds));
}
