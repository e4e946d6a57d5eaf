-- What goes on being known of names that aren't noted.
use Rattle.std.proofs.Common.{◌≡◌, ◌≢◌, ℕ, List, Option, inl, inr, sym, ◌∙◌, subst}
use Rattle.bk_device.specs.Calls.{LeavesSame, CallsOn}
use Rattle.bk_device.specs.Disk.{Disk, IsDurable, IsLawful}
use Rattle.bk_device.specs.Names.{same_or_other}
use Rattle.bk_settling.specs.declared.noted.Noted.{Noted}
use Rattle.bk_settling.specs.Noted.{IsNoted, Knows}

-- what is durable

-- a call leaves other names durable
durable_through : {name : List ℕ} {leaves : Option (List ℕ) → Option (List ℕ) → Type 0} {a b : Disk} → CallsOn name leaves a b → (other : List ℕ) → other ≢ name → IsDurable a other → IsDurable b other
durable_through call other differ durable content may = durable content (call.others_left other content differ may) ∙ sym (call.others other differ)

-- a sync leaves its own durable too, even where it fails
durable_by_sync : {name : List ℕ} {a b : Disk} → IsLawful b → CallsOn name LeavesSame a b → IsDurable a name → IsDurable b name
durable_by_sync {name} {a} {b} lawful call durable content may =
    let before : (c : Option (List ℕ)) → b.may name c → c ≡ a.files name = λ c left. let one = call.left c left in one.2 ∙ durable one.0 one.1 in
    before content may ∙ sym (before (b.files name) (lawful.reads name))

-- what is known

-- a sync of any name
pub knows_sync : {name : List ℕ} {a b : Disk} (noted : Noted) → IsLawful b → CallsOn name LeavesSame a b → Knows noted a → Knows noted b
knows_sync {name} {a} {b} noted lawful call knows whole other off =
    elim (same_or_other name other) [
      | inl is ↦ subst (IsDurable b) (sym is) (durable_by_sync lawful call (subst (IsDurable a) is (knows whole other off)))
      | inr differ ↦ durable_through call other differ (knows whole other off)
    ]

-- a durable name is taken out
pub knows_less : (old new : Noted) (name : List ℕ) (disk : Disk) → IsDurable disk name → ((other : List ℕ) → other ≢ name → IsNoted old other → IsNoted new other) → new.lost ≡ old.lost → Knows old disk → Knows new disk
knows_less old new name disk durable kept lost knows whole other off =
    elim (same_or_other name other) [
      | inl is ↦ subst (IsDurable disk) (sym is) durable
      | inr differ ↦ knows (sym lost ∙ whole) other (λ on. off (kept other differ on))
    ]
