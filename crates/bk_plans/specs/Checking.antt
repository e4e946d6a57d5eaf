-- A check in memory, beside the machine's.
use Rattle.std.specs.Prelude.{◌≡◌, ℕ, List, Result, Ok, Err}
use Rattle.bk_machine.specs.Checks.{Checked}
use Rattle.bk_world.specs.declared.rule.Rule.{Rule}
use Rattle.bk_world.specs.declared.rule.Rule.TheVariants.{FileInUse}
use Rattle.bk_plans.specs.declared.refusal.Refusal.{Refusal}
use Rattle.bk_plans.specs.declared.refusal.Refusal.TheVariants.{Broken, NoMemory}

-- the machine refuses by the same rule, unless memory ran out
abbrev pub IsRefused : {B : Type 0} → Refusal → Checked B → Type 0
IsRefused (Broken rule) machine = machine ≡ Err rule
IsRefused NoMemory machine = Unit {0}

-- a check comes to what the machine's comes to: what it found, seen so, or the same rule
abbrev pub IsCheck : {A B : Type 0} → (A → B) → Result A Refusal → Checked B → Type 0
IsCheck view (Ok found) machine = machine ≡ Ok (view found)
IsCheck view (Err refusal) machine = IsRefused refusal machine

-- the refusal by a rule, unless memory ran out
abbrev pub IsBrokenBy : Rule → Refusal → Type 0
IsBrokenBy broken (Broken rule) = rule ≡ broken
IsBrokenBy broken NoMemory = Unit {0}

-- the refusal by a name or a path that is in use, unless memory ran out
abbrev pub IsInUse : List ℕ → Refusal → Type 0
IsInUse what (Broken rule) = rule ≡ FileInUse what
IsInUse what NoMemory = Unit {0}
