-- Moves of a set's files, searched.
use Rattle.std.specs.Prelude.{◌≡◌, ℕ, Bool, not, ◌&&◌, List, Option, Some, None, Ok, Err}
use Rattle.bk_ids.specs.Name.{same_name}
use Rattle.bk_items.specs.declared.options.FileMove.{FileMove}
use Rattle.bk_machine.specs.Checks.{Checked}
use Rattle.bk_machine.specs.statements.Restore.{names_file}
use Rattle.bk_plans.specs.declared.refusal.Refusal.{Refusal}
use Rattle.bk_plans.specs.declared.refusal.Refusal.TheVariants.{Broken, NoMemory}
use Rattle.bk_world.specs.declared.header.Header.{Header}
use Rattle.bk_world.specs.declared.rule.Rule.TheVariants.{UnitNotInSet}

-- a move names no file of a set
abbrev pub is_lost : Header → FileMove → Bool
is_lost header m = not (names_file header m.name) && not (same_name header.log_name m.name)

-- refused at a move, if one was found
abbrev pub move_check : Option FileMove → Checked (Unit {0})
move_check None = Ok tt
move_check (Some m) = Err (UnitNotInSet m.name)

-- the refusal by a name that no file of a set has, unless memory ran out
abbrev pub IsNotInSet : List ℕ → Refusal → Type 0
IsNotInSet name (Broken rule) = rule ≡ UnitNotInSet name
IsNotInSet name NoMemory = Unit {0}
