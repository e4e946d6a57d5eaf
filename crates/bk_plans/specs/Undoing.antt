-- Records by which pending writes are undone.
use Rattle.std.specs.Prelude.{◌≡◌, ℕ, ◌+◌, List, length, Option, None, Some}
use Rattle.bk_acts.specs.Meaning.{Spell}
use Rattle.bk_plans.specs.declared.undoing.Numbered.{Numbered}
use Rattle.bk_world.specs.Pending.{Pending, of_transaction}
use Rattle.bk_world.specs.Says.{undoing}

-- the writes of one transaction, or all
abbrev pub those_of : Option ℕ → List Pending → List Pending
those_of None ws = ws
those_of (Some begin) ws = of_transaction begin ws

-- records that undo these writes, from a number on
pub record Undoes (first : ℕ) (ws : List Pending) (n : Numbered) : Type 0 where
  pub spell : Spell n.records.items first (undoing ws)
  pub next : n.next ≡ first + length ws
