-- Tables of databases in memory, what is checked where a row is written, and the cells of that row.
use Rattle.std.specs.Prelude.{◌≡◌, ℕ, Bool, List, Option, Ok, if◌then◌else◌}
use Rattle.bk_ids.specs.declared.record.CellImage.{CellImage}
use Rattle.bk_kept.specs.declared.kept.Database.{Database as KeptDatabase}
use Rattle.bk_kept.specs.Keeps.{database_of}
use Rattle.bk_machine.specs.Checks.{Checked, ◌>>=◌, limit, refuse_if, used_up}
use Rattle.bk_machine.specs.World.{World}
use Rattle.bk_machine.specs.statements.Target.{Target, has_all_writes}
use Rattle.bk_shown.specs.Values.{FitsRow}
use Rattle.bk_undo.specs.Spelled.{image}
use Rattle.bk_world.specs.Entry.{RowChange}
use Rattle.bk_world.specs.declared.database.TableSpec.{TableSpec}
use Rattle.bk_world.specs.declared.rule.Limit.TheVariants.{Writes}
use Rattle.bk_world.specs.declared.rule.Rule.TheVariants.{LimitReached}

-- a table of a database in memory, as the machine has it
abbrev pub target_of : KeptDatabase → TableSpec → Target
target_of d t = record { database = database_of d; table = t }

-- the session's transaction may have one write more, and numbers are left
abbrev pub check_more : World → Target → Checked (Unit {0})
check_more w to = do
  _ ← refuse_if (has_all_writes w to) (LimitReached Writes)
  limit (used_up to.database.end)

-- that is checked where a row is written
abbrev pub check_left : World → Target → Bool → Checked (Unit {0})
check_left w to writes = if writes then check_more w to else Ok tt

-- These are the cells of a row before a change and behind it.
pub record AreCells (old new : CellImage) (c : RowChange) (before : Option (List ℕ)) : Type 0 where
  pub old_is : old ≡ image c.table c.key before
  pub new_is : new ≡ image c.table c.key c.value
  pub fits : FitsRow c.table c.key before c.value
