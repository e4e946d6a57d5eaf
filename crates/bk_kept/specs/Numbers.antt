-- Numbers below 2^62 that are left in the databases that are kept.
use Rattle.std.specs.Prelude.{◌≡◌, ◌≤◌, ◌+◌, ◌==◌, Bool, true, List, length, nat_le, if◌then◌else◌}
use Rattle.std.specs.List.{list_all}
use Rattle.bk_machine.specs.Checks.{last_number}
use Rattle.bk_machine.specs.statements.Restore.{is_online}
use Rattle.bk_kept.specs.declared.kept.Database.{Database as KeptDatabase}

-- where a database is online, numbers are left: one to undo each pending write, and one to end each open transaction; in another one nothing is open
abbrev pub leaves_numbers : KeptDatabase → Bool
leaves_numbers d = if is_online d.status then nat_le (d.shown.«end» + (length d.shown.written.items + length d.transactions)) last_number else length d.transactions == 0

-- so it is in each of these databases
abbrev pub LeaveNumbers : List KeptDatabase → Type 0
LeaveNumbers databases = list_all leaves_numbers databases ≡ true

-- numbers are left to undo each pending write of a database
abbrev pub CanSettle : KeptDatabase → Type 0
CanSettle d = d.shown.«end» + length d.shown.written.items ≤ last_number

-- and to end one transaction
abbrev pub CanEnd : KeptDatabase → Type 0
CanEnd d = d.shown.«end» + (length d.shown.written.items + 1) ≤ last_number
