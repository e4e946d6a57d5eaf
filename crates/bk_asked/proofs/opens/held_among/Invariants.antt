use Rattle.std.proofs.Common.{◌≡◌, drop, map}
use Rattle.bk_kept.specs.Keeps.{database_of}
use Rattle.bk_machine.specs.World.{held_in}
use Rattle.bk_asked.proofs.opens.held_among.Given as goal

abbrev pub invariant-loop-database : goal.invariant-loop-database
invariant-loop-database l = held_in (map database_of (drop l.database-index l.databases)) l.session ≡ held_in (map database_of l.databases) l.session
