use Rattle.std.proofs.Common.{◌≡◌, ◌≤◌, ◌*◌, map, take}
use Rattle.bk_kept.specs.Keeps.{database_of}
use Rattle.bk_machine.specs.Closing as closing
use Rattle.bk_executing.proofs.closing.count_seen.Given as goal

abbrev pub invariant-loop-database : goal.invariant-loop-database
invariant-loop-database l = record {
  counted : l.count ≡ closing.count_open (map database_of (take l.database-index l.seen.databases.items));
  low : l.count ≤ l.database-index * 18446744073709551615;
}
