use Rattle.std.proofs.Common.{◌≤◌, ◌-◌, List, length, drop}
use Rattle.bk_world.specs.Records.{Logged}
use Rattle.bk_store.specs.Recent.{SaysFront}
use Rattle.bk_store.proofs.recent.told_behind.Given as goal

abbrev pub invariant-records : goal.invariant-records
invariant-records l = record {
  inside : l.at ≤ length l.log;
  so_far : (rs : List Logged) → SaysFront rs l.fn.log l.fn.first → SaysFront rs (drop l.at l.log) l.recent;
}

abbrev pub decreases-records : goal.decreases-records
decreases-records l = length l.log - l.at
