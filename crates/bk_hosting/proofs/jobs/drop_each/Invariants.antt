use Rattle.std.proofs.Common.{◌≡◌, ◌++◌, take, drop, map}
use Rattle.bk_hosting.specs.Jobs.{without_job}
use Rattle.bk_hosting.proofs.jobs.drop_each.Given as goal

abbrev pub invariant-loop-state : goal.invariant-loop-state
invariant-loop-state l = l.states ≡ map without_job (take l.state-index l.initial.states) ++ drop l.state-index l.initial.states
