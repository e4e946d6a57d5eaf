use Rattle.bk_world.proofs.log_laws.a_grown_history_reads_the_same.Goals as goal
use Rattle.bk_world.specs.GrowthLaws.{records-grown}

pub returns : goal.returns
returns c = records-grown
