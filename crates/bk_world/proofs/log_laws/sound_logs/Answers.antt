use Rattle.std.proofs.Common.{[]}
use Rattle.bk_world.proofs.log_laws.sound_logs.Goals as goal
use Rattle.bk_world.specs.SoundLaws.{follow-front, sound-rise}
use Rattle.bk_world.specs.CrashLaws.{sound-settled}

pub returns-clause-rises : goal.returns-clause-rises
returns-clause-rises c = sound-rise

pub returns-clause-front : goal.returns-clause-front
returns-clause-front c = follow-front []

pub returns-clause-settled : goal.returns-clause-settled
returns-clause-settled c = sound-settled
