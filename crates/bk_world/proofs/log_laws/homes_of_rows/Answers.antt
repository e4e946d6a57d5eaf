use Rattle.bk_world.specs.HomeLaws.{homed}
use Rattle.bk_world.proofs.log_laws.homes_of_rows.Goals as goal

pub returns : goal.returns
returns c = homed
