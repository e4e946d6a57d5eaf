use Rattle.bk_machine.proofs.LeftNumbers.{may-stay}
use Rattle.bk_machine.proofs.crash_laws.fronts_may_stay.Goals as goal

pub returns : goal.returns
returns c = may-stay
