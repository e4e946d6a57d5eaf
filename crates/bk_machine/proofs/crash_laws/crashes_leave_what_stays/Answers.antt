use Rattle.bk_machine.proofs.Remaining.{what-stays}
use Rattle.bk_machine.proofs.crash_laws.crashes_leave_what_stays.Goals as goal

pub returns : goal.returns
returns c = λ before whole cut kept counter is stays. what-stays before whole cut kept counter is stays
