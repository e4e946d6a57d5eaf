use Rattle.bk_reopening.specs.Reopening.{settled}
use Rattle.bk_store.specs.Told.{said}
use Rattle.bk_store.specs.TouchLaws.{touches-then}
use Rattle.bk_recovering.proofs.recovering.say_last.Goals as goal

pub returns-clause-touches : goal.returns-clause-touches
returns-clause-touches g c = λ tells. touches-then c.args.store.now.paged c.say.new.self.paged c.in_ok-say.ensures.ends.0 c.in_ok-say.ensures.files (c.say.ensures.touches tells) (c.flush.ensures.touches tells)

pub returns-clause-stands : goal.returns-clause-stands
returns-clause-stands g c = λ tells told r is last. c.flush.ensures.stands tells (said (settled told) r) (c.in_ok-say.ensures.stands tells (settled told) r is last.next last.spelled_is)
