use Rattle.bk_store.specs.TouchLaws.{touches-then}
use Rattle.bk_hosting.specs.Saying.{telling}
use Rattle.bk_hosting.proofs.Answered.{answered, so}
use Rattle.bk_hosting.proofs.Said.{crash-on}
use Rattle.bk_hosting.proofs.saying.say_lasting.Goals as goal

pub returns-clause-stands : goal.returns-clause-stands
returns-clause-stands g c = λ tells told next is may.
    answered c.flush.result
    (λ _ got.
    so c.flush.result got (c.flush.ensures.stands tells (telling told next) (c.in_ok-say_all.ensures.stands tells told next is may)))

pub returns-clause-crash : goal.returns-clause-crash
returns-clause-crash g c = λ tells told next is may.
    crash-on c.args.store.now c.say_all.new.store (telling told next) (g.D.Device.disk c.args.dev.now) (g.D.Device.disk c.say_all.new.dev) (g.D.Device.disk c.flush.new.dev) c.in_ok-say_all.ensures.number (c.in_ok-say_all.ensures.later tells told next is may)
    (c.say_all.ensures.crash tells told next is may) (c.flush.ensures.crash tells (telling told next) (c.in_ok-say_all.ensures.stands tells told next is may))

pub returns-clause-touches : goal.returns-clause-touches
returns-clause-touches g c = λ tells.
    touches-then c.args.store.now.paged c.say_all.new.store.paged c.in_ok-say_all.ensures.number c.in_ok-say_all.ensures.files (c.say_all.ensures.touches tells) (c.flush.ensures.touches tells)
