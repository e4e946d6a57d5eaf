use Rattle.bk_store.specs.Told.{said}
use Rattle.bk_store.specs.LiftLaws.{crash-more, crash-then, sealed-few}
use Rattle.bk_store.proofs.store.Store.say_durably.Goals as goal

pub returns-in_err-say-clause-crash : goal.returns-in_err-say-clause-crash
returns-in_err-say-clause-crash g c t told r is next spells =
    let a = g.D.Device.disk c.args.dev.now in
    crash-more c.args.self.now told r a (g.D.Device.disk c.say.new.dev) (sealed-few c.args.self.now told a is) (c.say.ensures.crash t told is)

pub returns-clause-crash : goal.returns-clause-crash
returns-clause-crash g c t told r is next spells =
    let first = c.in_ok-say.ensures.stands t told r is next spells in
    crash-then c.args.self.now c.say.new.self told r (g.D.Device.disk c.args.dev.now) (g.D.Device.disk c.say.new.dev) (g.D.Device.disk c.flush.new.dev) is c.in_ok-say.ensures.ends.0 (c.in_ok-say.ensures.later t told is)
    (c.say.ensures.crash t told is) (c.flush.ensures.crash t (said told r) first)

pub returns-clause-stands : goal.returns-clause-stands
returns-clause-stands g c t told r is next spells = c.flush.ensures.stands t (said told r) (c.in_ok-say.ensures.stands t told r is next spells)
