use Rattle.std.proofs.Common.{◌∙◌, sym, ap, subst}
use Rattle.bk_device.specs.Effects.{Effect}
use Rattle.bk_device.specs.Laws.{nothing_yet}
use Rattle.bk_engine.specs.Hosting.{Kept as KeptHosting, own_of}
use Rattle.bk_engine.specs.Stands.{Covers, IsOurs, StandsFor}
use Rattle.bk_engine.specs.TouchLaws.{rest-touch}
use Rattle.bk_stores.specs.Standing.{AreStanding}
use Rattle.bk_executing.specs.Executing.{Rests}
use Rattle.bk_executing.proofs.following.make_ready.Goals as goal

pub returns-clause-own : goal.returns-clause-own
returns-clause-own g c = (ap (λ (x : KeptHosting). (own_of x).number) c.ready_backup.ensures.hosting, ap (λ (x : KeptHosting). (own_of x).staging) c.ready_backup.ensures.hosting ∙ c.requires.none)

pub returns-clause-standing : goal.returns-clause-standing
returns-clause-standing g c tells =
    subst (λ (x : KeptHosting). AreStanding (g.D.Device.disk c.ready_backup.new.dev) x.stores) (sym c.ready_backup.ensures.hosting)
    (subst (λ d. AreStanding (g.D.Device.disk d) c.args.engine.now.hosting.stores) (sym (c.ready_backup.ensures.same ∙ c.at_rest.ensures.same)) (c.requires.standing tells))

pub returns-clause-does : goal.returns-clause-does
returns-clause-does g c tells w stands = c.in_ok-ready_backup.ensures.stands tells w (subst (λ d. StandsFor (g.D.Device.disk d) c.args.engine.now w) (sym c.at_rest.ensures.same) stands) tt

pub returns-clause-crash : goal.returns-clause-crash
returns-clause-crash g c tells w stands = subst (λ d. Effect IsOurs (Covers w) (g.D.Device.disk c.args.dev.now) (g.D.Device.disk d)) (sym c.ready_backup.ensures.same) (c.at_rest.ensures.crash tells w stands)

pub returns-clause-still : goal.returns-clause-still
returns-clause-still g c tells =
    subst (λ d. Rests c.args.engine.now (g.D.Device.disk c.args.dev.now) c.ready_backup.new.self (g.D.Device.disk d)) (sym (c.ready_backup.ensures.same ∙ c.at_rest.ensures.same))
    (record { device = nothing_yet (g.D.Device.disk c.args.dev.now); own = ap own_of c.ready_backup.ensures.hosting; drawn = c.ready_backup.ensures.drawn })

pub returns-clause-touches : goal.returns-clause-touches
returns-clause-touches g c tells = rest-touch g.D.Device.disk c.args.dev.now c.ready_backup.new.dev (c.ready_backup.ensures.same ∙ c.at_rest.ensures.same)

pub returns-in_err-ready_backup-clause-crash : goal.returns-in_err-ready_backup-clause-crash
returns-in_err-ready_backup-clause-crash g c tells w stands = subst (λ d. Effect IsOurs (Covers w) (g.D.Device.disk c.args.dev.now) (g.D.Device.disk d)) (sym c.ready_backup.ensures.same) (c.at_rest.ensures.crash tells w stands)

pub returns-in_err-ready_backup-clause-touches : goal.returns-in_err-ready_backup-clause-touches
returns-in_err-ready_backup-clause-touches g c tells = rest-touch g.D.Device.disk c.args.dev.now c.ready_backup.new.dev (c.ready_backup.ensures.same ∙ c.at_rest.ensures.same)
