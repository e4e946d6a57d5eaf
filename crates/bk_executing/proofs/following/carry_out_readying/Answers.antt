use Rattle.std.proofs.Common.{◌∙◌}
use Rattle.std.proofs.lemmas.Result.{on_ok_weaker}
use Rattle.bk_device.specs.Compose.{effect_then}
use Rattle.bk_device.specs.Laws.{nothing_then}
use Rattle.bk_engine.specs.TouchLaws.{wider-touch}
use Rattle.bk_executing.proofs.Results.{of-ok, on-all}
use Rattle.bk_executing.proofs.PartByPart.{front-cuts, ready-cuts, ready-does}
use Rattle.bk_executing.proofs.following.carry_out_readying.Goals as goal

pub returns-in_err-carry_out-clause-crash : goal.returns-in_err-carry_out-clause-crash
returns-in_err-carry_out-clause-crash g c tells = front-cuts c.args.engine.now (g.D.Device.disk c.args.dev.now) (g.D.Device.disk c.carry_out.new.dev) c.args.parts.now c.args.starts (c.carry_out.ensures.crash tells)

pub returns-clause-does : goal.returns-clause-does
returns-clause-does g c tells =
    on-all c.make_ready.result (λ value ok. ready-does c.args.engine.now c.carry_out.new.engine (g.D.Device.disk c.args.dev.now) (g.D.Device.disk c.carry_out.new.dev) (g.D.Device.disk c.make_ready.new.dev) c.args.parts.now c.args.starts (c.in_ok-carry_out.ensures.does tells) c.make_ready.new.engine
    (λ w stands. of-ok c.make_ready.result value ok (c.make_ready.ensures.does tells w stands)))

pub returns-clause-crash : goal.returns-clause-crash
returns-clause-crash g c tells =
    ready-cuts c.args.engine.now c.carry_out.new.engine (g.D.Device.disk c.args.dev.now) (g.D.Device.disk c.carry_out.new.dev) (g.D.Device.disk c.make_ready.new.dev) c.args.parts.now c.args.starts (c.in_ok-carry_out.ensures.does tells) (c.carry_out.ensures.crash tells) (c.make_ready.ensures.crash tells)

pub returns-clause-still : goal.returns-clause-still
returns-clause-still g c tells none =
    let first = c.in_ok-carry_out.ensures.still tells none in
    on_ok_weaker c.make_ready.result (λ then. record { device = nothing_then (g.met.D.Device.lawful tells c.args.dev.now) first.device then.device; own = then.own ∙ first.own; drawn = then.drawn ∙ first.drawn }) (c.make_ready.ensures.still tells)

pub returns-clause-touches : goal.returns-clause-touches
returns-clause-touches g c tells = effect_then (c.carry_out.ensures.touches tells) (wider-touch (λ path none. absurd none) (c.make_ready.ensures.touches tells))
