use Rattle.std.proofs.lemmas.Result.{on_ok_weaker}
use Rattle.std.proofs.Common.{Bool, subst}
use Rattle.bk_gate.specs.Gate.{IsAt}
use Rattle.bk_gate.proofs.Steps.{close_crash, close_sealed, close_quiet, quiet_none, on_ok_both}
use Rattle.bk_gate.proofs.blob.close.Goals as goal

pub returns-then-is_closed-clause-crash : goal.returns-then-is_closed-clause-crash
returns-then-is_closed-clause-crash g c t =
    let a = g.D.Device.disk c.args.dev.now in
    let at = c.requires t in
    let Is : Bool → Type 0 = λ b. IsAt at.0 c.args.end b c.args.name.now a in
    quiet_none at.0 c.args.end c.args.name.now a (subst Is c.if-is_closed.true at.1)

pub returns-clause-crash : goal.returns-clause-crash
returns-clause-crash g c t =
    let a = g.D.Device.disk c.args.dev.now in
    let at = c.requires t in
    let Is : Bool → Type 0 = λ b. IsAt at.0 c.args.end b c.args.name.now a in
    close_crash at.0 c.args.end c.args.name.now a (g.D.Device.disk c.write_durably.new.dev) (subst Is c.if-is_closed.false at.1) (c.write_durably.ensures.crash t)

pub returns-clause-sealed : goal.returns-clause-sealed
returns-clause-sealed g c t =
    let a = g.D.Device.disk c.args.dev.now in
    let at = c.requires t in
    let Is : Bool → Type 0 = λ b. IsAt at.0 c.args.end b c.args.name.now a in
    on_ok_weaker c.write_durably.result (close_sealed at.0 c.args.end c.args.name.now a (g.D.Device.disk c.write_durably.new.dev) (subst Is c.if-is_closed.false at.1)) (c.write_durably.ensures.written t)

pub returns-clause-quiet : goal.returns-clause-quiet
returns-clause-quiet g c t spans at =
    let a = g.D.Device.disk c.args.dev.now in
    let Is : Bool → Type 0 = λ b. IsAt spans c.args.end b c.args.name.now a in
    on_ok_both c.write_durably.result (close_quiet spans c.args.end c.args.name.now a (g.D.Device.disk c.write_durably.new.dev) (subst Is c.if-is_closed.false at)) (c.write_durably.ensures.written t) (c.write_durably.ensures.durable t)
