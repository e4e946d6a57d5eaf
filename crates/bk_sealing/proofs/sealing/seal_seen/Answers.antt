use Rattle.std.proofs.Common.{sym, subst}
use Rattle.bk_engine.specs.Stands.{StandsFor}
use Rattle.bk_sealing.specs.Copied.{HoldsCopy}
use Rattle.bk_sealing.proofs.Still.{moved, uncut}
use Rattle.bk_sealing.proofs.sealing.seal_seen.Goals as goal

pub returns-in_err-ends-clause-crash : goal.returns-in_err-ends-clause-crash
returns-in_err-ends-clause-crash g c = λ tells w is stands copy. uncut (c.at_rest.ensures.crash tells w stands)

pub returns-in_err-seen-clause-crash : goal.returns-in_err-seen-clause-crash
returns-in_err-seen-clause-crash g c = λ tells w is stands copy. uncut (c.at_rest.ensures.crash tells w stands)

pub returns-clause-stands : goal.returns-clause-stands
returns-clause-stands g c = λ tells w is stands copy.
    let here : StandsFor (g.D.Device.disk c.at_rest.new.dev) c.args.engine.now w = subst (λ d. StandsFor (g.D.Device.disk d) c.args.engine.now w) (sym c.at_rest.ensures.same) stands in
    let kept : HoldsCopy w is.db c.args.header.now.checkpoint c.args.header.now.first c.args.header.now.last (g.D.Device.disk c.at_rest.new.dev) c.args.staged.now = subst (λ d. HoldsCopy w is.db c.args.header.now.checkpoint c.args.header.now.first c.args.header.now.last (g.D.Device.disk d) c.args.staged.now) (sym c.at_rest.ensures.same) copy in
    c.seal_over.ensures.stands tells w is here kept

pub returns-clause-crash : goal.returns-clause-crash
returns-clause-crash g c = λ tells w is stands copy.
    let here : StandsFor (g.D.Device.disk c.at_rest.new.dev) c.args.engine.now w = subst (λ d. StandsFor (g.D.Device.disk d) c.args.engine.now w) (sym c.at_rest.ensures.same) stands in
    let kept : HoldsCopy w is.db c.args.header.now.checkpoint c.args.header.now.first c.args.header.now.last (g.D.Device.disk c.at_rest.new.dev) c.args.staged.now = subst (λ d. HoldsCopy w is.db c.args.header.now.checkpoint c.args.header.now.first c.args.header.now.last (g.D.Device.disk d) c.args.staged.now) (sym c.at_rest.ensures.same) copy in
    moved g.D.Device.disk c.args.dev.now c.at_rest.new.dev c.at_rest.ensures.same (c.seal_over.ensures.crash tells w is here kept)
