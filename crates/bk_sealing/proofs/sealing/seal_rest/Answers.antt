use Rattle.std.proofs.Common.{◌∙◌}
use Rattle.bk_device.specs.Compose.{effect_then}
use Rattle.bk_machine.specs.Acts.{done, set_sealed}
use Rattle.bk_sealing.proofs.Fronts.{sealed-apart}
use Rattle.bk_sealing.proofs.Still.{cut, none-touch, uncut}
use Rattle.bk_sealing.proofs.sealing.seal_rest.Goals as goal

pub returns-in_err-copy_rest-clause-crash : goal.returns-in_err-copy_rest-clause-crash
returns-in_err-copy_rest-clause-crash g c = λ tells w is stands set guid named apart there front. uncut (c.copy_rest.ensures.crash tells w stands set guid named apart)

pub returns-in_err-copy_rest-clause-touches : goal.returns-in_err-copy_rest-clause-touches
returns-in_err-copy_rest-clause-touches g c = λ tells. none-touch (c.copy_rest.ensures.touches tells)

pub returns-in_err-seal_seen-clause-crash : goal.returns-in_err-seal_seen-clause-crash
returns-in_err-seal_seen-clause-crash g c = λ tells w is stands set guid named apart there front.
    let copied = c.in_ok-copy_rest.ensures.stands tells w stands set guid named apart in
    let holds = c.in_ok-copy_rest.ensures.holds tells w is stands set guid named apart there front in
    effect_then (uncut (c.copy_rest.ensures.crash tells w stands set guid named apart)) (c.seal_seen.ensures.crash tells w is copied holds)

pub returns-in_err-seal_seen-clause-touches : goal.returns-in_err-seal_seen-clause-touches
returns-in_err-seal_seen-clause-touches g c = λ tells. effect_then (none-touch (c.copy_rest.ensures.touches tells)) (c.seal_seen.ensures.touches tells)

pub returns-clause-stands : goal.returns-clause-stands
returns-clause-stands g c = λ tells w is stands set guid named apart there front.
    let copied = c.in_ok-copy_rest.ensures.stands tells w stands set guid named apart in
    let holds = c.in_ok-copy_rest.ensures.holds tells w is stands set guid named apart there front in
    let sealed = c.in_ok-seal_seen.ensures.stands tells w is copied holds in
    c.end_set.ensures.stands tells (done w (set_sealed c.args.path.now c.args.header.now)) sealed set guid (c.in_ok-copy_rest.ensures.name ∙ named) (sealed-apart w c.args.path.now c.args.header.now set apart)

pub returns-clause-crash : goal.returns-clause-crash
returns-clause-crash g c = λ tells w is stands set guid named apart there front.
    let copied = c.in_ok-copy_rest.ensures.stands tells w stands set guid named apart in
    let holds = c.in_ok-copy_rest.ensures.holds tells w is stands set guid named apart there front in
    let sealed = c.in_ok-seal_seen.ensures.stands tells w is copied holds in
    effect_then (effect_then (uncut (c.copy_rest.ensures.crash tells w stands set guid named apart)) (c.seal_seen.ensures.crash tells w is copied holds)) (cut (c.end_set.ensures.crash tells (done w (set_sealed c.args.path.now c.args.header.now)) sealed))

pub returns-clause-touches : goal.returns-clause-touches
returns-clause-touches g c = λ tells.
    effect_then (effect_then (none-touch (c.copy_rest.ensures.touches tells)) (c.seal_seen.ensures.touches tells)) (none-touch (c.end_set.ensures.touches tells))
