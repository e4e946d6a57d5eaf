use Rattle.std.proofs.Common.{◌∙◌, inl, sym, subst}
use Rattle.bk_device.specs.Compose.{effect_weaken}
use Rattle.bk_device.specs.Effects.{Effect}
use Rattle.bk_engine.specs.Acts.{CutsAct}
use Rattle.bk_engine.specs.Stands.{IsOurs, StandsFor}
use Rattle.bk_engine.specs.Touched.{NoMedium, TouchesOnly}
use Rattle.bk_engine.proofs.Begun.{all-of, begun-of}
use Rattle.bk_machine.specs.Acts.{job_set}
use Rattle.std.specs.Prelude.{[], Some}
use Rattle.bk_volume.specs.Staging.{HoldsParts}
use Rattle.bk_engine.specs.Copied.{staging_of}
use Rattle.bk_engine.proofs.engine.Engine.start_set.Goals as goal

pub returns-clause-stands : goal.returns-clause-stands
returns-clause-stands g c = λ tells w is starts.
    let begun : StandsFor (g.D.Device.disk c.begin_copying.new.dev) c.begin_copying.new.self w = c.in_ok-begin_copying.ensures.stands tells w is starts.apart in
    c.put_job.ensures.stands tells w (subst (λ d. StandsFor (g.D.Device.disk d) c.begin_copying.new.self w) (sym c.at_rest.ensures.same) begun) starts.may
    (begun-of w c.args.name.now c.args.job (g.D.Device.disk c.at_rest.new.dev) starts.db starts.found c.begin_copying.ensures.guid starts.whole (all-of w c.args.name.now starts.db begun.sound starts.found)
    (subst (λ d. HoldsParts (g.D.Device.disk d) (staging_of c.args.job.set 0) [] []) (sym c.at_rest.ensures.same) (c.in_ok-begin_copying.ensures.empty tells)))

pub returns-in_err-begin_copying-clause-crash : goal.returns-in_err-begin_copying-clause-crash
returns-in_err-begin_copying-clause-crash g c = λ tells w is starts. effect_weaken (λ image covers. inl covers) (c.begin_copying.ensures.crash tells w is)

pub returns-clause-crash : goal.returns-clause-crash
returns-clause-crash g c = λ tells w is starts.
    subst (λ d. Effect IsOurs (CutsAct w (job_set c.args.name.now (Some c.args.job))) (g.D.Device.disk c.args.dev.now) (g.D.Device.disk d)) (sym (c.put_job.ensures.same ∙ c.at_rest.ensures.same))
    (effect_weaken (λ image covers. inl covers) (c.begin_copying.ensures.crash tells w is))

pub returns-in_err-begin_copying-clause-touches : goal.returns-in_err-begin_copying-clause-touches
returns-in_err-begin_copying-clause-touches g c = λ tells. c.begin_copying.ensures.touches tells

pub returns-clause-touches : goal.returns-clause-touches
returns-clause-touches g c = λ tells. subst (λ d. TouchesOnly NoMedium (g.D.Device.disk c.args.dev.now) (g.D.Device.disk d)) (sym (c.put_job.ensures.same ∙ c.at_rest.ensures.same)) (c.begin_copying.ensures.touches tells)
