use Rattle.std.proofs.Common.{◌≡◌, ◌∙◌, List, length, None, Some, sym, ap, subst}
use Rattle.std.proofs.lemmas.Option.{same_Some}
use Rattle.bk_device.specs.Compose.{effect_then}
use Rattle.bk_device.specs.Effects.{Effect}
use Rattle.bk_ids.specs.declared.record.ExtentId.{ExtentId}
use Rattle.bk_machine.specs.declared.job.Job.{Job}
use Rattle.bk_machine.specs.Acts.{done, job_set}
use Rattle.bk_engine.specs.Copying.{IsCopiedOf}
use Rattle.bk_engine.proofs.Stepped.{copied-of}
use Rattle.bk_engine.proofs.Stopped.{of-then}
use Rattle.bk_engine.specs.Stands.{Covers, IsOurs, StandsFor}
use Rattle.bk_engine.specs.Touched.{NoMedium, TouchesOnly}
use Rattle.bk_engine.specs.TouchLaws.{rest-touch, stores-touch}
use Rattle.bk_engine.specs.ViewLaws.{remembers}
use Rattle.bk_engine.proofs.engine.Engine.stop_job.Goals as goal

pub returns-clause-stands : goal.returns-clause-stands
returns-clause-stands g c = λ tells w is.
    let rests : StandsFor (g.D.Device.disk c.at_rest.new.dev) c.args.self.now w = subst (λ d. StandsFor (g.D.Device.disk d) c.args.self.now w) (sym c.at_rest.ensures.same) is in
    c.in_ok-put_job.ensures.stands tells w (c.in_ok-name_finishing.ensures.stands tells w rests) tt tt

pub returns-clause-set : goal.returns-clause-set
returns-clause-set g c = λ tells w job db is found runs.
    let kept : db.job ≡ Some c.in-Some.job.now = c.in-Some.ensures w db (remembers (g.D.Device.disk c.args.dev.now) c.args.self.now w is) found in
    let same : c.in-Some.job.now ≡ job = same_Some c.in-Some.job.now job (sym kept ∙ runs) in
    (ap (λ (j : Job). j.set) same, ap (λ (xs : List ExtentId). length xs) c.as_slice-left.ensures ∙ ap (λ (j : Job). length j.left) same)

pub returns-clause-copied : goal.returns-clause-copied
returns-clause-copied g c = λ tells w job db is found runs.
    let rests : StandsFor (g.D.Device.disk c.at_rest.new.dev) c.args.self.now w = subst (λ d. StandsFor (g.D.Device.disk d) c.args.self.now w) (sym c.at_rest.ensures.same) is in
    let of : IsCopiedOf w c.args.name.now (g.D.Device.disk c.name_finishing.new.dev) job = copied-of (g.D.Device.disk c.name_finishing.new.dev) c.name_finishing.new.self w c.args.name.now db job (c.in_ok-name_finishing.ensures.stands tells w rests) found runs in
    subst (λ d. IsCopiedOf (done w (job_set c.args.name.now None)) c.args.name.now (g.D.Device.disk d) job) (sym c.put_job.ensures.same) (of-then w c.args.name.now db found (g.D.Device.disk c.name_finishing.new.dev) job of)

pub returns-in_default-clause-touches : goal.returns-in_default-clause-touches
returns-in_default-clause-touches g c = λ tells. rest-touch g.D.Device.disk c.args.dev.now c.at_rest.new.dev c.at_rest.ensures.same

pub returns-in_err-name_finishing-clause-crash : goal.returns-in_err-name_finishing-clause-crash
returns-in_err-name_finishing-clause-crash g c = λ tells w is.
    let rests : StandsFor (g.D.Device.disk c.at_rest.new.dev) c.args.self.now w = subst (λ d. StandsFor (g.D.Device.disk d) c.args.self.now w) (sym c.at_rest.ensures.same) is in
    effect_then (c.at_rest.ensures.crash tells w is) (c.name_finishing.ensures.crash tells w rests)

pub returns-in_err-name_finishing-clause-touches : goal.returns-in_err-name_finishing-clause-touches
returns-in_err-name_finishing-clause-touches g c = λ tells. effect_then (rest-touch g.D.Device.disk c.args.dev.now c.at_rest.new.dev c.at_rest.ensures.same) (stores-touch (c.name_finishing.ensures.touches tells))

pub returns-in_err-put_job-clause-crash : goal.returns-in_err-put_job-clause-crash
returns-in_err-put_job-clause-crash g c = λ tells w is.
    let rests : StandsFor (g.D.Device.disk c.at_rest.new.dev) c.args.self.now w = subst (λ d. StandsFor (g.D.Device.disk d) c.args.self.now w) (sym c.at_rest.ensures.same) is in
    subst (λ d. Effect IsOurs (Covers w) (g.D.Device.disk c.args.dev.now) (g.D.Device.disk d)) (sym c.put_job.ensures.same) (effect_then (c.at_rest.ensures.crash tells w is) (c.name_finishing.ensures.crash tells w rests))

pub returns-in_err-put_job-clause-touches : goal.returns-in_err-put_job-clause-touches
returns-in_err-put_job-clause-touches g c = λ tells. subst (λ d. TouchesOnly NoMedium (g.D.Device.disk c.args.dev.now) (g.D.Device.disk d)) (sym c.put_job.ensures.same)
    (effect_then (rest-touch g.D.Device.disk c.args.dev.now c.at_rest.new.dev c.at_rest.ensures.same) (stores-touch (c.name_finishing.ensures.touches tells)))

pub returns-clause-crash : goal.returns-clause-crash
returns-clause-crash g c = λ tells w is.
    let rests : StandsFor (g.D.Device.disk c.at_rest.new.dev) c.args.self.now w = subst (λ d. StandsFor (g.D.Device.disk d) c.args.self.now w) (sym c.at_rest.ensures.same) is in
    subst (λ d. Effect IsOurs (Covers w) (g.D.Device.disk c.args.dev.now) (g.D.Device.disk d)) (sym c.put_job.ensures.same) (effect_then (c.at_rest.ensures.crash tells w is) (c.name_finishing.ensures.crash tells w rests))

pub returns-clause-touches : goal.returns-clause-touches
returns-clause-touches g c = λ tells. subst (λ d. TouchesOnly NoMedium (g.D.Device.disk c.args.dev.now) (g.D.Device.disk d)) (sym c.put_job.ensures.same)
    (effect_then (rest-touch g.D.Device.disk c.args.dev.now c.at_rest.new.dev c.at_rest.ensures.same) (stores-touch (c.name_finishing.ensures.touches tells)))
