use Rattle.std.proofs.Common.{List, ℕ, sym, subst}
use Rattle.bk_device.specs.Effects.{Effect}
use Rattle.bk_engine.specs.Acts.{CutsAct}
use Rattle.bk_engine.specs.Jobs.{StartsSet}
use Rattle.bk_engine.specs.Stands.{IsOurs, StandsFor}
use Rattle.bk_machine.specs.Acts.{done, job_set}
use Rattle.bk_plans.specs.declared.parts.Part.TheVariants as part
use Rattle.bk_stores.specs.Standing.{AreStanding}
use Rattle.std.specs.Prelude.{Some}
use Rattle.bk_executing.proofs.PartsDone.{begun-cuts, begun-does, part-none}
use Rattle.bk_executing.proofs.Results.{moved, of-ok, on-all}
use Rattle.bk_executing.proofs.following.begin_job.Goals as goal

pub returns-in_err-job-clause-crash : goal.returns-in_err-job-clause-crash
returns-in_err-job-clause-crash g c tells = part-none c.args.engine.now (g.D.Device.disk c.args.dev.now) (g.D.Device.disk c.at_rest.new.dev) (part.JobBegun c.args.name.now c.args.job.now) (c.at_rest.ensures.crash tells)

pub start_set-requires-clause-standing : goal.start_set-requires-clause-standing
start_set-requires-clause-standing g c = λ tells. subst (λ d. AreStanding (g.D.Device.disk d) c.args.engine.now.hosting.stores) (sym c.at_rest.ensures.same) (c.requires.standing tells)

pub returns-clause-does : goal.returns-clause-does
returns-clause-does g c tells = on-all c.start_set.result (λ value ok.
    begun-does c.args.engine.now (g.D.Device.disk c.args.dev.now) (g.D.Device.disk c.start_set.new.dev) c.args.name.now c.args.job.now c.in_ok-job.job c.in_ok-job.ensures c.start_set.new.self
    (λ w stands starts. subst (λ (x : List ℕ). StandsFor (g.D.Device.disk c.start_set.new.dev) c.start_set.new.self (done w (job_set x (Some c.in_ok-job.job)))) c.as_str.ensures.spelling
    (of-ok c.start_set.result value ok (c.start_set.ensures.stands tells w (subst (λ d. StandsFor (g.D.Device.disk d) c.args.engine.now w) (sym c.at_rest.ensures.same) stands) (subst (λ (x : List ℕ). StartsSet w x c.in_ok-job.job) (sym c.as_str.ensures.spelling) starts)))))

pub returns-clause-crash : goal.returns-clause-crash
returns-clause-crash g c tells =
    begun-cuts c.args.engine.now (g.D.Device.disk c.args.dev.now) (g.D.Device.disk c.start_set.new.dev) c.args.name.now c.args.job.now c.in_ok-job.job c.in_ok-job.ensures
    (λ w stands starts. moved g.D.Device.disk c.args.dev.now c.at_rest.new.dev c.at_rest.ensures.same
    (subst (λ (x : List ℕ). Effect IsOurs (CutsAct w (job_set x (Some c.in_ok-job.job))) (g.D.Device.disk c.at_rest.new.dev) (g.D.Device.disk c.start_set.new.dev)) c.as_str.ensures.spelling
    (c.start_set.ensures.crash tells w (subst (λ d. StandsFor (g.D.Device.disk d) c.args.engine.now w) (sym c.at_rest.ensures.same) stands) (subst (λ (x : List ℕ). StartsSet w x c.in_ok-job.job) (sym c.as_str.ensures.spelling) starts))))
