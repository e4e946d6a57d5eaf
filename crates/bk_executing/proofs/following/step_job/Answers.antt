use Rattle.std.proofs.Common.{List, ℕ, Some, sym, subst}
use Rattle.bk_engine.specs.Jobs.{StepsSet}
use Rattle.bk_engine.specs.Stands.{StandsFor}
use Rattle.bk_machine.specs.Acts.{done, job_set}
use Rattle.bk_machine.specs.statements.Job.{stepped}
use Rattle.bk_executing.proofs.Results.{of-ok, on-all}
use Rattle.bk_executing.proofs.PartsDone.{stepped-cuts, stepped-does}
use Rattle.bk_executing.proofs.following.step_job.Goals as goal

pub returns-clause-does : goal.returns-clause-does
returns-clause-does g c tells = on-all c.step_set.result (λ value ok.
    stepped-does c.args.engine.now c.step_set.new.self (g.D.Device.disk c.args.dev.now) (g.D.Device.disk c.step_set.new.dev) c.args.name.now c.args.count
    (λ w job stands steps. subst (λ (x : List ℕ). StandsFor (g.D.Device.disk c.step_set.new.dev) c.step_set.new.self (done w (job_set x (Some (stepped c.args.count job))))) c.as_str.ensures.spelling
    (of-ok c.step_set.result value ok (c.step_set.ensures.stands tells w job stands (subst (λ (x : List ℕ). StepsSet w x c.args.count job) (sym c.as_str.ensures.spelling) steps)))))

pub returns-clause-crash : goal.returns-clause-crash
returns-clause-crash g c tells =
    stepped-cuts c.args.engine.now (g.D.Device.disk c.args.dev.now) (g.D.Device.disk c.step_set.new.dev) c.args.name.now c.args.count (λ w job stands steps. c.step_set.ensures.crash tells w job stands (subst (λ (x : List ℕ). StepsSet w x c.args.count job) (sym c.as_str.ensures.spelling) steps))
