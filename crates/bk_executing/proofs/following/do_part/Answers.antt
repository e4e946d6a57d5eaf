use Rattle.std.proofs.Common.{OnOk, subst, sym}
use Rattle.bk_engine.specs.Touched.{TouchesOnly}
use Rattle.bk_plans.specs.declared.parts.Part.{Part}
use Rattle.bk_executing.specs.Parts.{CutsPart, DoesPart, PartWrites}
use Rattle.bk_executing.proofs.following.do_part.Goals as goal

pub returns-in-Stored-clause-does : goal.returns-in-Stored-clause-does
returns-in-Stored-clause-does g c tells =
    subst (λ (p : Part). OnOk c.do_stored.result (DoesPart c.args.engine.now (g.D.Device.disk c.args.dev.now) p c.do_stored.new.engine (g.D.Device.disk c.do_stored.new.dev))) (sym c.in-Stored.is) (c.do_stored.ensures.does tells)

pub returns-in-Stored-clause-crash : goal.returns-in-Stored-clause-crash
returns-in-Stored-clause-crash g c tells = subst (λ (p : Part). CutsPart c.args.engine.now (g.D.Device.disk c.args.dev.now) p (g.D.Device.disk c.do_stored.new.dev)) (sym c.in-Stored.is) (c.do_stored.ensures.crash tells)

pub returns-in-Stored-clause-touches : goal.returns-in-Stored-clause-touches
returns-in-Stored-clause-touches g c tells = subst (λ (p : Part). TouchesOnly (PartWrites p) (g.D.Device.disk c.args.dev.now) (g.D.Device.disk c.do_stored.new.dev)) (sym c.in-Stored.is) (c.do_stored.ensures.touches tells)

pub returns-in-MediumMade-clause-does : goal.returns-in-MediumMade-clause-does
returns-in-MediumMade-clause-does g c tells =
    subst (λ (p : Part). OnOk c.make_medium.result (DoesPart c.args.engine.now (g.D.Device.disk c.args.dev.now) p c.make_medium.new.engine (g.D.Device.disk c.make_medium.new.dev))) (sym c.in-MediumMade.is) (c.make_medium.ensures.does tells)

pub returns-in-MediumMade-clause-crash : goal.returns-in-MediumMade-clause-crash
returns-in-MediumMade-clause-crash g c tells = subst (λ (p : Part). CutsPart c.args.engine.now (g.D.Device.disk c.args.dev.now) p (g.D.Device.disk c.make_medium.new.dev)) (sym c.in-MediumMade.is) (c.make_medium.ensures.crash tells)

pub returns-in-MediumMade-clause-touches : goal.returns-in-MediumMade-clause-touches
returns-in-MediumMade-clause-touches g c tells = subst (λ (p : Part). TouchesOnly (PartWrites p) (g.D.Device.disk c.args.dev.now) (g.D.Device.disk c.make_medium.new.dev)) (sym c.in-MediumMade.is) (c.make_medium.ensures.touches tells)

pub returns-in-SetDrawn-clause-does : goal.returns-in-SetDrawn-clause-does
returns-in-SetDrawn-clause-does g c tells =
    subst (λ (p : Part). OnOk c.draw_set.result (DoesPart c.args.engine.now (g.D.Device.disk c.args.dev.now) p c.draw_set.new.engine (g.D.Device.disk c.draw_set.new.dev))) (sym c.in-SetDrawn.is) (c.draw_set.ensures.does tells)

pub returns-in-SetDrawn-clause-crash : goal.returns-in-SetDrawn-clause-crash
returns-in-SetDrawn-clause-crash g c tells = subst (λ (p : Part). CutsPart c.args.engine.now (g.D.Device.disk c.args.dev.now) p (g.D.Device.disk c.draw_set.new.dev)) (sym c.in-SetDrawn.is) (c.draw_set.ensures.crash tells)

pub returns-in-SetDrawn-clause-touches : goal.returns-in-SetDrawn-clause-touches
returns-in-SetDrawn-clause-touches g c tells = subst (λ (p : Part). TouchesOnly (PartWrites p) (g.D.Device.disk c.args.dev.now) (g.D.Device.disk c.draw_set.new.dev)) (sym c.in-SetDrawn.is) (c.draw_set.ensures.touches tells)

pub returns-in-SetSealed-clause-does : goal.returns-in-SetSealed-clause-does
returns-in-SetSealed-clause-does g c tells =
    subst (λ (p : Part). OnOk c.seal_set.result (DoesPart c.args.engine.now (g.D.Device.disk c.args.dev.now) p c.seal_set.new.engine (g.D.Device.disk c.seal_set.new.dev))) (sym c.in-SetSealed.is) (c.seal_set.ensures.does tells)

pub returns-in-SetSealed-clause-crash : goal.returns-in-SetSealed-clause-crash
returns-in-SetSealed-clause-crash g c tells = subst (λ (p : Part). CutsPart c.args.engine.now (g.D.Device.disk c.args.dev.now) p (g.D.Device.disk c.seal_set.new.dev)) (sym c.in-SetSealed.is) (c.seal_set.ensures.crash tells)

pub returns-in-SetSealed-clause-touches : goal.returns-in-SetSealed-clause-touches
returns-in-SetSealed-clause-touches g c tells = subst (λ (p : Part). TouchesOnly (PartWrites p) (g.D.Device.disk c.args.dev.now) (g.D.Device.disk c.seal_set.new.dev)) (sym c.in-SetSealed.is) (c.seal_set.ensures.touches tells)

pub returns-in-Noted-clause-does : goal.returns-in-Noted-clause-does
returns-in-Noted-clause-does g c tells =
    subst (λ (p : Part). OnOk c.note.result (DoesPart c.args.engine.now (g.D.Device.disk c.args.dev.now) p c.note.new.engine (g.D.Device.disk c.note.new.dev))) (sym c.in-Noted.is) (c.note.ensures.does tells)

pub returns-in-Noted-clause-crash : goal.returns-in-Noted-clause-crash
returns-in-Noted-clause-crash g c tells = subst (λ (p : Part). CutsPart c.args.engine.now (g.D.Device.disk c.args.dev.now) p (g.D.Device.disk c.note.new.dev)) (sym c.in-Noted.is) (c.note.ensures.crash tells)

pub returns-in-Noted-clause-touches : goal.returns-in-Noted-clause-touches
returns-in-Noted-clause-touches g c tells = subst (λ (p : Part). TouchesOnly (PartWrites p) (g.D.Device.disk c.args.dev.now) (g.D.Device.disk c.note.new.dev)) (sym c.in-Noted.is) (c.note.ensures.touches tells)

pub returns-in-JobBegun-clause-does : goal.returns-in-JobBegun-clause-does
returns-in-JobBegun-clause-does g c tells =
    subst (λ (p : Part). OnOk c.begin_job.result (DoesPart c.args.engine.now (g.D.Device.disk c.args.dev.now) p c.begin_job.new.engine (g.D.Device.disk c.begin_job.new.dev))) (sym c.in-JobBegun.is) (c.begin_job.ensures.does tells)

pub returns-in-JobBegun-clause-crash : goal.returns-in-JobBegun-clause-crash
returns-in-JobBegun-clause-crash g c tells = subst (λ (p : Part). CutsPart c.args.engine.now (g.D.Device.disk c.args.dev.now) p (g.D.Device.disk c.begin_job.new.dev)) (sym c.in-JobBegun.is) (c.begin_job.ensures.crash tells)

pub returns-in-JobBegun-clause-touches : goal.returns-in-JobBegun-clause-touches
returns-in-JobBegun-clause-touches g c tells = subst (λ (p : Part). TouchesOnly (PartWrites p) (g.D.Device.disk c.args.dev.now) (g.D.Device.disk c.begin_job.new.dev)) (sym c.in-JobBegun.is) (c.begin_job.ensures.touches tells)

pub returns-in-JobStepped-clause-does : goal.returns-in-JobStepped-clause-does
returns-in-JobStepped-clause-does g c tells =
    subst (λ (p : Part). OnOk c.step_job.result (DoesPart c.args.engine.now (g.D.Device.disk c.args.dev.now) p c.step_job.new.engine (g.D.Device.disk c.step_job.new.dev))) (sym c.in-JobStepped.is) (c.step_job.ensures.does tells)

pub returns-in-JobStepped-clause-crash : goal.returns-in-JobStepped-clause-crash
returns-in-JobStepped-clause-crash g c tells = subst (λ (p : Part). CutsPart c.args.engine.now (g.D.Device.disk c.args.dev.now) p (g.D.Device.disk c.step_job.new.dev)) (sym c.in-JobStepped.is) (c.step_job.ensures.crash tells)

pub returns-in-JobStepped-clause-touches : goal.returns-in-JobStepped-clause-touches
returns-in-JobStepped-clause-touches g c tells = subst (λ (p : Part). TouchesOnly (PartWrites p) (g.D.Device.disk c.args.dev.now) (g.D.Device.disk c.step_job.new.dev)) (sym c.in-JobStepped.is) (c.step_job.ensures.touches tells)
