use Rattle.std.proofs.Common.{◌≡◌, ◌-◌, ◌∙◌, ℕ, List, length, None, Some, sym, ap, subst}
use Rattle.std.proofs.lemmas.Option.{same_Some}
use Rattle.std.specs.Prelude.{drop, OnOk}
use Rattle.bk_device.specs.Compose.{effect_then, effect_weaken}
use Rattle.bk_device.specs.Effects.{Effect}
use Rattle.bk_ids.specs.declared.record.ExtentId.{ExtentId}
use Rattle.bk_kept.specs.Jobs.{IsApart}
use Rattle.bk_machine.specs.Acts.{done, job_set}
use Rattle.bk_machine.specs.declared.job.Job.{Job}
use Rattle.bk_machine.specs.MayDo.{MayDo}
use Rattle.bk_machine.specs.statements.Job.{stepped}
use Rattle.bk_machine.specs.World.{World}
use Rattle.bk_engine.specs.Copying.{IsCopiedOf}
use Rattle.bk_engine.specs.JobLaws.{covers-stopped}
use Rattle.bk_engine.specs.Stands.{Covers, IsOurs, StandsFor}
use Rattle.bk_engine.specs.ViewLaws.{remembers}
use Rattle.bk_engine.proofs.Stepped.{copied-of}
use Rattle.bk_engine.proofs.Stopped.{again-is, apart-then, drop-rest, late-then, may-again, of-then, online-then, run-is}
use Rattle.bk_engine.proofs.engine.Engine.step_set.Goals as goal

pub returns-clause-stands : goal.returns-clause-stands
returns-clause-stands g c = λ tells w job is steps.
    let a = g.D.Device.disk c.at_rest.new.dev in
    let b = g.D.Device.disk c.put_job.new.dev in
    let name : List ℕ = c.args.name.now in
    let mid : World = done w (job_set name None) in
    let rests : StandsFor a c.args.self.now w = subst (λ d. StandsFor (g.D.Device.disk d) c.args.self.now w) (sym c.at_rest.ensures.same) is in
    let runs : steps.db.job ≡ Some c.in-Some.job.now = c.in-Some.ensures w steps.db (remembers (g.D.Device.disk c.args.dev.now) c.args.self.now w is) steps.found in
    let same : c.in-Some.job.now ≡ job = same_Some c.in-Some.job.now job (sym runs ∙ steps.runs) in
    let next : c.in_ok-next.next ≡ stepped c.args.count job = c.in_ok-next.ensures ∙ ap (stepped c.args.count) same in
    let set : job.set ≡ c.in_ok-next.next.set = sym (ap (λ (j : Job). j.set) next) in
    let stopped : StandsFor b c.put_job.new.self mid = c.in_ok-put_job.ensures.stands tells w rests tt tt in
    let of : IsCopiedOf w name b job = subst (λ d. IsCopiedOf w name (g.D.Device.disk d) job) (sym c.put_job.ensures.same) (copied-of a c.args.self.now w name steps.db job rests steps.found steps.runs) in
    let of_mid : IsCopiedOf mid name b job = of-then w name steps.db steps.found b job of in
    let apart : IsApart mid c.in_ok-next.next.set = subst (IsApart mid) set (apart-then w name steps.db steps.found job is.sound steps.runs) in
    let copied : StandsFor (g.D.Device.disk c.copy_next.new.dev) c.copy_next.new.self mid = c.in_ok-copy_next.ensures.stands tells mid stopped apart in
    let all_left : length c.as_slice-left.result.now ≡ length job.left = ap (λ (xs : List ExtentId). length xs) c.as_slice-left.ensures ∙ ap (λ (j : Job). length j.left) same in
    let rest_left : length c.as_slice-rest.result.now ≡ length c.in_ok-next.next.left = ap (λ (xs : List ExtentId). length xs) c.as_slice-rest.ensures in
    let more : IsCopiedOf mid name (g.D.Device.disk c.copy_next.new.dev) (stepped (length job.left - length c.in_ok-next.next.left) job) =
    subst (λ (n : ℕ). IsCopiedOf mid name (g.D.Device.disk c.copy_next.new.dev) (stepped n job)) (λ i. all_left i - rest_left i) (c.in_ok-copy_next.ensures.copied tells mid job stopped of_mid (online-then w name steps.db steps.found b job of_mid (run-is w name steps.db steps.found (stepped c.args.count job) steps.may).online) (late-then w name steps.db steps.found b job of_mid is.sound steps.runs) set (sym all_left)) in
    let rest : stepped (length job.left - length c.in_ok-next.next.left) job ≡ c.in_ok-next.next =
    ap (λ (xs : List ExtentId). record job { left = drop (length job.left - length xs) job.left }) (ap (λ (j : Job). j.left) next) ∙ ap (λ (xs : List ExtentId). record job { left = xs }) (drop-rest c.args.count job.left) ∙ sym next in
    let may : MayDo mid (job_set name (Some c.in_ok-next.next)) = may-again w name steps.db steps.found c.in_ok-next.next (subst (λ (j : Job). MayDo w (job_set name (Some j))) (sym next) steps.may) in
    subst (λ (v : World). OnOk c.put_job-2.result (StandsFor (g.D.Device.disk c.put_job-2.new.dev) c.put_job-2.new.self v)) (again-is w name steps.db steps.found (Some c.in_ok-next.next) ∙ ap (λ (j : Job). done w (job_set name (Some j))) next)
    (c.put_job-2.ensures.stands tells mid copied may (subst (IsCopiedOf mid name (g.D.Device.disk c.copy_next.new.dev)) rest more))

pub returns-in_default-clause-crash : goal.returns-in_default-clause-crash
returns-in_default-clause-crash g c = λ tells w job is steps. c.at_rest.ensures.crash tells w is

pub returns-in_err-next-clause-crash : goal.returns-in_err-next-clause-crash
returns-in_err-next-clause-crash g c = λ tells w job is steps. c.at_rest.ensures.crash tells w is

pub returns-in_err-put_job-clause-crash : goal.returns-in_err-put_job-clause-crash
returns-in_err-put_job-clause-crash g c = λ tells w job is steps. subst (λ d. Effect IsOurs (Covers w) (g.D.Device.disk c.args.dev.now) (g.D.Device.disk d)) (sym c.put_job.ensures.same) (c.at_rest.ensures.crash tells w is)

pub returns-in_err-copy_next-clause-crash : goal.returns-in_err-copy_next-clause-crash
returns-in_err-copy_next-clause-crash g c = λ tells w job is steps.
    let mid : World = done w (job_set c.args.name.now None) in
    let rests : StandsFor (g.D.Device.disk c.at_rest.new.dev) c.args.self.now w = subst (λ d. StandsFor (g.D.Device.disk d) c.args.self.now w) (sym c.at_rest.ensures.same) is in
    let stopped : StandsFor (g.D.Device.disk c.put_job.new.dev) c.put_job.new.self mid = c.in_ok-put_job.ensures.stands tells w rests tt tt in
    effect_then (subst (λ d. Effect IsOurs (Covers w) (g.D.Device.disk c.args.dev.now) (g.D.Device.disk d)) (sym c.put_job.ensures.same) (c.at_rest.ensures.crash tells w is))
    (effect_weaken (λ image covers. covers-stopped w c.args.name.now image covers) (c.copy_next.ensures.crash tells mid stopped))

pub returns-clause-crash : goal.returns-clause-crash
returns-clause-crash g c = λ tells w job is steps.
    let mid : World = done w (job_set c.args.name.now None) in
    let rests : StandsFor (g.D.Device.disk c.at_rest.new.dev) c.args.self.now w = subst (λ d. StandsFor (g.D.Device.disk d) c.args.self.now w) (sym c.at_rest.ensures.same) is in
    let stopped : StandsFor (g.D.Device.disk c.put_job.new.dev) c.put_job.new.self mid = c.in_ok-put_job.ensures.stands tells w rests tt tt in
    subst (λ d. Effect IsOurs (Covers w) (g.D.Device.disk c.args.dev.now) (g.D.Device.disk d)) (sym c.put_job-2.ensures.same)
    (effect_then (subst (λ d. Effect IsOurs (Covers w) (g.D.Device.disk c.args.dev.now) (g.D.Device.disk d)) (sym c.put_job.ensures.same) (c.at_rest.ensures.crash tells w is))
    (effect_weaken (λ image covers. covers-stopped w c.args.name.now image covers) (c.copy_next.ensures.crash tells mid stopped)))
