use Rattle.bk_plans.specs.PlanLaws.{if-plan}
use Rattle.bk_planning.proofs.checkpoint.mark_plan.Goals as goal

pub returns-clause-marks : goal.returns-clause-marks
returns-clause-marks c =
    if-plan _ _ c.stored.result
    (λ plan one. (c.in_ok-act.act, one, record { time = c.said_time-time.result; marks = c.in_ok-act.ensures.marks; time_is = c.said_time-time.ensures }))
    c.stored.ensures.one
