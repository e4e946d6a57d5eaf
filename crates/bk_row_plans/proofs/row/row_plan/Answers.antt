use Rattle.std.specs.Option.{option_map}
use Rattle.bk_machine.specs.statements.Target.{row_said}
use Rattle.bk_plans.specs.PlanLaws.{if-plan}
use Rattle.bk_plans.specs.SaidLaws.{says-then}
use Rattle.bk_row_plans.proofs.row.row_plan.Goals as goal

pub returns-clause-says : goal.returns-clause-says
returns-clause-says c =
    let d = c.args.database.now in
    let own = option_map (λ t. t.now) c.args.own in
    if-plan _ _ c.stored.result
    (λ plan one change before cells.
    (c.in_ok-act.act, one, says-then d c.args.now (row_said own d.shown.«end» c.args.place.now before change) d.transactions c.in_ok-act.act c.said_time-time.result (c.in_ok-act.ensures.says change before cells) c.said_time-time.ensures))
    c.stored.ensures.one
