use Rattle.bk_plans.specs.PlanLaws.{if-plan}
use Rattle.bk_plans.specs.SaidLaws.{says-then}
use Rattle.bk_world.specs.Records.{table_made}
use Rattle.bk_world.specs.Says.{alone}
use Rattle.bk_planning.proofs.create_table.table_plan.Goals as goal

pub returns-clause-says : goal.returns-clause-says
returns-clause-says c =
    let d = c.args.database.now in
    if-plan _ _ c.stored.result
    (λ plan one. (
      c.in_ok-act.act,
      one,
      says-then d c.args.now (λ time. alone (table_made time (record { number = c.args.number; name = c.args.table.now; group = c.args.group }))) d.transactions c.in_ok-act.act c.said_time-time.result c.in_ok-act.ensures.says
          c.said_time-time.ensures,
    ))
    c.stored.ensures.one
