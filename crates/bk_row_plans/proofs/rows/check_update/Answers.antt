use Rattle.bk_machine.specs.statements.Update.{check_update}
use Rattle.bk_plans.specs.Checking.{IsRefused}
use Rattle.bk_row_plans.proofs.Chains.{refused-behind}
use Rattle.bk_row_plans.proofs.rows.check_update.Goals as goal

pub returns-in-Err-clause-check : goal.returns-in-Err-clause-check
unfolding check_update
returns-in-Err-clause-check c = λ w sound sees.
    let refused : IsRefused c.in-Err.refusal (check_update w c.args.table.now c.args.key c.args.value.now) =
    refused-behind _ _ _ _ (c.in_ok-to.ensures.check w sees)
    (refused-behind _ _ _ _ c.in_ok-check_value.ensures.check (c.in-Err.ensures.check w _ sound sees (c.in_ok-to.ensures.shows w sees) (c.in_ok-to.ensures.its w sees))) in
    refused

pub returns-in-Ok-clause-seen : goal.returns-in-Ok-clause-seen
returns-in-Ok-clause-seen c = λ w sound sees. c.in-Ok.ensures.seen w _ sound sees (c.in_ok-to.ensures.shows w sees) (c.in_ok-to.ensures.its w sees)
