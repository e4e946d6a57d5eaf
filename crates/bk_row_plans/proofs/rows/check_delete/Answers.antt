use Rattle.bk_machine.specs.statements.Delete.{check_delete}
use Rattle.bk_plans.specs.Checking.{IsRefused}
use Rattle.bk_row_plans.proofs.Chains.{refused-behind}
use Rattle.bk_row_plans.proofs.rows.check_delete.Goals as goal

pub returns-in-Err-clause-check : goal.returns-in-Err-clause-check
unfolding check_delete
returns-in-Err-clause-check c = λ w sound sees.
    let refused : IsRefused c.in-Err.refusal (check_delete w c.args.table.now c.args.key) =
    refused-behind _ _ _ _ (c.in_ok-to.ensures.check w sees) (c.in-Err.ensures.check w _ sound sees (c.in_ok-to.ensures.shows w sees) (c.in_ok-to.ensures.its w sees)) in
    refused
