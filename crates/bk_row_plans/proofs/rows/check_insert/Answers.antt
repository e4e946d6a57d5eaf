use Rattle.std.proofs.Common.{rules}
use Rattle.bk_machine.specs.statements.Insert.{check_insert}
use Rattle.bk_plans.specs.Checking.{IsRefused}
use Rattle.bk_row_plans.proofs.Chains.{refused-behind}
use Rattle.bk_row_plans.proofs.rows.check_insert.Goals as goal

pub returns-in_err-place-clause-check : goal.returns-in_err-place-clause-check
unfolding check_insert
returns-in_err-place-clause-check c = λ w sound sees.
    let refused : IsRefused c.in_err-place.field-0.0 (check_insert w c.args.table.now c.args.key c.args.value.now) =
    refused-behind _ _ _ _ (c.in_ok-to.ensures.check w sees)
    (refused-behind _ _ _ _ c.in_ok-check_value.ensures.check (c.in_err-place.ensures.check w _ sound sees (c.in_ok-to.ensures.shows w sees) (c.in_ok-to.ensures.its w sees))) in
    search rules
