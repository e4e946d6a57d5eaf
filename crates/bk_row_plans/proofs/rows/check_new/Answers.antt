-- The checks of a row that is new.
use Rattle.std.proofs.Common.{◌≡◌, Ok, rules, sym, ◌∙◌, ap}
use Rattle.bk_machine.specs.Checks.{refuse_if}
use Rattle.bk_machine.specs.statements.Target.{Target, check_new, sees_key}
use Rattle.bk_plans.specs.Checking.{IsRefused}
use Rattle.bk_world.specs.declared.rule.Rule.TheVariants.{DuplicateKey}
use Rattle.bk_row_plans.specs.Targets.{target_of}
use Rattle.bk_row_plans.proofs.Chains.{new-full, new-passed, new-unleft}
use Rattle.bk_row_plans.proofs.rows.check_new.Goals as goal

pub returns-in_err-check_left-clause-check : goal.returns-in_err-check_left-clause-check
returns-in_err-check_left-clause-check c = λ w name sound sees shows its.
    let key = c.args.key in
    let to : Target = target_of c.args.database.now c.args.table.now in
    let absent : refuse_if (sees_key w to key) (DuplicateKey key) ≡ Ok tt = ap (λ b. refuse_if b (DuplicateKey key)) (sym (c.sees_key.ensures w sees shows)) ∙ c.in_ok-refuse_if.ensures.check in
    let refused : IsRefused c.in_err-check_left.field-0.0 (check_new w to key) =
    new-unleft w to key (c.in_ok-check_lock.ensures w sees shows) absent c.in_ok-check_key.ensures.check c.in_err-check_left.field-0.0 (c.in_err-check_left.ensures.check w c.args.table.now sees shows) in
    search rules

pub returns-in_err-place-clause-check : goal.returns-in_err-place-clause-check
returns-in_err-place-clause-check c = λ w name sound sees shows its.
    let key = c.args.key in
    let to : Target = target_of c.args.database.now c.args.table.now in
    let absent : refuse_if (sees_key w to key) (DuplicateKey key) ≡ Ok tt = ap (λ b. refuse_if b (DuplicateKey key)) (sym (c.sees_key.ensures w sees shows)) ∙ c.in_ok-refuse_if.ensures.check in
    let refused : IsRefused c.in_err-place.field-0.0 (check_new w to key) =
    new-full w to key (c.in_ok-check_lock.ensures w sees shows) absent c.in_ok-check_key.ensures.check c.in_err-place.field-0.0 (c.in_ok-check_left.ensures.check w c.args.table.now sees shows)
    (c.in_err-place.ensures.check w name sound shows its) in
    search rules

pub returns-clause-check : goal.returns-clause-check
returns-clause-check c = λ w name sound sees shows its.
    let key = c.args.key in
    let to : Target = target_of c.args.database.now c.args.table.now in
    let absent : refuse_if (sees_key w to key) (DuplicateKey key) ≡ Ok tt = ap (λ b. refuse_if b (DuplicateKey key)) (sym (c.sees_key.ensures w sees shows)) ∙ c.in_ok-refuse_if.ensures.check in
    new-passed w to key (c.in_ok-check_lock.ensures w sees shows) absent c.in_ok-check_key.ensures.check (c.in_ok-check_left.ensures.check w c.args.table.now sees shows) (c.in_ok-place.ensures.check w name sound shows its)
