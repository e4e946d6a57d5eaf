-- The checks of UPDATE and DELETE behind those of the table and the value.
use Rattle.std.proofs.Common.{◌≡◌, Bool, Ok, rules, sym, ◌∙◌, ap, refl, subst}
use Rattle.bk_machine.specs.Checks.{used_up}
use Rattle.bk_machine.specs.statements.Target.{Target, check_key, check_lock, check_write, has_all_writes, sees_key}
use Rattle.bk_plans.specs.Checking.{IsRefused}
use Rattle.bk_world.specs.declared.rule.Limit.TheVariants.{Writes}
use Rattle.bk_world.specs.declared.rule.Rule.TheVariants.{LimitReached}
use Rattle.bk_plans.specs.CheckingLaws.{refused-first}
use Rattle.bk_row_plans.specs.Targets.{check_left, target_of}
use Rattle.bk_row_plans.proofs.Chains.{found-is, left-is, refused-behind, through}
use Rattle.bk_row_plans.proofs.rows.check_write.Goals as goal

pub returns-in_err-check_left-clause-check : goal.returns-in_err-check_left-clause-check
returns-in_err-check_left-clause-check c = λ w name sound sees shows its.
    let key = c.args.key in
    let to : Target = target_of c.args.database.now c.args.table.now in
    let is : c.is_some.result ≡ sees_key w to key = c.is_some.ensures ∙ found-is _ _ _ _ (c.found_row-seen.ensures w name sound sees shows its) in
    let own : IsRefused c.in_err-check_left.field-0.0 (check_left w to (sees_key w to key)) =
    subst (λ (b : Bool). IsRefused c.in_err-check_left.field-0.0 (check_left w to b)) is (c.in_err-check_left.ensures.check w c.args.table.now sees shows) in
    let same = left-is (sees_key w to key) (has_all_writes w to) (used_up to.database.end) (LimitReached Writes) to in
    let last = subst (IsRefused c.in_err-check_left.field-0.0) (sym same) (refused-first c.in_err-check_left.field-0.0 (check_left w to (sees_key w to key)) (λ (u : Unit {0}). Ok to) own) in
    let refused : IsRefused c.in_err-check_left.field-0.0 (check_write w to key) =
    refused-behind c.in_err-check_left.field-0.0 (check_lock w to key) _ tt (c.in_ok-check_lock.ensures w sees shows) (refused-behind c.in_err-check_left.field-0.0 (check_key key) _ tt c.in_ok-check_key.ensures.check last) in
    search rules

pub returns-clause-check : goal.returns-clause-check
returns-clause-check c = λ w name sound sees shows its.
    let key = c.args.key in
    let to : Target = target_of c.args.database.now c.args.table.now in
    let is : c.is_some.result ≡ sees_key w to key = c.is_some.ensures ∙ found-is _ _ _ _ (c.found_row-seen.ensures w name sound sees shows its) in
    let same = left-is (sees_key w to key) (has_all_writes w to) (used_up to.database.end) (LimitReached Writes) to in
    let left : check_left w to (sees_key w to key) ≡ Ok tt = ap (check_left w to) (sym is) ∙ c.in_ok-check_left.ensures.check w c.args.table.now sees shows in
    through (check_lock w to key) _ tt to (c.in_ok-check_lock.ensures w sees shows)
    (through (check_key key) _ tt to c.in_ok-check_key.ensures.check (same ∙ through (check_left w to (sees_key w to key)) (λ (u : Unit {0}). Ok to) tt to left refl))
