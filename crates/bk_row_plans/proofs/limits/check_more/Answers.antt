use Rattle.std.proofs.Common.{◌≡◌, ℕ, Bool, Ok, rules, sym, ◌∙◌, ap, subst}
use Rattle.bk_machine.specs.Checks.{◌>>=◌, Checked, limit, refuse_if, used_up}
use Rattle.bk_machine.specs.statements.Target.{Target, has_all_writes}
use Rattle.bk_plans.specs.Checking.{IsCheck, IsRefused}
use Rattle.bk_world.specs.declared.rule.Limit.TheVariants.{Writes}
use Rattle.bk_world.specs.declared.rule.Rule.TheVariants.{LimitReached}
use Rattle.bk_plans.specs.CheckingLaws.{refused-first}
use Rattle.bk_row_plans.specs.Targets.{check_more, target_of}
use Rattle.bk_kept.specs.declared.kept.Database.{Database as KeptDatabase}
use Rattle.bk_row_plans.proofs.limits.check_more.Goals as goal

pub returns-in_err-refuse_if-clause-check : goal.returns-in_err-refuse_if-clause-check
returns-in_err-refuse_if-clause-check c = λ w table sees shows.
    let to : Target = target_of c.args.database.now table in
    let own : IsRefused c.in_err-refuse_if.field-0.0 (refuse_if (has_all_writes w to) (LimitReached Writes)) =
    subst (λ (b : Bool). IsRefused c.in_err-refuse_if.field-0.0 (refuse_if b (LimitReached Writes))) (c.has_all_writes-all.ensures w table sees shows) c.in_err-refuse_if.ensures.check in
    let refused : IsRefused c.in_err-refuse_if.field-0.0 (check_more w to) =
    refused-first c.in_err-refuse_if.field-0.0 (refuse_if (has_all_writes w to) (LimitReached Writes)) (λ (u : Unit {0}). limit (used_up to.database.end)) own in
    search rules

pub returns-clause-check : goal.returns-clause-check
returns-clause-check c = λ w table sees shows.
    let to : Target = target_of c.args.database.now table in
    let few : refuse_if (has_all_writes w to) (LimitReached Writes) ≡ Ok tt = ap (λ (b : Bool). refuse_if b (LimitReached Writes)) (sym (c.has_all_writes-all.ensures w table sees shows)) ∙ c.in_ok-refuse_if.ensures.check in
    let used : c.used_up.result ≡ used_up to.database.end = c.used_up.ensures ∙ ap (λ (n : ℕ). used_up n) (c.end.ensures.same ∙ ap (λ (d : KeptDatabase). d.shown.«end») c.database.view_is) in
    let rest : limit c.used_up.result ≡ check_more w to = ap limit used ∙ sym (ap (λ (m : Checked (Unit {0})). m >>= (λ (u : Unit {0}). limit (used_up to.database.end))) few) in
    subst (λ (m : Checked (Unit {0})). IsCheck (λ (u : Unit {0}). u) c.limit.result m) rest c.limit.ensures.check
