-- The checks of CREATE DATABASE behind the texts of its statement.
use Rattle.std.proofs.Common.{sym, ◌∙◌, ap, subst}
use Rattle.bk_machine.specs.Checks.{refuse_if}
use Rattle.bk_machine.specs.statements.CreateDatabase.{check_free}
use Rattle.bk_plans.specs.Checking.{IsCheck}
use Rattle.bk_world.specs.declared.database.Storage.{Storage}
use Rattle.bk_world.specs.declared.rule.Limit.TheVariants.{Databases}
use Rattle.bk_world.specs.declared.rule.Rule.TheVariants.{DatabaseExists, LimitReached}
use Rattle.bk_plans.specs.CheckingLaws.{passed-on}
use Rattle.bk_new_plans.proofs.create_database.new_files_of.Goals as goal

pub returns-clause-check : goal.returns-clause-check
returns-clause-check c = λ w sees.
    passed-on _ _ _ _ _ (ap (λ b. refuse_if b DatabaseExists) (sym (c.is_taken.ensures w sees)) ∙ c.in_ok-refuse_if.ensures.check)
    (passed-on _ _ _ _ _ (ap (λ b. refuse_if b (LimitReached Databases)) (sym (c.is_full.ensures w sees)) ∙ c.in_ok-refuse_if-2.ensures.check)
    (passed-on _ _ _ _ _ c.in_ok-storage.ensures.check
    (subst (λ (s : Storage). IsCheck (λ x. x) c.free_storage.result (check_free w s)) c.in_ok-storage.ensures.is (c.free_storage.ensures.check w sees))))
