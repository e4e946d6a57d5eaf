use Rattle.std.proofs.Common.{◌≡◌, ℕ, List, Option, refl, sym, subst}
use Rattle.bk_items.specs.declared.item.NamedTransaction.{NamedTransaction}
use Rattle.bk_items.specs.declared.item.NewFile.{NewFile}
use Rattle.bk_items.specs.declared.item.NewGroup.{NewGroup}
use Rattle.bk_items.specs.declared.item.ScriptItem.{ScriptItem}
use Rattle.bk_items.specs.declared.item.ScriptItem.TheVariants as script
use Rattle.bk_items.specs.declared.rows.RowStatement.{RowStatement}
use Rattle.bk_machine.specs.Machine.{ItemMay, May}
use Rattle.bk_machine.specs.Outcome.{refused}
use Rattle.bk_machine.specs.World.{World}
use Rattle.bk_world.specs.declared.rule.Rule.TheVariants as rule
use Rattle.bk_world.specs.declared.rule.Rule.TheVariants.{NotBuilt}
use Rattle.bk_plans.specs.declared.parts.Plan.TheVariants.{Refused}
use Rattle.bk_plans.specs.PlanLaws.{if-plan, plans-refused}
use Rattle.bk_plans.specs.Planning.{Plans, ReadsNoMedium}
use Rattle.bk_planning.proofs.planning.plan.Goals as goal

-- An item that no plan is written for is refused as not built. This is the one list of items here.
record IsOther (item : ScriptItem) : Type 0 where
  create : (a : List ℕ) (b : List NewFile) (c : List NewGroup) (d : Option NewFile) → item ≡ script.CreateDatabase a b c d → ⊥
  table : (a : List ℕ) (b : Option (List ℕ)) → item ≡ script.CreateTable a b → ⊥
  rows : (a : List ℕ) (b : RowStatement) → item ≡ script.Rows a b → ⊥
  use_it : (a : List ℕ) → item ≡ script.Use a → ⊥
  drop : (a : List ℕ) → item ≡ script.DropDatabase a → ⊥
  begin : (a : Option NamedTransaction) → item ≡ script.Begin a → ⊥
  commit : item ≡ script.Commit → ⊥
  rollback : item ≡ script.Rollback → ⊥
  checkpoint : item ≡ script.Checkpoint → ⊥
  session : (a : ℕ) → item ≡ script.Session a → ⊥
  start : item ≡ script.Start → ⊥
  step : (a : ℕ) → item ≡ script.Step a → ⊥
  syntax_it : (a : ℕ) → item ≡ script.Syntax a → ⊥
  long : item ≡ script.TooLong → ⊥

module _ (w : World) (line now : ℕ) where
  unbuilt : (item : ScriptItem) → IsOther item → ReadsNoMedium item → ItemMay w line item now (refused (NotBuilt line))
  unbuilt (script.CreateDatabase a b c d) other plain = absurd (other.create a b c d refl)
  unbuilt (script.BackupDatabase a b c d) other plain = absurd plain
  unbuilt (script.BackupLog a b c) other plain = refl
  unbuilt (script.RestoreDatabase a b c d) other plain = absurd plain
  unbuilt (script.RestoreLog a b c) other plain = refl
  unbuilt (script.QueryMedium a b c) other plain = absurd plain
  unbuilt (script.CreateTable a b) other plain = absurd (other.table a b refl)
  unbuilt (script.Rows a b) other plain = absurd (other.rows a b refl)
  unbuilt (script.Begin a) other plain = absurd (other.begin a refl)
  unbuilt (script.Commit) other plain = absurd (other.commit refl)
  unbuilt (script.Rollback) other plain = absurd (other.rollback refl)
  unbuilt (script.Checkpoint) other plain = absurd (other.checkpoint refl)
  unbuilt (script.Use a) other plain = absurd (other.use_it a refl)
  unbuilt (script.SetRecovery a b) other plain = refl
  unbuilt (script.DropDatabase a) other plain = absurd (other.drop a refl)
  unbuilt (script.SelectCatalog a) other plain = absurd plain
  unbuilt (script.Session a) other plain = absurd (other.session a refl)
  unbuilt (script.Start) other plain = absurd (other.start refl)
  unbuilt (script.Step a) other plain = absurd (other.step a refl)
  unbuilt (script.Wait) other plain = absurd plain
  unbuilt (script.Syntax a) other plain = absurd (other.syntax_it a refl)
  unbuilt (script.TooLong) other plain = absurd (other.long refl)

pub returns-in-DropDatabase-clause-plans : goal.returns-in-DropDatabase-clause-plans
returns-in-DropDatabase-clause-plans c =
    if-plan _ _ c.plan_drop_database.result
    (λ plan plans plain. subst (λ (i : ScriptItem). Plans c.args.kept.now (λ w. Unit {0}) (record { item = i; line = c.args.statement.now.line }) c.args.now plan) (sym c.in-DropDatabase.is) (plans c.args.statement.now.line c.args.now))
    c.plan_drop_database.ensures.plans

pub returns-in-Use-clause-plans : goal.returns-in-Use-clause-plans
returns-in-Use-clause-plans c =
    if-plan _ _ c.plan_use.result
    (λ plan plans plain. subst (λ (i : ScriptItem). Plans c.args.kept.now (λ w. Unit {0}) (record { item = i; line = c.args.statement.now.line }) c.args.now plan) (sym c.in-Use.is) (plans c.args.statement.now.line c.args.now))
    c.plan_use.ensures.plans

pub returns-in-Begin-clause-plans : goal.returns-in-Begin-clause-plans
returns-in-Begin-clause-plans c =
    if-plan _ _ c.plan_begin.result
    (λ plan plans plain. subst (λ (i : ScriptItem). Plans c.args.kept.now (λ w. Unit {0}) (record { item = i; line = c.args.statement.now.line }) c.args.now plan) (sym c.in-Begin.is) (plans c.args.now))
    c.plan_begin.ensures.plans

pub returns-in-Commit-clause-plans : goal.returns-in-Commit-clause-plans
returns-in-Commit-clause-plans c =
    if-plan _ _ c.plan_commit.result
    (λ plan plans plain. subst (λ (i : ScriptItem). Plans c.args.kept.now (λ w. Unit {0}) (record { item = i; line = c.args.statement.now.line }) c.args.now plan) (sym c.in-Commit.is) (plans c.args.statement.now.line))
    c.plan_commit.ensures.plans

pub returns-in-Rollback-clause-plans : goal.returns-in-Rollback-clause-plans
returns-in-Rollback-clause-plans c =
    if-plan _ _ c.plan_rollback.result
    (λ plan plans plain. subst (λ (i : ScriptItem). Plans c.args.kept.now (λ w. Unit {0}) (record { item = i; line = c.args.statement.now.line }) c.args.now plan) (sym c.in-Rollback.is) (plans c.args.statement.now.line c.args.now))
    c.plan_rollback.ensures.plans

pub returns-in-Checkpoint-clause-plans : goal.returns-in-Checkpoint-clause-plans
returns-in-Checkpoint-clause-plans c =
    if-plan _ _ c.plan_checkpoint.result
    (λ plan plans plain. subst (λ (i : ScriptItem). Plans c.args.kept.now (λ w. Unit {0}) (record { item = i; line = c.args.statement.now.line }) c.args.now plan) (sym c.in-Checkpoint.is) (plans c.args.statement.now.line))
    c.plan_checkpoint.ensures.plans

pub returns-in-Session-clause-plans : goal.returns-in-Session-clause-plans
returns-in-Session-clause-plans c =
    if-plan _ _ c.plan_session.result
    (λ plan plans plain. subst (λ (i : ScriptItem). Plans c.args.kept.now (λ w. Unit {0}) (record { item = i; line = c.args.statement.now.line }) c.args.now plan) (sym c.in-Session.is) (plans c.args.now))
    c.plan_session.ensures.plans

pub returns-in-Start-clause-plans : goal.returns-in-Start-clause-plans
returns-in-Start-clause-plans c =
    if-plan _ _ c.plan_start.result
    (λ plan plans plain. subst (λ (i : ScriptItem). Plans c.args.kept.now (λ w. Unit {0}) (record { item = i; line = c.args.statement.now.line }) c.args.now plan) (sym c.in-Start.is) (plans c.args.statement.now.line c.args.now))
    c.plan_start.ensures.plans

pub returns-in-Step-clause-plans : goal.returns-in-Step-clause-plans
returns-in-Step-clause-plans c =
    if-plan _ _ c.plan_step.result
    (λ plan plans plain. subst (λ (i : ScriptItem). Plans c.args.kept.now (λ w. Unit {0}) (record { item = i; line = c.args.statement.now.line }) c.args.now plan) (sym c.in-Step.is) (plans c.args.statement.now.line c.args.now))
    c.plan_step.ensures.plans

pub returns-in-Syntax-clause-plans : goal.returns-in-Syntax-clause-plans
unfolding May
returns-in-Syntax-clause-plans c = λ plain.
    subst (λ (i : ScriptItem). Plans c.args.kept.now (λ w. Unit {0}) (record { item = i; line = c.args.statement.now.line }) c.args.now (Refused (rule.Syntax c.in-Syntax.line))) (sym c.in-Syntax.is)
    (plans-refused c.args.kept.now (λ w. Unit {0}) (record { item = script.Syntax c.in-Syntax.line; line = c.args.statement.now.line }) c.args.now (rule.Syntax c.in-Syntax.line) (λ w sound sees known. refl))

pub returns-in-TooLong-clause-plans : goal.returns-in-TooLong-clause-plans
unfolding May
returns-in-TooLong-clause-plans c = λ plain.
    subst (λ (i : ScriptItem). Plans c.args.kept.now (λ w. Unit {0}) (record { item = i; line = c.args.statement.now.line }) c.args.now (Refused rule.TooLong)) (sym c.in-TooLong.is)
    (plans-refused c.args.kept.now (λ w. Unit {0}) (record { item = script.TooLong; line = c.args.statement.now.line }) c.args.now rule.TooLong (λ w sound sees known. refl))

pub returns-in_default : goal.returns-in_default
unfolding May
returns-in_default c = record {
  plans = λ plain.
      plans-refused c.args.kept.now (λ w. Unit {0}) c.args.statement.now c.args.now (NotBuilt c.args.statement.now.line)
      (λ w sound sees known.
      unbuilt w c.args.statement.now.line c.args.now c.args.statement.now.item (record {
        create = c.in_default.not-CreateDatabase;
        table = c.in_default.not-CreateTable;
        rows = c.in_default.not-Rows;
        use_it = c.in_default.not-Use;
        drop = c.in_default.not-DropDatabase;
        begin = c.in_default.not-Begin;
        commit = c.in_default.not-Commit;
        rollback = c.in_default.not-Rollback;
        checkpoint = c.in_default.not-Checkpoint;
        session = c.in_default.not-Session;
        start = c.in_default.not-Start;
        step = c.in_default.not-Step;
        syntax_it = c.in_default.not-Syntax;
        long = c.in_default.not-TooLong;
      }) plain);
  keeps = tt;
}
