use Rattle.std.proofs.Common.{ℕ, refl, subst, ◌∙◌, ap}
use Rattle.bk_acts.specs.Meaning.{Spell}
use Rattle.bk_plans.specs.PlanLaws.{if-ok}
use Rattle.bk_world.specs.Records.{committed}
use Rattle.bk_world.specs.Says.{commit_said}
use Rattle.bk_kept.specs.declared.kept.Database.{Database as KeptDatabase}
use Rattle.bk_planning.proofs.commit.commit_record.Goals as goal

pub returns-clause-said : goal.returns-clause-said
returns-clause-said c =
    if-ok _ _ c.say_one.result
    (λ records spell.
    subst (λ (n : ℕ). Spell records n (commit_said c.args.begin c.args.time c.args.mark)) (c.end.ensures.same ∙ ap (λ (d : KeptDatabase). d.shown.«end») c.database.view_is) (spell (record { begin = c.args.begin; deed = committed c.args.time c.args.mark }) refl))
    c.say_one.ensures.said
