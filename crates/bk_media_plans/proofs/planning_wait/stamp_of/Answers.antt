use Rattle.std.proofs.Common.{◌≡◌, ℕ, ◌∙◌, ap, refl, subst}
use Rattle.bk_acts.specs.Meaning.{Spell}
use Rattle.bk_kept.specs.declared.kept.Database.{Database as KeptDatabase}
use Rattle.bk_plans.specs.PlanLaws.{if-ok}
use Rattle.bk_world.specs.Records.{stamped}
use Rattle.bk_world.specs.Says.{alone}
use Rattle.bk_media_plans.proofs.planning_wait.stamp_of.Goals as goal

pub returns-clause-says : goal.returns-clause-says
returns-clause-says c =
    let r = c.args.running.now in
    let at : c.end.result ≡ r.database.now.shown.end = c.end.ensures.same ∙ ap (λ (d : KeptDatabase). d.shown.«end») c.database.view_is in
    if-ok _ _ c.say_one.result
    (λ records said. subst (λ (n : ℕ). Spell records n (alone (stamped c.args.time r.job.now.set))) at (said (record { begin = 0; deed = stamped c.args.time r.job.now.set }) refl))
    c.say_one.ensures.said
