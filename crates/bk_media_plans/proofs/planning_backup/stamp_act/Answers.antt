use Rattle.std.proofs.Common.{ℕ, ◌+◌, List, ◌∙◌, ap, refl, subst}
use Rattle.bk_acts.specs.declared.act.StoredAct.TheVariants.{Logged}
use Rattle.bk_acts.specs.Meaning.{Spell}
use Rattle.bk_plans.specs.PlanLaws.{if-ok}
use Rattle.bk_world.specs.Records.{stamped}
use Rattle.bk_world.specs.Says.{alone}
use Rattle.bk_world.specs.declared.transaction.Open.{Open}
use Rattle.bk_kept.specs.declared.kept.Database.{Database as KeptDatabase}
use Rattle.bk_media_plans.proofs.planning_backup.stamp_act.Goals as goal

pub returns-in-Ok : goal.returns-in-Ok
returns-in-Ok c =
    let records = c.in_ok-records.records in
    if-ok _ _ c.logged.result
    (λ act is. record {
      records = records;
      is = is ∙ ap (λ (ts : List Open). Logged c.args.database.now.name ts records) (c.in-Ok.ensures ∙ c.as_slice.ensures ∙ ap (λ (x : KeptDatabase). x.transactions) c.database.view_is);
      spell = subst (λ (n : ℕ). Spell records (n + 1) (alone (stamped c.args.time c.args.set))) (c.end-lsn.ensures.same ∙ ap (λ (d : KeptDatabase). d.shown.«end») c.database.view_is)
          (c.in_ok-records.ensures.said (record { begin = 0; deed = stamped c.args.time c.args.set }) refl);
      keep = c.in_ok-records.ensures.keep;
    })
    c.logged.ensures.is
