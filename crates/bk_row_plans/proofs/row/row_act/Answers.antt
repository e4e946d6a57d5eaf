use Rattle.std.proofs.Common.{ℕ, List, ◌∙◌, ap, subst}
use Rattle.std.specs.Option.{option_map}
use Rattle.bk_acts.specs.Meaning.{Spell}
use Rattle.bk_acts.specs.declared.act.StoredAct.TheVariants.{Logged}
use Rattle.bk_machine.specs.statements.Target.{row_said}
use Rattle.bk_plans.specs.PlanLaws.{if-ok}
use Rattle.bk_plans.specs.SaidLaws.{says-now}
use Rattle.bk_world.specs.declared.transaction.Open.{Open}
use Rattle.bk_kept.specs.declared.kept.Database.{Database as KeptDatabase}
use Rattle.bk_row_plans.proofs.row.row_act.Goals as goal

pub returns-in-Ok-clause-says : goal.returns-in-Ok-clause-says
returns-in-Ok-clause-says c =
    let d = c.args.database.now in
    let own = option_map (λ t. t.now) c.args.own in
    if-ok _ _ c.logged.result
    (λ act is change before cells.
    says-now d (row_said own d.shown.«end» c.args.place.now before change c.args.time) d.transactions act c.in-Ok.records
    (is ∙ ap (λ (ts : List Open). Logged d.name ts c.in-Ok.records) (c.in_ok-transactions.ensures ∙ c.as_slice.ensures ∙ ap (λ (x : KeptDatabase). x.transactions) c.database.view_is))
    (subst (λ (n : ℕ). Spell c.in-Ok.records n (row_said own n c.args.place.now before change c.args.time)) (c.end.ensures.same ∙ ap (λ (d : KeptDatabase). d.shown.«end») c.database.view_is) (c.in-Ok.ensures.said change before cells)))
    c.logged.ensures.is
