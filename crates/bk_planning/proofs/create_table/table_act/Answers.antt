use Rattle.std.proofs.Common.{ℕ, List, ◌∙◌, sym, ap, subst}
use Rattle.bk_acts.specs.Meaning.{Spell, under}
use Rattle.bk_acts.specs.declared.act.StoredAct.TheVariants.{Logged}
use Rattle.bk_plans.specs.PlanLaws.{if-ok}
use Rattle.bk_plans.specs.SaidLaws.{says-now}
use Rattle.bk_world.specs.Records.{table_made}
use Rattle.bk_world.specs.Says.{alone}
use Rattle.bk_world.specs.declared.transaction.Open.{Open}
use Rattle.bk_kept.specs.declared.kept.Database.{Database as KeptDatabase}
use Rattle.bk_planning.proofs.create_table.table_act.Goals as goal

pub returns-in-Ok-clause-says : goal.returns-in-Ok-clause-says
returns-in-Ok-clause-says c =
    let d = c.args.database.now in
    let said = alone (table_made c.args.time (record { number = c.args.number; name = c.args.table.now; group = c.args.group })) in
    let same = c.in_ok-name_in.ensures in
    let spell = c.in_ok-records.ensures.said (record { begin = 0; deed = table_made c.args.time (record { number = c.args.number; name = c.args.table.now; group = c.args.group }) })
    (ap (λ (name : List ℕ). under c.end.result (record { begin = 0; deed = table_made c.args.time (record { number = c.args.number; name = name; group = c.args.group }) })) (sym same)) in
    if-ok _ _ c.logged.result
    (λ act is.
    says-now d said d.transactions act c.in_ok-records.records (is ∙ ap (λ (ts : List Open). Logged d.name ts c.in_ok-records.records) (c.in-Ok.ensures ∙ c.as_slice.ensures ∙ ap (λ (x : KeptDatabase). x.transactions) c.database.view_is))
    (subst (λ (n : ℕ). Spell c.in_ok-records.records n said) (c.end.ensures.same ∙ ap (λ (d : KeptDatabase). d.shown.«end») c.database.view_is) spell))
    c.logged.ensures.is
