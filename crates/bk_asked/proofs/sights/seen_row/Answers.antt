use Rattle.std.proofs.Common.{sym, ◌∙◌, ap}
use Rattle.std.specs.Option.{option_map}
use Rattle.bk_world.specs.Telling.{row_at}
use Rattle.bk_kept.specs.declared.kept.Database.{Database as KeptDatabase}
use Rattle.bk_kept.specs.ViewsLaws.{shows-as}
use Rattle.bk_asked.proofs.Laying.{sees-committed, sees-own}
use Rattle.bk_asked.proofs.sights.seen_row.Goals as goal

pub returns-in-Some : goal.returns-in-Some
returns-in-Some c = λ w sees shows.
    c.seen.ensures c.args.database.now.files _ (shows-as (ap (λ (d : KeptDatabase). d.shown) c.database.view_is) shows)
    ∙ ap (λ rs. row_at rs c.args.key) (sees-own w c.args.database.now c.in-Some.transaction.now c.args.table.now (sym (ap (option_map (λ t. t.now)) c.in-Some.is) ∙ c.own_open.ensures w sees))

pub returns-in-None : goal.returns-in-None
returns-in-None c = λ w sees shows.
    c.value.ensures c.args.database.now.files _ (shows-as (ap (λ (d : KeptDatabase). d.shown) c.database.view_is) shows)
    ∙ ap (λ rs. row_at rs c.args.key) (sees-committed w c.args.database.now c.args.table.now (sym (ap (option_map (λ t. t.now)) c.in-None.is) ∙ c.own_open.ensures w sees))
