use Rattle.std.proofs.Common.{sym, ◌∙◌, ap}
use Rattle.std.specs.Option.{option_map}
use Rattle.bk_kept.specs.declared.kept.Database.{Database as KeptDatabase}
use Rattle.bk_kept.specs.ViewsLaws.{shows-as}
use Rattle.bk_asked.proofs.Laying.{sees-committed, sees-laid}
use Rattle.bk_asked.proofs.sights.seen_rows.Goals as goal

pub returns : goal.returns
returns c = λ w sees shows.
    sees-laid w c.args.database.now c.in-Some.transaction.now c.args.table.now c.in_ok-rows.rows.items c.lay_over.new.rows.items c.written-written.result.now (sym (ap (option_map (λ t. t.now)) c.in-Some.is) ∙ c.own_open.ensures w sees) shows
    (λ rs shown. c.in_ok-rows.ensures c.args.database.now.files rs (shows-as (ap (λ (d : KeptDatabase). d.shown) c.database.view_is) shown)) (λ rs shown. c.written-written.ensures.shown c.args.database.now.files rs (shows-as (ap (λ (d : KeptDatabase). d.shown) c.database.view_is) shown)) c.in_ok-lay_over.ensures

pub returns-in_default : goal.returns-in_default
returns-in_default c = λ w sees shows.
    c.in_ok-rows.ensures c.args.database.now.files _ (shows-as (ap (λ (d : KeptDatabase). d.shown) c.database.view_is) shows) ∙ sees-committed w c.args.database.now c.args.table.now (sym (ap (option_map (λ t. t.now)) c.in_default.is) ∙ c.own_open.ensures w sees)
