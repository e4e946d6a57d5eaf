use Rattle.std.proofs.Common.{sym, ◌∙◌, ap}
use Rattle.std.specs.Option.{option_map}
use Rattle.bk_kept.specs.declared.kept.Database.{Database as KeptDatabase}
use Rattle.bk_kept.specs.ViewsLaws.{shows-as}
use Rattle.bk_asked.proofs.Locking.{writes-are, writes-none}
use Rattle.bk_asked.proofs.locks.own_writes.Goals as goal

pub returns-in-Some : goal.returns-in-Some
returns-in-Some c = λ w sees shows.
    writes-are w c.args.database.now c.in-Some.transaction.now c.written.result.now c.count_of.result (sym (ap (option_map (λ t. t.now)) c.in-Some.is) ∙ c.own_open.ensures w sees)
    (λ rs shown. c.written.ensures.shown c.args.database.now.files rs (shows-as (ap (λ (d : KeptDatabase). d.shown) c.database.view_is) shown)) c.count_of.ensures shows

pub returns-in-None : goal.returns-in-None
returns-in-None c = λ w sees shows. writes-none w c.args.database.now (sym (ap (option_map (λ t. t.now)) c.in-None.is) ∙ c.own_open.ensures w sees)
