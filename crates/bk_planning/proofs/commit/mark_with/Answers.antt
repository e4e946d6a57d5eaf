use Rattle.std.proofs.Common.{List, sym, ◌∙◌, ap}
use Rattle.bk_kept.specs.Keeps.{database_of}
use Rattle.bk_machine.specs.World.{log_of}
use Rattle.bk_machine.specs.statements.Commit.{mark_with}
use Rattle.bk_plans.specs.PlanLaws.{if-ok}
use Rattle.bk_world.specs.Pending.{Pending, of_transaction}
use Rattle.bk_planning.proofs.Marks.{marked, unmarked}
use Rattle.bk_kept.specs.declared.kept.Database.{Database as KeptDatabase}
use Rattle.bk_kept.specs.ViewsLaws.{shows-as}
use Rattle.bk_planning.proofs.commit.mark_with.Goals as goal

pub returns-then-has_written : goal.returns-then-has_written
unfolding log_of
returns-then-has_written c = λ w shows.
    let d = c.args.database.now in
    let t = c.args.transaction.now in
    let pends = c.written.ensures.shown d.files (log_of w.history (database_of d)) (shows-as (ap (λ (x : KeptDatabase). x.shown) c.database.view_is) shows) in
    if-ok _ _ c.own_mark.result
    (λ mark same. same ∙ sym (marked t.begin c.written.result.now t.mark (sym c.has_written.ensures ∙ c.if-has_written.true)) ∙ ap (λ (ws : List Pending). mark_with (of_transaction t.begin ws) t.mark) pends) c.own_mark.ensures

pub returns : goal.returns
unfolding log_of
returns c = λ w shows.
    let d = c.args.database.now in
    let t = c.args.transaction.now in
    let pends = c.written.ensures.shown d.files (log_of w.history (database_of d)) (shows-as (ap (λ (x : KeptDatabase). x.shown) c.database.view_is) shows) in
    sym (unmarked t.begin c.written.result.now t.mark (sym c.has_written.ensures ∙ c.if-has_written.false)) ∙ ap (λ (ws : List Pending). mark_with (of_transaction t.begin ws) t.mark) pends
