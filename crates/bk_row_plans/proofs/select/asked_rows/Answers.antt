use Rattle.std.proofs.Common.{◌∙◌, ap, sym}
use Rattle.bk_kept.specs.Keeps.{database_of}
use Rattle.bk_machine.specs.Seen.{visible}
use Rattle.bk_machine.specs.statements.Select.{asked_rows, row_of}
use Rattle.bk_plans.specs.PlanLaws.{if-ok}
use Rattle.bk_row_plans.proofs.select.asked_rows.Goals as goal

pub returns-in-None : goal.returns-in-None
returns-in-None c =
    let d = c.args.database.now in
    if-ok _ _ c.seen_rows.result (λ rows is w sees shows. is w sees shows ∙ ap (λ key. asked_rows key (visible w (database_of d) c.args.table.now)) (sym c.in-None.is)) c.seen_rows.ensures

pub returns-in-Some : goal.returns-in-Some
returns-in-Some c =
    let d = c.args.database.now in
    if-ok _ _ c.row_of.result (λ rows is w sees shows. is ∙ ap (row_of c.in-Some.key) (c.seen_row-value.ensures w sees shows) ∙ ap (λ key. asked_rows key (visible w (database_of d) c.args.table.now)) (sym c.in-Some.is)) c.row_of.ensures
