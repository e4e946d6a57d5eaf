use Rattle.std.proofs.Common.{Option, ◌∙◌, ap, sym, subst}
use Rattle.std.specs.Option.{option_map}
use Rattle.bk_acts.specs.Meaning.{Spell}
use Rattle.bk_ids.specs.declared.record.Body.{Body}
use Rattle.bk_ids.specs.declared.record.Body.TheVariants.{Write}
use Rattle.bk_ids.specs.declared.record.CellImage.{CellImage}
use Rattle.bk_ids.specs.declared.record.Rec.{Rec}
use Rattle.bk_machine.specs.statements.Target.{row_said}
use Rattle.bk_plans.specs.PlanLaws.{if-ok}
use Rattle.bk_undo.specs.Spelled.{image}
use Rattle.bk_world.specs.Records.{written}
use Rattle.bk_world.specs.declared.transaction.Open.{Open}
use Rattle.bk_row_plans.proofs.row.row_records.Goals as goal

pub returns-in-Some-clause-said : goal.returns-in-Some-clause-said
returns-in-Some-clause-said c =
    let at = c.args.place.now in
    let n = c.args.lsn in
    let t : Open = c.in-Some.transaction.now in
    let by : Body → Rec = λ (b : Body). record { lsn = n; begin = t.begin; body = b } in
    if-ok _ _ c.say_one.result
    (λ records spell change before cells.
    subst (λ (o : Option Open). Spell records n (row_said o n at before change c.args.time)) (sym (ap (option_map (λ t. t.now)) c.in-Some.is))
    (spell (record { begin = t.begin; deed = written at before change })
    (ap (λ (i : CellImage). by (Write at i (image change.table change.key change.value))) (sym cells.old_is) ∙ ap (λ (i : CellImage). by (Write at c.args.cells.old i)) (sym cells.new_is) ∙ ap by (sym c.write_of.ensures.is))))
    c.say_one.ensures.said
