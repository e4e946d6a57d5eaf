use Rattle.std.proofs.Common.{◌∷◌, ◌++◌, [], List, take, ap, sym, ◌∙◌, subst, rules}
use Rattle.std.specs.Prelude.{IsErrOf}
use Rattle.std.proofs.lemmas.List.{take_all}
use Rattle.bk_world.specs.declared.row.PlacedRow.{PlacedRow}
use Rattle.bk_shown.specs.Steps.{HasRows, MayAdd}
use Rattle.bk_shown.specs.declared.error.TakeError.TheVariants.{Unfit}
use Rattle.bk_shown.proofs.Lists.{take-next}
use Rattle.bk_shown.proofs.Restored.{has-row, may-add}
use Rattle.bk_shown.proofs.shown.Shown.add_rows.Goals as goal

unfit : (c : goal.After-from_residual) → IsErrOf c.from_residual.result Unfit → MayAdd c.loop-row.self.groups c.row-item.result → ⊥
unfit c e = search rules

pub returns-in_err-add_row-clause-unfit : goal.returns-in_err-add_row-clause-unfit
returns-in_err-add_row-clause-unfit c = λ e files made has holds.
    unfit c e (subst (MayAdd c.loop-row.self.groups) (sym c.row-item.is)
    (may-add files made c.args.rows.now c.loop-row.row-index c.row-item.result c.loop-row.self c.loop-row-test.true holds (c.loop-row.invariant files made has)))

pub loop-row-preserved : goal.loop-row-preserved
loop-row-preserved c = λ files made has.
    subst (λ (rows : List PlacedRow). HasRows files made rows c.add_row.new.self)
    (ap (λ (row : PlacedRow). take c.loop-row.row-index c.args.rows.now ++ row ∷ []) c.row-item.is ∙ sym (take-next c.args.rows.now c.loop-row.row-index c.row-item.result c.loop-row-test.true))
    (has-row files made (take c.loop-row.row-index c.args.rows.now) c.row-item.result c.loop-row.self c.add_row.new.self (c.loop-row.invariant files made has) c.in_ok-add_row.ensures.ok)

pub returns-clause-ok : goal.returns-clause-ok
returns-clause-ok c = λ files made has.
    subst (λ (rows : List PlacedRow). HasRows files made rows c.loop-row.self) (take_all c.loop-row.row-index c.args.rows.now c.loop-row-test.false) (c.loop-row.invariant files made has)
