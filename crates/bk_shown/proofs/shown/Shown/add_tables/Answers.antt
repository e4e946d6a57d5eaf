use Rattle.std.proofs.Common.{◌≡◌, ◌<◌, ◌≤◌, ℕ, ◌∷◌, ◌++◌, [], List, take, get_or, length, ap, sym, ◌∙◌, subst, rules}
use Rattle.std.specs.Prelude.{IsErrOf}
use Rattle.bk_world.specs.declared.database.TableSpec.{TableSpec}
use Rattle.bk_shown.specs.Steps.{HasRows, MakesTable, MayMake}
use Rattle.bk_shown.specs.declared.error.TakeError.TheVariants.{Unfit}
use Rattle.bk_shown.proofs.Lists.{take-next}
use Rattle.bk_shown.proofs.Restored.{has-table, may-make}
use Rattle.bk_shown.proofs.shown.Shown.add_tables.Goals as goal

unfit : (c : goal.After-from_residual) → IsErrOf c.from_residual.result Unfit → MayMake c.loop-table.self.groups c.table-item.result.number c.as_str.result.now → ⊥
unfit c e = search rules

pub returns-in_err-take_table-clause-unfit : goal.returns-in_err-take_table-clause-unfit
returns-in_err-take_table-clause-unfit c = λ e files has numbers.
    let named : (get_or c.args.tables.now c.loop-table.table-index c.table-item.result).name ≡ c.table-item.result.name = ap (λ (t : TableSpec). t.name) (sym c.table-item.is) in
    unfit c e (subst (MayMake c.loop-table.self.groups c.table-item.result.number) (sym c.as_str.ensures.spelling)
    (subst (λ (t : TableSpec). MayMake c.loop-table.self.groups t.number t.name) (sym c.table-item.is)
    (may-make files c.args.tables.now c.loop-table.table-index c.table-item.result c.loop-table.self c.loop-table-test.true numbers (c.loop-table.invariant files has)
    (subst (λ (name : List ℕ). 0 < length name) (sym named) c.as_str.ensures.some) (subst (λ (name : List ℕ). length name ≤ 64) (sym named) c.as_str.ensures.short))))

pub loop-table-preserved : goal.loop-table-preserved
loop-table-preserved c = λ files has.
    let made : MakesTable c.table-item.result c.loop-table.self c.take_table.new.self =
    subst (λ (name : List ℕ). MakesTable (record { number = c.table-item.result.number; name = name; group = c.table-item.result.group }) c.loop-table.self c.take_table.new.self) c.as_str.ensures.spelling c.in_ok-take_table.ensures.ok in
    subst (λ (tables : List TableSpec). HasRows files tables [] c.take_table.new.self)
    (ap (λ (t : TableSpec). take c.loop-table.table-index c.args.tables.now ++ t ∷ []) c.table-item.is ∙ sym (take-next c.args.tables.now c.loop-table.table-index c.table-item.result c.loop-table-test.true))
    (has-table files (take c.loop-table.table-index c.args.tables.now) c.table-item.result c.loop-table.self c.take_table.new.self (c.loop-table.invariant files has) made)
