use Rattle.std.proofs.Common.{◌≡◌, Option, Some, sym, ◌∙◌, ap, subst}
use Rattle.std.specs.Option.{option_or}
use Rattle.std.proofs.lemmas.Option.{same_Some}
use Rattle.bk_bytes.specs.Cell.{Row}
use Rattle.bk_bytes.specs.CellView.{row_of as cell_row}
use Rattle.bk_world.specs.Records.{RowId}
use Rattle.bk_shown.specs.Values.{IsTextOf, id_in}
use Rattle.bk_shown.proofs.Cells.{read-one, value-one, either-none, either-some}
use Rattle.bk_shown.proofs.writing.written.Goals as goal

pub returns-in_default-or-clause-unfit : goal.returns-in_default-or-clause-unfit
returns-in_default-or-clause-unfit c = λ e table key b v sp.
    either-none table key b v sp.fits.there _ _
    (read-one _ _ table key b c.in-Some-Some.ensures.0 c.in-Some-Some.ensures.1 sp.fits.table_fits sp.fits.key_fits sp.fits.before_fits sp.old_is)
    (read-one _ _ table key v c.in-Some-Some.ensures'.0 c.in-Some-Some.ensures'.1 sp.fits.table_fits sp.fits.key_fits sp.fits.value_fits sp.new_is)
    (ap (λ (o : Option RowId). option_or o (id_in (cell_row c.in-Some-Some.old))) (sym c.row_in.ensures) ∙ ap (λ (o : Option RowId). option_or c.row_in.result o) (sym c.row_in-2.ensures) ∙ sym c.in_default-or.ensures)

pub returns-clause-ok : goal.returns-clause-ok
returns-clause-ok c = λ table key b v sp.
    let old_is = read-one _ _ table key b c.in-Some-Some.ensures.0 c.in-Some-Some.ensures.1 sp.fits.table_fits sp.fits.key_fits sp.fits.before_fits sp.old_is in
    let new_is = read-one _ _ table key v c.in-Some-Some.ensures'.0 c.in-Some-Some.ensures'.1 sp.fits.table_fits sp.fits.key_fits sp.fits.value_fits sp.new_is in
    let found : Some (c.in-Some.table, c.in-Some.key) ≡ Some (table, key) =
    c.in-Some.ensures ∙ sym (ap (λ (o : Option RowId). option_or o (id_in (cell_row c.in-Some-Some.old))) (sym c.row_in.ensures) ∙ ap (λ (o : Option RowId). option_or c.row_in.result o) (sym c.row_in-2.ensures))
    ∙ either-some table key b v sp.fits.there _ _ old_is new_is in
    let row : (c.in-Some.table, c.in-Some.key) ≡ (table, key) = same_Some _ _ found in
    let b_is : c.in_ok-before.before ≡ b = value-one table key b _ sp.fits.before_fits (subst (λ (r : Option Row). IsTextOf r c.in_ok-before.before) old_is c.in_ok-before.ensures) in
    let v_is : c.in_ok-value.value ≡ v = value-one table key v _ sp.fits.value_fits (subst (λ (r : Option Row). IsTextOf r c.in_ok-value.value) new_is c.in_ok-value.ensures) in
    λ i. record { lsn = c.args.lsn; begin = c.args.begin; place = c.args.place; table = (row i).0; key = (row i).1; before = b_is i; value = v_is i }
