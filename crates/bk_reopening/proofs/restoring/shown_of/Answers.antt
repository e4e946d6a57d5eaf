use Rattle.std.proofs.lemmas.Result.{err_from_is_err_and}
use Rattle.bk_cells.specs.Cells.{cell_of}
use Rattle.bk_lemmas.specs.Tests.{same_error}
use Rattle.bk_reopening.specs.declared.error.OpenError.TheVariants.{Foreign}
use Rattle.bk_reopening.proofs.Causes.{as_error, foreign-taking, same_cause}
use Rattle.bk_reopening.proofs.Settled.{Laws, few-files, is-of-read}
use Rattle.bk_reopening.proofs.restoring.shown_of.Goals as goal

pub returns-in_err-rows-clause-foreign : goal.returns-in_err-rows-clause-foreign
returns-in_err-rows-clause-foreign c =
    let p = err_from_is_err_and c.from_residual.result c.from_residual.ensures.1 in
    rw (p.1, p.2) (λ is rs quiet. c.in_err-rows.ensures.foreign (same_error c.in_err-rows.field-0.0 Foreign is) (cell_of rs) quiet.pages quiet.whole (few-files c.args.files.now rs c.args.paged.now c.args.recent.now quiet))

pub returns-in_err-shown-clause-foreign : goal.returns-in_err-shown-clause-foreign
returns-in_err-shown-clause-foreign c = λ is rs quiet.
    let p = err_from_is_err_and c.from_residual-in_err-shown.result c.from_residual-in_err-shown.ensures.1 in
    let laws : Laws = record { keeps = c.placed_logs.ensures.keeps; lie = c.placed_logs.ensures.lie; more = c.placed_logs.ensures.more } in
    c.in_err-shown.ensures.unfit (as_error (foreign-taking c.in_err-shown.field-0.0 p.0 p.2 (same_cause p.0 Foreign p.1 is))) rs
    (is-of-read c.rows_law.ensures laws c.args.files.now rs c.args.paged.now c.args.recent.now c.in_ok-rows.rows.items quiet c.in_ok-rows.ensures.sorted (c.in_ok-rows.ensures.all (cell_of rs) quiet.pages) _ _ _ _
    c.as_slice.ensures.value c.as_slice-2.ensures.value c.none.ensures c.end.ensures)

pub returns-clause-shows : goal.returns-clause-shows
returns-clause-shows c = λ rs quiet.
    let laws : Laws = record { keeps = c.placed_logs.ensures.keeps; lie = c.placed_logs.ensures.lie; more = c.placed_logs.ensures.more } in
    c.in_ok-shown.ensures.ok rs
    (is-of-read c.rows_law.ensures laws c.args.files.now rs c.args.paged.now c.args.recent.now c.in_ok-rows.rows.items quiet c.in_ok-rows.ensures.sorted (c.in_ok-rows.ensures.all (cell_of rs) quiet.pages) _ _ _ _
    c.as_slice.ensures.value c.as_slice-2.ensures.value c.none.ensures c.end.ensures)
