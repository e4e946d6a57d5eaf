use Rattle.std.proofs.Common.{ℕ, List, subst}
use Rattle.std.proofs.lemmas.Result.{err_from_is_err_and}
use Rattle.bk_lemmas.specs.Tests.{same_error}
use Rattle.bk_reopening.specs.Reopening.{Tells}
use Rattle.bk_reopening.specs.declared.error.OpenError.TheVariants.{Foreign}
use Rattle.bk_reopening.proofs.Opened.{note-of, settled-read}
use Rattle.bk_reopening.proofs.loading.read_parts.Goals as goal

pub returns-in_err-noted-clause-foreign : goal.returns-in_err-noted-clause-foreign
returns-in_err-noted-clause-foreign c =
    let p = err_from_is_err_and c.from_residual.result c.from_residual.ensures.1 in
    rw (p.1, p.2) (λ is known told its. c.in_err-noted.ensures.foreign (same_error c.in_err-noted.field-0.0 Foreign is) known told.note (note-of c.args.paged.now c.args.records known told c.note.result.now c.note.ensures its))

pub returns-in_err-shown-clause-foreign : goal.returns-in_err-shown-clause-foreign
returns-in_err-shown-clause-foreign c =
    let p = err_from_is_err_and c.from_residual-in_err-shown.result c.from_residual-in_err-shown.ensures.1 in
    rw (p.1, p.2) (λ is known told its. c.in_err-shown.ensures.foreign (same_error c.in_err-shown.field-0.0 Foreign is) told
    (settled-read c.args.paged.now c.args.records known told c.note.result.now c.in_ok-noted.noted c.note.ensures c.in_ok-noted.ensures.tells its))

pub returns-clause-tells : goal.returns-clause-tells
returns-clause-tells c = subst (λ (bytes : List ℕ). Tells bytes c.in_ok-noted.noted) c.note.ensures c.in_ok-noted.ensures.tells

pub returns-clause-shows : goal.returns-clause-shows
returns-clause-shows c known told its =
    c.in_ok-shown.ensures.shows told (settled-read c.args.paged.now c.args.records known told c.note.result.now c.in_ok-noted.noted c.note.ensures c.in_ok-noted.ensures.tells its)
