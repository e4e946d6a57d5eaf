use Rattle.std.proofs.Common.{None, sym, subst}
use Rattle.std.proofs.lemmas.Result.{err_from_is_err_and}
use Rattle.bk_lemmas.specs.Tests.{same_error}
use Rattle.bk_record.specs.Log.{IsLog}
use Rattle.bk_paged.specs.declared.error.PagedError.TheVariants.{Foreign}
use Rattle.bk_opening.proofs.Undoing.{undone_more}
use Rattle.bk_opening.proofs.opening.append_undoing.Goals as goal

pub returns-in_err-undoing-clause-foreign : goal.returns-in_err-undoing-clause-foreign
returns-in_err-undoing-clause-foreign c =
    let p = err_from_is_err_and c.from_residual.result c.from_residual.ensures.1 in
    rw (p.1, p.2) (λ held log few is. c.in_err-undoing.ensures.foreign (same_error c.in_err-undoing.field-0.0 Foreign is) held (subst (λ b. IsLog b held None) (sym c.as_slice.ensures) log))

pub loop-r-preserved : goal.loop-r-preserved
loop-r-preserved c =
    undone_more c.loop-r.yielded c.in-Some.r c.args.log.now c.loop-r.log c.append_one.new.log c.args.bytes.now c.loop-r.bytes c.append_one.new.bytes c.loop-r.invariant
    c.in_ok-append_one.ensures.log c.in_ok-append_one.ensures.bytes c.in_ok-append_one.ensures.is_record
