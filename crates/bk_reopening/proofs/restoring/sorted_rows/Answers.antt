use Rattle.std.proofs.lemmas.Result.{err_from_is_err_and}
use Rattle.bk_lemmas.specs.Tests.{same_error}
use Rattle.bk_reopening.specs.declared.error.OpenError.TheVariants.{Foreign}
use Rattle.bk_reopening.proofs.Found.{found-sorted}
use Rattle.bk_reopening.proofs.restoring.sorted_rows.Goals as goal

pub returns-in_err-rows-clause-foreign : goal.returns-in_err-rows-clause-foreign
returns-in_err-rows-clause-foreign c =
    let p = err_from_is_err_and c.from_residual.result c.from_residual.ensures.1 in
    rw (p.1, p.2) (λ is. c.in_err-rows.ensures.foreign (same_error c.in_err-rows.field-0.0 Foreign is))

pub returns-clause-all : goal.returns-clause-all
returns-clause-all c = λ cells held. found-sorted cells c.args.paged.now.facts.files c.in_ok-rows.rows.items c.sort_rows.new.rows.items c.sort_rows.ensures.moves (c.in_ok-rows.ensures.all cells held)
