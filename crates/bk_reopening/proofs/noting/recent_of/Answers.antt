use Rattle.std.proofs.lemmas.Result.{err_from_is_err_and}
use Rattle.bk_reopening.specs.declared.error.OpenError.TheVariants.{Foreign}
use Rattle.bk_reopening.proofs.Causes.{as_error, foreign-paged, same_cause}
use Rattle.bk_reopening.proofs.Settled.{held-enough, needs-durable, says-front}
use Rattle.bk_reopening.proofs.noting.recent_of.Goals as goal

pub returns-then-not-has_from-clause-foreign : goal.returns-then-not-has_from-clause-foreign
returns-then-not-has_from-clause-foreign c is told its =
    c.has_from.ensures.no c.if-not-has_from.true its.needs (needs-durable c.args.paged.now c.args.records.now c.args.known.now told its)

pub returns-in_err-recent-clause-foreign : goal.returns-in_err-recent-clause-foreign
returns-in_err-recent-clause-foreign c is told its =
    let p = err_from_is_err_and c.from_residual-in_err-recent.result c.from_residual-in_err-recent.ensures.1 in
    let known = c.args.known.now in
    let low = c.has_from.ensures.inside c.if-not-has_from.false in
    c.in_err-recent.ensures.foreign (as_error (foreign-paged c.in_err-recent.field-0.0 p.0 p.2 (same_cause p.0 Foreign p.1 is))) told.records
    (says-front c.args.paged.now c.args.records.now known told c.records_from-log.result.now c.in_ok-first.first its (c.records_from-log.ensures _ its.held (held-enough c.args.paged.now c.args.records.now known told its low)) c.in_ok-first.ensures)

pub returns-clause-says : goal.returns-clause-says
returns-clause-says c told its =
    let known = c.args.known.now in
    let low = c.has_from.ensures.inside c.if-not-has_from.false in
    c.in_ok-recent.ensures.says told.records
    (says-front c.args.paged.now c.args.records.now known told c.records_from-log.result.now c.in_ok-first.first its (c.records_from-log.ensures _ its.held (held-enough c.args.paged.now c.args.records.now known told its low)) c.in_ok-first.ensures)
