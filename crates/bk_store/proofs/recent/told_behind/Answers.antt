use Rattle.std.proofs.Common.{drop, refl, arith}
use Rattle.std.proofs.lemmas.List.{length-drop, nil_from_length}
use Rattle.std.proofs.lemmas.Result.{err_from_is_err_and}
use Rattle.bk_lemmas.specs.Tests.{same_error}
use Rattle.bk_paged.specs.declared.error.PagedError.TheVariants.{Foreign}
use Rattle.bk_store.proofs.Behind.{front-all, front-skims, log-begins, record-at}
use Rattle.bk_store.proofs.recent.told_behind.Goals as goal

pub records-preserved : goal.records-preserved
records-preserved c = record {
  inside = c.in-Some.ensures.inside.1;
  so_far = λ rs first.
      front-skims rs c.args.log.now c.records.at c.in-Some.next c.in-Some.skimmed c.records.recent c.take_skimmed.new.recent (c.records.invariant.so_far rs first) c.in-Some.ensures.inside c.in-Some.ensures.shows c.in_ok-take_skimmed.ensures.takes;
}

pub returns-in_err-take_skimmed-clause-foreign : goal.returns-in_err-take_skimmed-clause-foreign
returns-in_err-take_skimmed-clause-foreign c =
    let p = err_from_is_err_and c.from_residual.result c.from_residual.ensures.1 in
    rw (p.1, p.2) (λ is rs first.
    let one = record-at rs c.args.log.now c.records.at c.in-Some.next c.records.recent (c.records.invariant.so_far rs first) c.in-Some.ensures.inside in
    let seen = c.in-Some.ensures.shows one.0 one.1 one.2 in
    c.in_err-take_skimmed.ensures.foreign (same_error c.in_err-take_skimmed.field-0.0 Foreign is) one.0 seen.0 one.2.is_record.body)

pub returns-then-at-log-clause-foreign : goal.returns-then-at-log-clause-foreign
returns-then-at-log-clause-foreign c is rs first =
    let front = c.records.invariant.so_far rs first in
    let log = c.args.log.now in
    let one = log-begins (drop c.records.at log) front.left front.spells (omega (arith, length-drop c.records.at log, c.if-at-log.true)) in
    c.in_default.ensures.none refl one.0 one.1 one.2

pub returns-clause-says : goal.returns-clause-says
returns-clause-says c rs first =
    let log = c.args.log.now in
    front-all rs (drop c.records.at log) c.records.recent (c.records.invariant.so_far rs first) (nil_from_length (drop c.records.at log) (omega (arith, length-drop c.records.at log, c.if-at-log.false)))
