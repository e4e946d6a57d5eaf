use Rattle.std.proofs.Common.{◌≡◌, arith, rules, subst, sym}
use Rattle.std.proofs.lemmas.Result.{err_from_is_err_and}
use Rattle.bk_device.specs.Laws.{cause_then}
use Rattle.bk_lemmas.specs.Tests.{same_error}
use Rattle.bk_arriving.specs.declared.error.ArriveError.TheVariants.{Unfit}
use Rattle.bk_arriving.specs.Steps.{Remain}
use Rattle.bk_arriving.proofs.Adding.{advances_none, advances_then, stays_none, stays_then, touches_none, touches_then}
use Rattle.bk_arriving.proofs.Unchanged.{apart_as, few_as, of_others}
use Rattle.bk_arriving.proofs.sets.push_all.Goals as goal

pub extents-init : goal.extents-init
extents-init g c = record {
  size = c.requires.size;
  advances = advances_none c.args.arriving.now c.requires.even;
  rest = λ t body is remain. remain;
  fits = λ t body is remain. remain;
  stays = λ t. stays_none c.args.arriving.now (g.D.Device.disk c.args.dev.now) (c.requires.stands t);
  brings = λ t body is records old. old;
  effect = λ t. touches_none c.args.arriving.now (g.D.Device.disk c.args.dev.now);
  cause = search rules;
}

pub push_next-requires-clause-few : goal.push_next-requires-clause-few
push_next-requires-clause-few g c = few_as c.args.arriving.now c.extents.arriving c.extents.invariant.advances c.requires.few

pub push_next-requires-clause-apart : goal.push_next-requires-clause-apart
push_next-requires-clause-apart g c = apart_as c.args.arriving.now c.extents.arriving c.args.medium.now.name c.extents.invariant.advances c.requires.apart

pub push_next-requires-clause-stands : goal.push_next-requires-clause-stands
push_next-requires-clause-stands g c t = (c.extents.invariant.stays t).begun

pub extents-preserved : goal.extents-preserved
extents-preserved g c =
    let k = c.args.arriving.now in
    let now = c.extents.arriving in
    let next = c.push_next.new.arriving in
    let so_far = c.extents.invariant.advances in
    record {
      size = c.push_next.ensures.size;
      advances = advances_then k now next so_far c.in_ok-push_next.ensures.advances;
      rest = λ t body is remain.
          c.in_ok-push_next.ensures.rest t body (of_others c.args.medium.now.name (g.D.Device.disk c.args.dev.now) (g.D.Device.disk c.extents.dev) body c.args.set.now c.requires.apart (c.extents.invariant.effect t) is) (c.extents.invariant.rest t body is remain);
      fits = λ t body is remain.
          c.extents.invariant.fits t body is
          (c.in_ok-push_next.ensures.fits t body (of_others c.args.medium.now.name (g.D.Device.disk c.args.dev.now) (g.D.Device.disk c.extents.dev) body c.args.set.now c.requires.apart (c.extents.invariant.effect t) is) remain);
      stays = λ t. stays_then k now next (g.D.Device.disk c.args.dev.now) (g.D.Device.disk c.extents.dev) (g.D.Device.disk c.push_next.new.dev) so_far.log (c.extents.invariant.stays t) (c.in_ok-push_next.ensures.stays t);
      brings = λ t body is records old.
          c.in_ok-push_next.ensures.brings t body (of_others c.args.medium.now.name (g.D.Device.disk c.args.dev.now) (g.D.Device.disk c.extents.dev) body c.args.set.now c.requires.apart (c.extents.invariant.effect t) is) records
          (c.extents.invariant.brings t body is records old);
      effect = λ t. touches_then k now (g.D.Device.disk c.args.dev.now) (g.D.Device.disk c.extents.dev) (g.D.Device.disk c.push_next.new.dev) so_far.files so_far.log (c.extents.invariant.effect t) (c.push_next.ensures.crash t);
      cause = cause_then c.extents.invariant.cause c.in_ok-push_next.ensures.cause (λ none. search rules);
    }

pub returns-in_err-push_next-clause-crash : goal.returns-in_err-push_next-clause-crash
returns-in_err-push_next-clause-crash g c t =
    let so_far = c.extents.invariant.advances in
    touches_then c.args.arriving.now c.extents.arriving (g.D.Device.disk c.args.dev.now) (g.D.Device.disk c.extents.dev) (g.D.Device.disk c.push_next.new.dev) so_far.files so_far.log (c.extents.invariant.effect t) (c.push_next.ensures.crash t)

pub returns-in_err-push_next-clause-unfit : goal.returns-in_err-push_next-clause-unfit
returns-in_err-push_next-clause-unfit g c =
    let p = err_from_is_err_and c.from_residual.result c.from_residual.ensures.1 in
    rw (p.1, p.2) (λ t body is remain unfit.
    c.in_err-push_next.ensures.unfit t body
    (of_others c.args.medium.now.name (g.D.Device.disk c.args.dev.now) (g.D.Device.disk c.extents.dev) body c.args.set.now c.requires.apart (c.extents.invariant.effect t) is)
    (c.extents.invariant.rest t body is remain) (same_error c.in_err-push_next.field-0.0 Unfit unfit))

pub returns-clause-rest : goal.returns-clause-rest
returns-clause-rest g c t body is remain =
    let all : c.extents.i ≡ c.args.set.now.extents = omega (arith, c.extents-test.false, c.extents.auto.i-end) in
    subst (λ n. Remain n body.extents c.extents.arriving.filling) all (c.extents.invariant.rest t body is remain)

pub returns-clause-fits : goal.returns-clause-fits
returns-clause-fits g c t body is remain =
    let all : c.extents.i ≡ c.args.set.now.extents = omega (arith, c.extents-test.false, c.extents.auto.i-end) in
    c.extents.invariant.fits t body is (subst (λ n. Remain n body.extents c.extents.arriving.filling) (sym all) remain)
