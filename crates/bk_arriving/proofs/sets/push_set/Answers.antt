use Rattle.std.proofs.Common.{◌≡◌, ◌<◌, length, sym, rules, arith, ◌∙◌}
use Rattle.std.proofs.lemmas.Result.{err_from_is_err_and}
use Rattle.bk_lemmas.specs.Tests.{same_error}
use Rattle.bk_arriving.specs.Sets.{pages_of}
use Rattle.bk_arriving.specs.declared.error.ArriveError.TheVariants.{Unfit}
use Rattle.bk_arriving.proofs.Adding.{advances_then, stays_then, touches_then}
use Rattle.bk_arriving.proofs.Read.{headers_of}
use Rattle.bk_arriving.proofs.Rest.{all_there, none_left}
use Rattle.bk_arriving.proofs.Unchanged.{few_as}
use Rattle.bk_arriving.proofs.sets.push_set.Goals as goal

pub push_headers-requires-clause-few : goal.push_headers-requires-clause-few
push_headers-requires-clause-few g c = few_as c.args.arriving.now c.push_all.new.arriving c.in_ok-push_all.ensures.advances c.requires.few

pub push_headers-requires-clause-stands : goal.push_headers-requires-clause-stands
push_headers-requires-clause-stands g c t = (c.in_ok-push_all.ensures.stays t).begun

pub returns-in_err-push_all-clause-unfit : goal.returns-in_err-push_all-clause-unfit
returns-in_err-push_all-clause-unfit g c =
    let p = err_from_is_err_and c.from_residual.result c.from_residual.ensures.1 in
    rw (p.1, p.2) (λ t body is remain unfit. c.in_err-push_all.ensures.unfit t body is remain (same_error c.in_err-push_all.field-0.0 Unfit unfit))

pub returns-in_err-push_headers-clause-crash : goal.returns-in_err-push_headers-clause-crash
returns-in_err-push_headers-clause-crash g c t =
    let on = c.in_ok-push_all.ensures.advances in
    touches_then c.args.arriving.now c.push_all.new.arriving (g.D.Device.disk c.args.dev.now) (g.D.Device.disk c.push_all.new.dev) (g.D.Device.disk c.push_headers.new.dev) on.files on.log (c.push_all.ensures.crash t) (c.push_headers.ensures.crash t)

pub returns-then-not-is_whole-clause-crash : goal.returns-then-not-is_whole-clause-crash
returns-then-not-is_whole-clause-crash g c t =
    let on = c.in_ok-push_all.ensures.advances in
    touches_then c.args.arriving.now c.push_all.new.arriving (g.D.Device.disk c.args.dev.now) (g.D.Device.disk c.push_all.new.dev) (g.D.Device.disk c.push_headers.new.dev) on.files on.log (c.push_all.ensures.crash t) (c.push_headers.ensures.crash t)

pub returns-then-not-is_whole-clause-unfit : goal.returns-then-not-is_whole-clause-unfit
returns-then-not-is_whole-clause-unfit g c t body is remain unfit =
    let f = c.push_headers.new.arriving.filling in
    let next : f.whole < length f.files = c.is_whole.ensures.next (search rules) in
    all_there f body.extents c.args.set.now.extents c.in_ok-push_headers.ensures.advances.even c.in_ok-push_headers.ensures.past is.extents (c.in_ok-push_all.ensures.rest t body is remain ∙ sym c.in_ok-push_headers.ensures.rest) next

pub returns-clause-advances : goal.returns-clause-advances
returns-clause-advances g c = advances_then c.args.arriving.now c.push_all.new.arriving c.push_headers.new.arriving c.in_ok-push_all.ensures.advances c.in_ok-push_headers.ensures.advances

pub returns-clause-fits : goal.returns-clause-fits
returns-clause-fits g c t body is =
    let f = c.push_headers.new.arriving.filling in
    let whole : f.whole ≡ length f.files = c.is_whole.ensures.whole (search rules) in
    c.in_ok-push_all.ensures.fits t body is (none_left f body.extents c.args.set.now.extents is.extents (omega (arith, whole)) ∙ c.in_ok-push_headers.ensures.rest)

pub returns-clause-stays : goal.returns-clause-stays
returns-clause-stays g c t =
    stays_then c.args.arriving.now c.push_all.new.arriving c.push_headers.new.arriving (g.D.Device.disk c.args.dev.now) (g.D.Device.disk c.push_all.new.dev) (g.D.Device.disk c.push_headers.new.dev) c.in_ok-push_all.ensures.advances.log (c.in_ok-push_all.ensures.stays t)
    (c.in_ok-push_headers.ensures.stays t)

pub returns-clause-brings : goal.returns-clause-brings
returns-clause-brings g c t body is records old = c.in_ok-push_headers.ensures.brings t (pages_of body) (headers_of body) records (c.in_ok-push_all.ensures.brings t body is records old)

pub returns-clause-crash : goal.returns-clause-crash
returns-clause-crash g c t =
    let on = c.in_ok-push_all.ensures.advances in
    touches_then c.args.arriving.now c.push_all.new.arriving (g.D.Device.disk c.args.dev.now) (g.D.Device.disk c.push_all.new.dev) (g.D.Device.disk c.push_headers.new.dev) on.files on.log (c.push_all.ensures.crash t) (c.push_headers.ensures.crash t)
