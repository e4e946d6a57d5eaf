use Rattle.std.proofs.Common.{sym, ◌∙◌}
use Rattle.std.proofs.lemmas.Result.{on_ok_weaker}
use Rattle.bk_arriving.specs.Sets.{pages_of}
use Rattle.bk_arriving.proofs.Adding.{advances_then, stays_then, touches_then}
use Rattle.bk_arriving.proofs.Read.{headers_of}
use Rattle.bk_arriving.proofs.Unchanged.{of_others}
use Rattle.bk_arriving.proofs.sets.push_next.Goals as goal

pub returns-clause-unfit : goal.returns-clause-unfit
returns-clause-unfit g c t body is remain =
    c.push_stored.ensures.unfit t body
    (of_others c.args.medium.now.name (g.D.Device.disk c.args.dev.now) (g.D.Device.disk c.push_headers.new.dev) body c.args.set.now c.requires.apart (c.push_headers.ensures.crash t) is)
    (remain ∙ sym c.in_ok-push_headers.ensures.rest)

pub returns-clause-advances : goal.returns-clause-advances
returns-clause-advances g c = on_ok_weaker c.push_stored.result (advances_then c.args.arriving.now c.push_headers.new.arriving c.push_stored.new.arriving c.in_ok-push_headers.ensures.advances) c.push_stored.ensures.advances

pub returns-clause-rest : goal.returns-clause-rest
returns-clause-rest g c t body is remain =
    c.push_stored.ensures.rest t body
    (of_others c.args.medium.now.name (g.D.Device.disk c.args.dev.now) (g.D.Device.disk c.push_headers.new.dev) body c.args.set.now c.requires.apart (c.push_headers.ensures.crash t) is)
    (remain ∙ sym c.in_ok-push_headers.ensures.rest)

pub returns-clause-fits : goal.returns-clause-fits
returns-clause-fits g c t body is =
    on_ok_weaker c.push_stored.result (λ fits remain. fits remain ∙ c.in_ok-push_headers.ensures.rest) (c.push_stored.ensures.fits t body
    (of_others c.args.medium.now.name (g.D.Device.disk c.args.dev.now) (g.D.Device.disk c.push_headers.new.dev) body c.args.set.now c.requires.apart (c.push_headers.ensures.crash t) is))

pub returns-clause-stays : goal.returns-clause-stays
returns-clause-stays g c t =
    on_ok_weaker c.push_stored.result
    (stays_then c.args.arriving.now c.push_headers.new.arriving c.push_stored.new.arriving (g.D.Device.disk c.args.dev.now) (g.D.Device.disk c.push_headers.new.dev) (g.D.Device.disk c.push_stored.new.dev) c.in_ok-push_headers.ensures.advances.log (c.in_ok-push_headers.ensures.stays t))
    (c.push_stored.ensures.stays t)

pub returns-clause-brings : goal.returns-clause-brings
returns-clause-brings g c t body is =
    on_ok_weaker c.push_stored.result (λ brings records old. brings records (c.in_ok-push_headers.ensures.brings t (pages_of body) (headers_of body) records old)) (c.push_stored.ensures.brings t body
    (of_others c.args.medium.now.name (g.D.Device.disk c.args.dev.now) (g.D.Device.disk c.push_headers.new.dev) body c.args.set.now c.requires.apart (c.push_headers.ensures.crash t) is))

pub returns-clause-crash : goal.returns-clause-crash
returns-clause-crash g c t =
    let on = c.in_ok-push_headers.ensures.advances in
    touches_then c.args.arriving.now c.push_headers.new.arriving (g.D.Device.disk c.args.dev.now) (g.D.Device.disk c.push_headers.new.dev) (g.D.Device.disk c.push_stored.new.dev) on.files on.log (c.push_headers.ensures.crash t) (c.push_stored.ensures.crash t)
