use Rattle.std.proofs.Common.{◌<◌, ◌+◌, length, rules, sym, subst, arith}
use Rattle.bk_device.specs.Laws.{effect_after_nothing}
use Rattle.bk_restoring.specs.Arriving.{Kept}
use Rattle.bk_arriving.specs.Sets.{pages_of}
use Rattle.bk_arriving.specs.Steps.{IsNext, Remain}
use Rattle.bk_arriving.proofs.Read.{next_more, read_back, read_next, read_pages, read_rest}
use Rattle.bk_arriving.proofs.Unchanged.{begun_still, brings_still, stays_after, touches_still}
use Rattle.bk_arriving.proofs.sets.push_stored.Goals as goal

pub push_extent-requires-clause-next : goal.push_extent-requires-clause-next
push_extent-requires-clause-next g c = next_more c.args.arriving.now.filling c.in_ok-place.place (c.is_next.ensures.yes (search rules))

pub push_extent-requires-clause-stands : goal.push_extent-requires-clause-stands
push_extent-requires-clause-stands g c t = begun_still c.args.arriving.now (g.D.Device.disk c.args.dev.now) (g.D.Device.disk c.extent_at.new.dev) (c.extent_at.ensures.effect t) (c.requires.stands t)

pub returns-in_err-place-clause-crash : goal.returns-in_err-place-clause-crash
returns-in_err-place-clause-crash g c t = touches_still c.args.arriving.now (g.D.Device.disk c.args.dev.now) (g.D.Device.disk c.extent_at.new.dev) (c.extent_at.ensures.effect t)

pub returns-then-not-is_next-clause-crash : goal.returns-then-not-is_next-clause-crash
returns-then-not-is_next-clause-crash g c t = touches_still c.args.arriving.now (g.D.Device.disk c.args.dev.now) (g.D.Device.disk c.extent_at.new.dev) (c.extent_at.ensures.effect t)

pub returns-then-not-is_next-clause-unfit : goal.returns-then-not-is_next-clause-unfit
returns-then-not-is_next-clause-unfit g c t body is remain unfit =
    let inside : c.args.i < length body.extents = omega (arith, c.requires.there, is.extents) in
    c.is_next.ensures.no (search rules) (read_next c.args.arriving.now.filling c.in_ok-place.place c.extent_at.new.buf body.extents c.args.i c.requires.even c.requires.past (c.in_ok-place.ensures.extent t body is) inside remain)

pub returns-in_err-push_extent-clause-crash : goal.returns-in_err-push_extent-clause-crash
returns-in_err-push_extent-clause-crash g c t = effect_after_nothing (g.met.D.Device.lawful t c.args.dev.now) (c.extent_at.ensures.effect t) (c.push_extent.ensures.crash t)

pub returns-clause-crash : goal.returns-clause-crash
returns-clause-crash g c t = effect_after_nothing (g.met.D.Device.lawful t c.args.dev.now) (c.extent_at.ensures.effect t) (c.push_extent.ensures.crash t)

pub returns-clause-rest : goal.returns-clause-rest
returns-clause-rest g c t body is remain =
    let comes : IsNext c.args.arriving.now.filling c.in_ok-place.place = c.is_next.ensures.yes (search rules) in
    subst (λ (m : Kept). Remain (c.args.i + 1) body.extents m.filling) (sym c.in_ok-push_extent.ensures.next)
    (read_rest c.args.arriving.now.filling c.in_ok-place.place c.extent_at.new.buf body.extents c.args.i c.requires.even c.requires.past (c.in_ok-place.ensures.extent t body is) comes remain)

pub returns-clause-fits : goal.returns-clause-fits
returns-clause-fits g c t body is remain =
    let comes : IsNext c.args.arriving.now.filling c.in_ok-place.place = c.is_next.ensures.yes (search rules) in
    read_back c.args.arriving.now.filling c.in_ok-place.place c.extent_at.new.buf body.extents c.args.i c.requires.even c.requires.past (c.in_ok-place.ensures.extent t body is) comes
    (subst (λ (m : Kept). Remain (c.args.i + 1) body.extents m.filling) c.in_ok-push_extent.ensures.next remain)

pub returns-clause-stays : goal.returns-clause-stays
returns-clause-stays g c t =
    stays_after c.args.arriving.now c.push_extent.new.arriving (g.D.Device.disk c.args.dev.now) (g.D.Device.disk c.extent_at.new.dev) (g.D.Device.disk c.push_extent.new.dev) (c.extent_at.ensures.effect t) (c.requires.stands t) (c.in_ok-push_extent.ensures.stays t)

pub returns-clause-brings : goal.returns-clause-brings
returns-clause-brings g c t body is records old =
    let comes : IsNext c.args.arriving.now.filling c.in_ok-place.place = c.is_next.ensures.yes (search rules) in
    c.in_ok-push_extent.ensures.brings t (pages_of body)
    (read_pages c.args.arriving.now.filling c.in_ok-place.place c.extent_at.new.buf body c.args.i c.requires.even c.requires.past is.is_body.rise (c.in_ok-place.ensures.extent t body is) comes)
    records (brings_still (pages_of body) c.args.arriving.now (g.D.Device.disk c.args.dev.now) (g.D.Device.disk c.extent_at.new.dev) (c.extent_at.ensures.effect t) records old)
