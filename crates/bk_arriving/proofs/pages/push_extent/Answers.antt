use Rattle.std.proofs.Common.{◌≡◌, ◌*◌, ℕ, ap, arith, ◌∙◌}
use Rattle.bk_device.specs.Laws.{cause_then}
use Rattle.bk_page.specs.Page.{part}
use Rattle.bk_arriving.specs.Steps.{ahead}
use Rattle.bk_arriving.proofs.Adding.{adds_more, advances_ahead, same_files, same_log, same_next, touches_then}
use Rattle.bk_arriving.proofs.Ahead.{room_for}
use Rattle.bk_arriving.proofs.pages.push_extent.Goals as goal

pub returns-in_err-push_page-clause-crash : goal.returns-in_err-push_page-clause-crash
returns-in_err-push_page-clause-crash g c t =
    let k = c.args.arriving.now in
    let now = c.pages.arriving in
    let n = c.pages.j in
    let inside = room_for k.filling n c.requires.even c.requires.next c.pages-test.true in
    touches_then k now (g.D.Device.disk c.args.dev.now) (g.D.Device.disk c.pages.dev) (g.D.Device.disk c.push_page.new.dev) (same_files k now n inside c.pages.invariant.next) (same_log k now n inside c.pages.invariant.next)
    (c.pages.invariant.adds t).effect (c.push_page.ensures.crash t)

pub pages-preserved : goal.pages-preserved
pages-preserved g c =
    let k = c.args.arriving.now in
    let now = c.pages.arriving in
    let n = c.pages.j in
    let next = c.push_page.new.self in
    let is = c.pages.invariant.next in
    let inside = room_for k.filling n c.requires.even c.requires.next c.pages-test.true in
    record {
      next = same_next k now n inside is next c.in_ok-push_page.ensures.next;
      adds = λ t.
          adds_more k now n inside is next (g.D.Device.disk c.args.dev.now) (g.D.Device.disk c.pages.dev) (g.D.Device.disk c.push_page.new.dev) (λ j. part c.args.bytes.now (8192 * j) 8192) c.page_in.result.now
          c.page_in.ensures (c.pages.invariant.adds t) (c.in_ok-push_page.ensures.stands t) (c.in_ok-push_page.ensures.arrives t) (c.in_ok-push_page.ensures.durable t) (c.push_page.ensures.crash t);
      cause = cause_then c.pages.invariant.cause c.push_page.ensures.cause (λ none. absurd none);
    }

pub returns-clause-advances : goal.returns-clause-advances
returns-clause-advances g c =
    let k = c.args.arriving.now in
    let eight : c.pages.j ≡ 8 = omega (arith, c.pages-test.false, c.pages.auto.j-end) in
    advances_ahead k c.pages.arriving c.requires.even c.requires.next (c.pages.invariant.next ∙ ap (λ (n : ℕ). record k { filling = ahead k.filling n }) eight)

pub returns-clause-brings : goal.returns-clause-brings
returns-clause-brings g c t given are =
    let eight : c.pages.j ≡ 8 = omega (arith, c.pages-test.false, c.pages.auto.j-end) in
    (c.pages.invariant.adds t).brings given (λ j below. are j (omega (arith, below, eight)))
