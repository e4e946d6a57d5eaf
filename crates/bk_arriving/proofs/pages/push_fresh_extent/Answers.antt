use Rattle.std.proofs.Common.{◌≡◌, ◌+◌, ℕ, ap, arith, ◌∙◌}
use Rattle.bk_device.specs.Laws.{cause_then}
use Rattle.bk_page.specs.Page.{fresh_page}
use Rattle.bk_arriving.specs.Steps.{ahead}
use Rattle.bk_arriving.proofs.Adding.{adds_more, advances_ahead, same_files, same_log, same_next, same_place, touches_then}
use Rattle.bk_arriving.proofs.Ahead.{room_for}
use Rattle.bk_arriving.proofs.pages.push_fresh_extent.Goals as goal

pub returns-in_err-push_fresh-clause-crash : goal.returns-in_err-push_fresh-clause-crash
returns-in_err-push_fresh-clause-crash g c t =
    let k = c.args.arriving.now in
    let now = c.pages.arriving in
    let n = c.pages._j in
    let inside = room_for k.filling n c.requires.even c.requires.next c.pages-test.true in
    touches_then k now (g.D.Device.disk c.args.dev.now) (g.D.Device.disk c.pages.dev) (g.D.Device.disk c.push_fresh.new.dev) (same_files k now n inside c.pages.invariant.next) (same_log k now n inside c.pages.invariant.next)
    (c.pages.invariant.adds t).effect (c.push_fresh.ensures.crash t)

pub pages-preserved : goal.pages-preserved
pages-preserved g c =
    let k = c.args.arriving.now in
    let now = c.pages.arriving in
    let n = c.pages._j in
    let next = c.push_fresh.new.self in
    let is = c.pages.invariant.next in
    let inside = room_for k.filling n c.requires.even c.requires.next c.pages-test.true in
    record {
      next = same_next k now n inside is next c.in_ok-push_fresh.ensures.next;
      adds = λ t.
          adds_more k now n inside is next (g.D.Device.disk c.args.dev.now) (g.D.Device.disk c.pages.dev) (g.D.Device.disk c.push_fresh.new.dev) (λ j. fresh_page (k.filling.whole + 1) (k.filling.page + j)) (fresh_page (now.filling.whole + 1) now.filling.page)
          (ap (λ (p : ℕ × ℕ). fresh_page p.0 p.1) (same_place k now n inside is)) (c.pages.invariant.adds t) (c.in_ok-push_fresh.ensures.stands t) (c.in_ok-push_fresh.ensures.arrives t) (c.in_ok-push_fresh.ensures.durable t) (c.push_fresh.ensures.crash t);
      cause = cause_then c.pages.invariant.cause c.push_fresh.ensures.cause (λ none. absurd none);
    }

pub returns-clause-advances : goal.returns-clause-advances
returns-clause-advances g c =
    let k = c.args.arriving.now in
    let eight : c.pages._j ≡ 8 = omega (arith, c.pages-test.false, c.pages.auto._j-end) in
    advances_ahead k c.pages.arriving c.requires.even c.requires.next (c.pages.invariant.next ∙ ap (λ (n : ℕ). record k { filling = ahead k.filling n }) eight)

pub returns-clause-brings : goal.returns-clause-brings
returns-clause-brings g c t given are =
    let eight : c.pages._j ≡ 8 = omega (arith, c.pages-test.false, c.pages.auto._j-end) in
    (c.pages.invariant.adds t).brings given (λ j below. are j (omega (arith, below, eight)))
