use Rattle.std.proofs.Common.{◌*◌, ℕ, ap, sym, ◌∙◌}
use Rattle.bk_device.specs.Calls.{contents}
use Rattle.bk_side.proofs.Files.{page_count, page_bytes, eq_true, eq_false}
use Rattle.bk_side.proofs.reading.read_whole.Goals as goal

pub returns-clause-whole : goal.returns-clause-whole
returns-clause-whole g c t is =
    let content = contents ((g.D.Device.disk c.args.dev.now).files c.args.name.now) in
    sym (page_count content _ c.args.number c.in_ok-count.count _ (ap (λ (n : ℕ). 8192 * n) c.from.ensures) c.told-page (c.in_ok-count.ensures.count t)) ∙ eq_true c.in_ok-count.count 8192 is

pub returns-clause-short : goal.returns-clause-short
returns-clause-short g c t is whole =
    let content = contents ((g.D.Device.disk c.args.dev.now).files c.args.name.now) in
    eq_false c.in_ok-count.count 8192 is (page_count content _ c.args.number c.in_ok-count.count _ (ap (λ (n : ℕ). 8192 * n) c.from.ensures) c.told-page (c.in_ok-count.ensures.count t) ∙ whole)

pub returns-clause-page : goal.returns-clause-page
returns-clause-page g c t is =
    let content = contents ((g.D.Device.disk c.args.dev.now).files c.args.name.now) in
    let count = page_count content _ c.args.number c.in_ok-count.count _ (ap (λ (n : ℕ). 8192 * n) c.from.ensures) c.told-page (c.in_ok-count.ensures.count t) in
    page_bytes c.args.page.now content c.read.new.buf _ c.args.number _ (ap (λ (n : ℕ). 8192 * n) c.from.ensures) c.told-page c.told-page (sym count ∙ eq_true c.in_ok-count.count 8192 is) (c.in_ok-count.ensures.bytes t)
