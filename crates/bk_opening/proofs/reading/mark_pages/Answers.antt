use Rattle.std.proofs.Common.{◌≡◌, ℕ, List, Option, length, ap, subst, arith}
use Rattle.bk_opening.specs.Opening.{Marks}
use Rattle.bk_opening.proofs.Places.{marks_more, marks_none, pool_marked}
use Rattle.bk_opening.proofs.reading.mark_pages.Goals as goal

pub loop-i-init : goal.loop-i-init
loop-i-init c = marks_none c.args.from c.args.pool.now

pub mark_page-requires-clause-pool : goal.mark_page-requires-clause-pool
mark_page-requires-clause-pool c = pool_marked c.args.from c.loop-i.i c.args.pool.now c.loop-i.pool c.requires c.loop-i.invariant

pub mark_page-requires-clause-there : goal.mark_page-requires-clause-there
mark_page-requires-clause-there c = omega (arith, c.len-i-end.ensures, ap (λ (ps : List (Option (ℕ × ℕ))). length ps) c.loop-i.invariant.pages)

pub loop-i-preserved : goal.loop-i-preserved
loop-i-preserved c =
    marks_more c.args.from c.loop-i.i c.args.pool.now c.loop-i.pool c.mark_page.new.pool c.loop-i.invariant c.mark_page.ensures.either c.mark_page.ensures.whole c.mark_page.ensures.marked

pub returns-clause-pool : goal.returns-clause-pool
returns-clause-pool c = pool_marked c.args.from c.loop-i.i c.args.pool.now c.loop-i.pool c.requires c.loop-i.invariant

pub returns-clause-marks : goal.returns-clause-marks
returns-clause-marks c =
    let last : c.loop-i.i ≡ length c.args.pool.now.pages = omega (arith, c.len-i-end.ensures) in
    subst (λ (n : ℕ). Marks c.args.from n c.args.pool.now c.loop-i.pool) last c.loop-i.invariant
