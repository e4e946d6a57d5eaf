use Rattle.std.proofs.Common.{◌≡◌, ◌≤◌, ◌<◌, ◌+◌, ◌^◌, ◌++◌, ℕ, List, length, min, sym, ap, subst, ◌∙◌, arith}
use Rattle.std.specs.List.{All}
use Rattle.bk_facts.specs.declared.facts.DataFile.{DataFile}
use Rattle.bk_ids.specs.declared.record.ExtentId.{ExtentId}
use Rattle.bk_copying.proofs.Listed.{below-more}
use Rattle.bk_copying.specs.Extents.{HasExtent, IdsRise, extent_count, extents_below, extents_of, extents_to}
use Rattle.bk_copying.specs.ExtentLaws.{extents-few, extents-rise, extents-there}
use Rattle.bk_copying.proofs.extents.data_extents.Goals as goal

all-listed : (files : List DataFile) (listed : List ExtentId) (i n : ℕ) → listed ≡ extents_below files i → n ≤ i → i ≤ n → n ≡ min (length files) 65535 → listed ≡ extents_of files
all-listed files listed i n is over within «end» =
    let at : i ≡ min (length files) 65535 = omega (arith, over, within, «end») in
    is ∙ ap (extents_below files) at

pub loop-i-init : goal.loop-i-init
loop-i-init c = c.new-extents.ensures.items

pub loop-i-preserved : goal.loop-i-preserved
loop-i-preserved c =
    below-more c.args.files.now c.loop-i.extents.items c.add_extents.new.extents.items c.loop-i.i c.loop-i.invariant
    (c.in_ok-add_extents.ensures ∙ ap (λ (n : ℕ). c.loop-i.extents.items ++ extents_to (c.loop-i.i + 1) (extent_count n)) c.pages_in.ensures)

pub returns-clause-extents : goal.returns-clause-extents
returns-clause-extents c = all-listed c.args.files.now c.loop-i.extents.items c.loop-i.i c.min-i-end.result c.loop-i.invariant c.loop-i-test.false c.loop-i.auto.i-end c.min-i-end.ensures

pub returns-clause-there : goal.returns-clause-there
returns-clause-there c =
    let all = all-listed c.args.files.now c.loop-i.extents.items c.loop-i.i c.min-i-end.result c.loop-i.invariant c.loop-i-test.false c.loop-i.auto.i-end c.min-i-end.ensures in
    subst (All (HasExtent c.args.files.now)) (sym all) (extents-there c.args.files.now)

pub returns-clause-rise : goal.returns-clause-rise
returns-clause-rise c =
    let all = all-listed c.args.files.now c.loop-i.extents.items c.loop-i.i c.min-i-end.result c.loop-i.invariant c.loop-i-test.false c.loop-i.auto.i-end c.min-i-end.ensures in
    subst IdsRise (sym all) (extents-rise c.args.files.now)

pub returns-clause-few : goal.returns-clause-few
returns-clause-few c =
    let all = all-listed c.args.files.now c.loop-i.extents.items c.loop-i.i c.min-i-end.result c.loop-i.invariant c.loop-i-test.false c.loop-i.auto.i-end c.min-i-end.ensures in
    subst (λ (es : List ExtentId). length es < 2 ^ 28) (sym all) (extents-few c.args.files.now)
