use Rattle.std.proofs.Common.{sym, subst}
use Rattle.bk_engine.specs.Sealing.{MaySeal}
use Rattle.bk_engine.specs.Stands.{StandsFor}
use Rattle.bk_volume.specs.Staging.{HoldsParts}
use Rattle.bk_sealing.proofs.Carried.{Laws, body_of, may-seal}
use Rattle.bk_sealing.proofs.Still.{moved, uncut}
use Rattle.bk_sealing.proofs.sealing.seal_tables.Goals as goal

pub returns-then-tables-gt-MOST_TABLES-clause-crash : goal.returns-then-tables-gt-MOST_TABLES-clause-crash
returns-then-tables-gt-MOST_TABLES-clause-crash g c = λ tells w is stands same copy. uncut (c.at_rest.ensures.crash tells w stands)

pub returns-clause-stands : goal.returns-clause-stands
returns-clause-stands g c = λ tells w is stands same copy.
    let b = g.D.Device.disk c.at_rest.new.dev in
    let here : StandsFor b c.args.engine.now w = subst (λ d. StandsFor (g.D.Device.disk d) c.args.engine.now w) (sym c.at_rest.ensures.same) stands in
    let parts : HoldsParts b c.args.staged.now copy.extents copy.log = subst (λ d. HoldsParts (g.D.Device.disk d) c.args.staged.now copy.extents copy.log) (sym c.at_rest.ensures.same) copy.parts in
    let laws : Laws = record { carries = c.backups_carry.ensures.carries; there = c.extents_lie_in_order.ensures.there; rise = c.extents_lie_in_order.ensures.rise; held = c.extents_lie_in_order.ensures.held } in
    let may : MaySeal b w c.args.staged.now c.args.header.now c.args.tables.now (body_of c.args.header.now c.args.tables.now copy.extents copy.log) =
    may-seal (g.D.Device.disk c.args.dev.now) c.args.engine.now w c.args.header.now c.args.tables.now c.args.staged.now stands is c.requires.keeps same copy laws b parts c.size_law.ensures.few c.size_law.ensures.short in
    c.seal_set.ensures.stands tells w (body_of c.args.header.now c.args.tables.now copy.extents copy.log) here may

pub returns-clause-crash : goal.returns-clause-crash
returns-clause-crash g c = λ tells w is stands same copy.
    let b = g.D.Device.disk c.at_rest.new.dev in
    let here : StandsFor b c.args.engine.now w = subst (λ d. StandsFor (g.D.Device.disk d) c.args.engine.now w) (sym c.at_rest.ensures.same) stands in
    let parts : HoldsParts b c.args.staged.now copy.extents copy.log = subst (λ d. HoldsParts (g.D.Device.disk d) c.args.staged.now copy.extents copy.log) (sym c.at_rest.ensures.same) copy.parts in
    let laws : Laws = record { carries = c.backups_carry.ensures.carries; there = c.extents_lie_in_order.ensures.there; rise = c.extents_lie_in_order.ensures.rise; held = c.extents_lie_in_order.ensures.held } in
    let may : MaySeal b w c.args.staged.now c.args.header.now c.args.tables.now (body_of c.args.header.now c.args.tables.now copy.extents copy.log) =
    may-seal (g.D.Device.disk c.args.dev.now) c.args.engine.now w c.args.header.now c.args.tables.now c.args.staged.now stands is c.requires.keeps same copy laws b parts c.size_law.ensures.few c.size_law.ensures.short in
    moved g.D.Device.disk c.args.dev.now c.at_rest.new.dev c.at_rest.ensures.same (c.seal_set.ensures.crash tells w (body_of c.args.header.now c.args.tables.now copy.extents copy.log) here may)
