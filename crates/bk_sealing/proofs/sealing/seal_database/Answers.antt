use Rattle.std.proofs.Common.{◌≡◌, ◌∙◌, List, [], Some, ap, sym, subst}
use Rattle.std.specs.Prelude.{slice_get}
use Rattle.bk_device.specs.Compose.{effect_then}
use Rattle.bk_engine.specs.HostingCopying.{HaveExtents}
use Rattle.bk_engine.specs.Stands.{StandsFor}
use Rattle.bk_ids.specs.declared.record.ExtentId.{ExtentId}
use Rattle.bk_volume.specs.Names.{staging_file}
use Rattle.bk_volume.specs.Staging.{HoldsParts, Staging}
use Rattle.bk_sealing.proofs.Fronts.{none-copied}
use Rattle.bk_sealing.proofs.Still.{moved, moved-on, none-touch, uncut}
use Rattle.bk_sealing.proofs.sealing.seal_database.Goals as goal

pub returns-in_err-staged-clause-crash : goal.returns-in_err-staged-clause-crash
returns-in_err-staged-clause-crash g c = λ tells w stands is apart. uncut (c.begin_set.ensures.crash tells w stands)

pub returns-in_err-staged-clause-touches : goal.returns-in_err-staged-clause-touches
returns-in_err-staged-clause-touches g c = λ tells. none-touch (c.begin_set.ensures.touches tells)

pub returns-in_err-at-clause-crash : goal.returns-in_err-at-clause-crash
returns-in_err-at-clause-crash g c = λ tells w stands is apart. uncut (moved-on g.D.Device.disk c.begin_set.new.dev c.place_of.new.dev c.place_of.ensures.same (c.begin_set.ensures.crash tells w stands))

pub returns-in_err-at-clause-touches : goal.returns-in_err-at-clause-touches
returns-in_err-at-clause-touches g c = λ tells. none-touch (moved-on g.D.Device.disk c.begin_set.new.dev c.place_of.new.dev c.place_of.ensures.same (c.begin_set.ensures.touches tells))

pub returns-in_err-rest-clause-crash : goal.returns-in_err-rest-clause-crash
returns-in_err-rest-clause-crash g c = λ tells w stands is apart. uncut (moved-on g.D.Device.disk c.begin_set.new.dev c.extents.new.dev (c.extents.ensures.same ∙ c.place_of.ensures.same) (c.begin_set.ensures.crash tells w stands))

pub returns-in_err-rest-clause-touches : goal.returns-in_err-rest-clause-touches
returns-in_err-rest-clause-touches g c = λ tells. none-touch (moved-on g.D.Device.disk c.begin_set.new.dev c.extents.new.dev (c.extents.ensures.same ∙ c.place_of.ensures.same) (c.begin_set.ensures.touches tells))

pub seal_rest-requires-clause-there : goal.seal_rest-requires-clause-there
seal_rest-requires-clause-there g c = subst (λ (ids : List ExtentId). HaveExtents c.begin_set.new.self.hosting.stores.slots c.in_ok-at.at ids) (sym c.deref.ensures.value) c.in_ok-rest.ensures.there

pub returns-clause-stands : goal.returns-clause-stands
returns-clause-stands g c = λ tells w stands is apart.
    let begun = c.in_ok-staged.ensures.stands tells w stands apart in
    let same : c.extents.new.dev ≡ c.begin_set.new.dev = c.extents.ensures.same ∙ c.place_of.ensures.same in
    let here : StandsFor (g.D.Device.disk c.place_of.new.dev) c.begin_set.new.self w = subst (λ d. StandsFor (g.D.Device.disk d) c.begin_set.new.self w) (sym c.place_of.ensures.same) begun in
    let then : StandsFor (g.D.Device.disk c.extents.new.dev) c.begin_set.new.self w = subst (λ d. StandsFor (g.D.Device.disk d) c.begin_set.new.self w) (sym same) begun in
    let named : c.in_ok-staged.staged.name ≡ staging_file c.args.header.now.set = ap (λ (s : Staging). s.name) c.in_ok-staged.ensures.begun in
    let there : slice_get w.databases c.in_ok-at.at ≡ Some is.db = c.in_ok-at.ensures.there tells w is begun in
    let none : HoldsParts (g.D.Device.disk c.extents.new.dev) c.in_ok-staged.staged [] [] = subst (λ d. HoldsParts (g.D.Device.disk d) c.in_ok-staged.staged [] []) (sym same) (c.in_ok-staged.ensures.empty tells) in
    let front = none-copied w is.db c.args.header.now.checkpoint c.deref.result.now (g.D.Device.disk c.extents.new.dev) c.in_ok-staged.staged (c.deref.ensures.value ∙ c.in_ok-rest.ensures.listed tells w is.db here there is.online) none in
    c.seal_rest.ensures.stands tells w is then c.args.header.now.set c.begin_set.ensures.guid named apart there front

pub returns-clause-crash : goal.returns-clause-crash
returns-clause-crash g c = λ tells w stands is apart.
    let begun = c.in_ok-staged.ensures.stands tells w stands apart in
    let same : c.extents.new.dev ≡ c.begin_set.new.dev = c.extents.ensures.same ∙ c.place_of.ensures.same in
    let here : StandsFor (g.D.Device.disk c.place_of.new.dev) c.begin_set.new.self w = subst (λ d. StandsFor (g.D.Device.disk d) c.begin_set.new.self w) (sym c.place_of.ensures.same) begun in
    let then : StandsFor (g.D.Device.disk c.extents.new.dev) c.begin_set.new.self w = subst (λ d. StandsFor (g.D.Device.disk d) c.begin_set.new.self w) (sym same) begun in
    let named : c.in_ok-staged.staged.name ≡ staging_file c.args.header.now.set = ap (λ (s : Staging). s.name) c.in_ok-staged.ensures.begun in
    let there : slice_get w.databases c.in_ok-at.at ≡ Some is.db = c.in_ok-at.ensures.there tells w is begun in
    let none : HoldsParts (g.D.Device.disk c.extents.new.dev) c.in_ok-staged.staged [] [] = subst (λ d. HoldsParts (g.D.Device.disk d) c.in_ok-staged.staged [] []) (sym same) (c.in_ok-staged.ensures.empty tells) in
    let front = none-copied w is.db c.args.header.now.checkpoint c.deref.result.now (g.D.Device.disk c.extents.new.dev) c.in_ok-staged.staged (c.deref.ensures.value ∙ c.in_ok-rest.ensures.listed tells w is.db here there is.online) none in
    effect_then (uncut (c.begin_set.ensures.crash tells w stands)) (moved g.D.Device.disk c.begin_set.new.dev c.extents.new.dev same (c.seal_rest.ensures.crash tells w is then c.args.header.now.set c.begin_set.ensures.guid named apart there front))

pub returns-clause-touches : goal.returns-clause-touches
returns-clause-touches g c = λ tells. effect_then (none-touch (c.begin_set.ensures.touches tells)) (moved g.D.Device.disk c.begin_set.new.dev c.extents.new.dev (c.extents.ensures.same ∙ c.place_of.ensures.same) (c.seal_rest.ensures.touches tells))
