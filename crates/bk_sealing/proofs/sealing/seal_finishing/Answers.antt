use Rattle.std.proofs.Common.{◌≡◌, ◌∙◌, List, ℕ, Some, ap, sym, subst, arith}
use Rattle.std.specs.Prelude.{slice_get}
use Rattle.bk_engine.specs.Copying.{HoldsFront}
use Rattle.bk_engine.specs.HostingCopying.{HaveExtents}
use Rattle.bk_engine.specs.Jobs.{Finishing}
use Rattle.bk_engine.specs.Stands.{StandsFor}
use Rattle.bk_ids.specs.declared.record.ExtentId.{ExtentId}
use Rattle.bk_volume.specs.Names.{staging_file}
use Rattle.bk_volume.specs.Staging.{Staging}
use Rattle.bk_sealing.proofs.Still.{moved, moved-on, uncut}
use Rattle.bk_sealing.proofs.sealing.seal_finishing.Goals as goal

pub returns-in_err-at-clause-crash : goal.returns-in_err-at-clause-crash
returns-in_err-at-clause-crash g c = λ tells w is stands apart front. uncut (moved-on g.D.Device.disk c.at_rest.new.dev c.place_of.new.dev c.place_of.ensures.same (c.at_rest.ensures.crash tells w stands))

pub returns-then-at-finishing-clause-crash : goal.returns-then-at-finishing-clause-crash
returns-then-at-finishing-clause-crash g c = λ tells w is stands apart front. uncut (moved-on g.D.Device.disk c.at_rest.new.dev c.place_of.new.dev c.place_of.ensures.same (c.at_rest.ensures.crash tells w stands))

pub seal_rest-requires-clause-there : goal.seal_rest-requires-clause-there
seal_rest-requires-clause-there g c =
    let was : c.finishing.inside.at ≡ c.args.finishing.at = ap (λ (f : Finishing). f.at) c.finishing.view_is in
    let here : c.args.finishing.at ≡ c.in_ok-at.at = omega arith in
    let rest : c.args.finishing.rest ≡ c.deref.result.now = sym (ap (λ (f : Finishing). f.rest) c.finishing.view_is) ∙ sym c.deref.ensures.value in
    subst (λ (ids : List ExtentId). HaveExtents c.args.engine.now.hosting.stores.slots c.in_ok-at.at ids) rest (subst (λ (n : ℕ). HaveExtents c.args.engine.now.hosting.stores.slots n c.args.finishing.rest) here c.requires.set.there)

pub returns-clause-stands : goal.returns-clause-stands
returns-clause-stands g c = λ tells w is stands apart front.
    let same : c.place_of.new.dev ≡ c.args.dev.now = c.place_of.ensures.same ∙ c.at_rest.ensures.same in
    let then : StandsFor (g.D.Device.disk c.place_of.new.dev) c.args.engine.now w = subst (λ d. StandsFor (g.D.Device.disk d) c.args.engine.now w) (sym same) stands in
    let rests : StandsFor (g.D.Device.disk c.at_rest.new.dev) c.args.engine.now w = subst (λ d. StandsFor (g.D.Device.disk d) c.args.engine.now w) (sym c.at_rest.ensures.same) stands in
    let there : slice_get w.databases c.in_ok-at.at ≡ Some is.db = c.in_ok-at.ensures.there tells w is rests in
    let staged : c.finishing.inside.staged ≡ c.args.finishing.staged = ap (λ (f : Finishing). f.staged) c.finishing.view_is in
    let rest : c.args.finishing.rest ≡ c.deref.result.now = sym (ap (λ (f : Finishing). f.rest) c.finishing.view_is) ∙ sym c.deref.ensures.value in
    let named : c.finishing.inside.staged.name ≡ staging_file c.args.finishing.set = ap (λ (s : Staging). s.name) staged ∙ c.requires.set.named in
    let holds : HoldsFront w is.db c.args.header.now.checkpoint c.deref.result.now (g.D.Device.disk c.place_of.new.dev) c.finishing.inside.staged =
    subst (λ d. HoldsFront w is.db c.args.header.now.checkpoint c.deref.result.now (g.D.Device.disk d) c.finishing.inside.staged) (sym same)
    (subst (λ (ids : List ExtentId). HoldsFront w is.db c.args.header.now.checkpoint ids (g.D.Device.disk c.args.dev.now) c.finishing.inside.staged) rest
    (subst (λ (s : Staging). HoldsFront w is.db c.args.header.now.checkpoint c.args.finishing.rest (g.D.Device.disk c.args.dev.now) s) (sym staged) front)) in
    c.seal_rest.ensures.stands tells w is then c.args.finishing.set c.requires.set.guid named apart there holds

pub returns-clause-crash : goal.returns-clause-crash
returns-clause-crash g c = λ tells w is stands apart front.
    let same : c.place_of.new.dev ≡ c.args.dev.now = c.place_of.ensures.same ∙ c.at_rest.ensures.same in
    let then : StandsFor (g.D.Device.disk c.place_of.new.dev) c.args.engine.now w = subst (λ d. StandsFor (g.D.Device.disk d) c.args.engine.now w) (sym same) stands in
    let rests : StandsFor (g.D.Device.disk c.at_rest.new.dev) c.args.engine.now w = subst (λ d. StandsFor (g.D.Device.disk d) c.args.engine.now w) (sym c.at_rest.ensures.same) stands in
    let there : slice_get w.databases c.in_ok-at.at ≡ Some is.db = c.in_ok-at.ensures.there tells w is rests in
    let staged : c.finishing.inside.staged ≡ c.args.finishing.staged = ap (λ (f : Finishing). f.staged) c.finishing.view_is in
    let rest : c.args.finishing.rest ≡ c.deref.result.now = sym (ap (λ (f : Finishing). f.rest) c.finishing.view_is) ∙ sym c.deref.ensures.value in
    let named : c.finishing.inside.staged.name ≡ staging_file c.args.finishing.set = ap (λ (s : Staging). s.name) staged ∙ c.requires.set.named in
    let holds : HoldsFront w is.db c.args.header.now.checkpoint c.deref.result.now (g.D.Device.disk c.place_of.new.dev) c.finishing.inside.staged =
    subst (λ d. HoldsFront w is.db c.args.header.now.checkpoint c.deref.result.now (g.D.Device.disk d) c.finishing.inside.staged) (sym same)
    (subst (λ (ids : List ExtentId). HoldsFront w is.db c.args.header.now.checkpoint ids (g.D.Device.disk c.args.dev.now) c.finishing.inside.staged) rest
    (subst (λ (s : Staging). HoldsFront w is.db c.args.header.now.checkpoint c.args.finishing.rest (g.D.Device.disk c.args.dev.now) s) (sym staged) front)) in
    moved g.D.Device.disk c.args.dev.now c.place_of.new.dev same (c.seal_rest.ensures.crash tells w is then c.args.finishing.set c.requires.set.guid named apart there holds)
