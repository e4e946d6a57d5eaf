use Rattle.std.proofs.Common.{◌≡◌, ◌∙◌, ap, sym, subst}
use Rattle.bk_device.specs.Effects.{Effect}
use Rattle.bk_pool.specs.Pool.{Pool}
use Rattle.bk_side.specs.Side.{added_of}
use Rattle.bk_paged.specs.contracts.paged.Paged.{the_view}
use Rattle.bk_paged.specs.Holds.{Leaves}
use Rattle.bk_paged.specs.Names.{IsOwn}
use Rattle.bk_paged.specs.Paged.{IsPaged, Kept, Standing, Touches, sealed_count}
use Rattle.bk_paged.proofs.Adding.{applied_effect, applied_shows}
use Rattle.bk_paged.proofs.Writing.{added_crash, applied_crash, applied_stands, none_dirty}
use Rattle.bk_paged.specs.StandLaws.{side-touches, standing-own}
use Rattle.bk_paged.proofs.paged.Paged.write_pages.Goals as goal

pub returns-in_err-add_frames-clause-crash : goal.returns-in_err-add_frames-clause-crash
returns-in_err-add_frames-clause-crash g c t stood is =
    let a = g.D.Device.disk c.args.dev.now in
    let b = g.D.Device.disk c.add_frames.new.dev in
    let At : Kept → Type 0 = λ k. IsPaged a k stood in
    let Crash : Kept → Type 0 = λ k. Effect (IsOwn k.log.db stood.files) (Leaves k.log.db (sealed_count k) stood) a b in
    subst Crash c.self.view_is (added_crash _ stood a b (subst At (sym c.self.view_is) is) (c.add_frames.ensures.crash t))

pub returns-in_err-apply-clause-crash : goal.returns-in_err-apply-clause-crash
returns-in_err-apply-clause-crash g c t stood is =
    let a = g.D.Device.disk c.args.dev.now in
    let b = g.D.Device.disk c.add_frames.new.dev in
    let d = g.D.Device.disk c.apply.new.dev in
    let At : Kept → Type 0 = λ k. IsPaged a k stood in
    let Sealed : Kept → Type 0 = λ k. k.log.stored ≡ k.log.end in
    let Crash : Kept → Type 0 = λ k. Effect (IsOwn k.log.db stood.files) (Leaves k.log.db (sealed_count k) stood) a d in
    let added = c.in_ok-add_frames.ensures in
    let effect = applied_effect c.self.inside.side c.add_frames.new.side (added_of b c.add_frames.new.side) a b d c.add_frames.ensures.name c.add_frames.ensures.names (added.shown t) (c.add_frames.ensures.crash t) (c.apply.ensures.crash t) in
    subst Crash c.self.view_is (applied_crash _ stood (added_of b c.add_frames.new.side) a d (subst At (sym c.self.view_is) is) (subst Sealed (sym c.self.view_is) c.requires.sealed) (added.added t) effect)

pub returns-clause-crash : goal.returns-clause-crash
returns-clause-crash g c t stood is =
    let a = g.D.Device.disk c.args.dev.now in
    let b = g.D.Device.disk c.add_frames.new.dev in
    let d = g.D.Device.disk c.apply.new.dev in
    let At : Kept → Type 0 = λ k. IsPaged a k stood in
    let Sealed : Kept → Type 0 = λ k. k.log.stored ≡ k.log.end in
    let Crash : Kept → Type 0 = λ k. Effect (IsOwn k.log.db stood.files) (Leaves k.log.db (sealed_count k) stood) a d in
    let added = c.in_ok-add_frames.ensures in
    let effect = applied_effect c.self.inside.side c.add_frames.new.side (added_of b c.add_frames.new.side) a b d c.add_frames.ensures.name c.add_frames.ensures.names (added.shown t) (c.add_frames.ensures.crash t) (c.apply.ensures.crash t) in
    subst Crash c.self.view_is (applied_crash _ stood (added_of b c.add_frames.new.side) a d (subst At (sym c.self.view_is) is) (subst Sealed (sym c.self.view_is) c.requires.sealed) (added.added t) effect)

pub returns-clause-stands : goal.returns-clause-stands
returns-clause-stands g c t stood is =
    let a = g.D.Device.disk c.args.dev.now in
    let b = g.D.Device.disk c.add_frames.new.dev in
    let d = g.D.Device.disk c.apply.new.dev in
    let At : Kept → Type 0 = λ k. IsPaged a k stood in
    let Sealed : Kept → Type 0 = λ k. k.log.stored ≡ k.log.end in
    let added = c.in_ok-add_frames.ensures in
    let applied = c.in_ok-apply.ensures in
    let entries = added_of b c.add_frames.new.side in
    let effect = applied_effect c.self.inside.side c.add_frames.new.side entries a b d c.add_frames.ensures.name c.add_frames.ensures.names (added.shown t) (c.add_frames.ensures.crash t) (c.apply.ensures.crash t) in
    let shows = applied_shows c.self.inside.side c.add_frames.new.side entries a b d c.add_frames.ensures.name c.add_frames.ensures.names (added.shown t) (applied.pages t) in
    applied_stands _ stood c.apply.new.self c.clean.new.self c.end-self-inside.result _ entries a d (subst At (sym c.self.view_is) is) (subst Sealed (sym c.self.view_is) c.requires.sealed) (added.added t) effect (applied.stands t)
    (c.apply.ensures.name ∙ c.add_frames.ensures.name) (c.apply.ensures.names ∙ c.add_frames.ensures.names) (applied.none t) shows (ap (λ (q : Pool). q.pages) c.clean.ensures) (ap (λ (q : Pool). q.frames) c.clean.ensures) c.end-self-inside.ensures

pub returns-clause-clean : goal.returns-clause-clean
returns-clause-clean g c = none_dirty c.clean.new.self c.self.inside.pool c.clean.ensures

pub returns-clause-standing : goal.returns-clause-standing
returns-clause-standing g c t =
    let a = g.D.Device.disk c.args.dev.now in
    let b = g.D.Device.disk c.add_frames.new.dev in
    let d = g.D.Device.disk c.apply.new.dev in
    let At : Kept → Type 0 = λ k. Standing a k in
    let added = c.in_ok-add_frames.ensures in
    let applied = c.in_ok-apply.ensures in
    let effect = applied_effect c.self.inside.side c.add_frames.new.side (added_of b c.add_frames.new.side) a b d c.add_frames.ensures.name c.add_frames.ensures.names (added.shown t) (c.add_frames.ensures.crash t) (c.apply.ensures.crash t) in
    standing-own _ c.apply.new.self c.clean.new.self c.end-self-inside.result _ {a = a} {b = d} (subst At (sym c.self.view_is) (c.requires.standing t)) effect (applied.stands t)
    (c.apply.ensures.name ∙ c.add_frames.ensures.name) (c.apply.ensures.names ∙ c.add_frames.ensures.names) (applied.none t)

pub returns-in_err-add_frames-clause-touches : goal.returns-in_err-add_frames-clause-touches
returns-in_err-add_frames-clause-touches g c t =
    let a = g.D.Device.disk c.args.dev.now in
    let b = g.D.Device.disk c.add_frames.new.dev in
    let At : Kept → Type 0 = λ k. Standing a k in
    let To : Kept → Type 0 = λ k. Touches k a b in
    subst To c.self.view_is (side-touches (the_view c.self.inside) (subst At (sym c.self.view_is) (c.requires.standing t)) (c.add_frames.ensures.crash t))

pub returns-in_err-apply-clause-touches : goal.returns-in_err-apply-clause-touches
returns-in_err-apply-clause-touches g c t =
    let a = g.D.Device.disk c.args.dev.now in
    let b = g.D.Device.disk c.add_frames.new.dev in
    let d = g.D.Device.disk c.apply.new.dev in
    let At : Kept → Type 0 = λ k. Standing a k in
    let To : Kept → Type 0 = λ k. Touches k a d in
    let effect = applied_effect c.self.inside.side c.add_frames.new.side (added_of b c.add_frames.new.side) a b d c.add_frames.ensures.name c.add_frames.ensures.names (c.in_ok-add_frames.ensures.shown t) (c.add_frames.ensures.crash t) (c.apply.ensures.crash t) in
    subst To c.self.view_is (side-touches (the_view c.self.inside) (subst At (sym c.self.view_is) (c.requires.standing t)) effect)

pub returns-clause-touches : goal.returns-clause-touches
returns-clause-touches g c t =
    let a = g.D.Device.disk c.args.dev.now in
    let b = g.D.Device.disk c.add_frames.new.dev in
    let d = g.D.Device.disk c.apply.new.dev in
    let At : Kept → Type 0 = λ k. Standing a k in
    let To : Kept → Type 0 = λ k. Touches k a d in
    let effect = applied_effect c.self.inside.side c.add_frames.new.side (added_of b c.add_frames.new.side) a b d c.add_frames.ensures.name c.add_frames.ensures.names (c.in_ok-add_frames.ensures.shown t) (c.add_frames.ensures.crash t) (c.apply.ensures.crash t) in
    subst To c.self.view_is (side-touches (the_view c.self.inside) (subst At (sym c.self.view_is) (c.requires.standing t)) effect)
