use Rattle.std.proofs.Common.{◌≤◌, ◌+◌, ◌∙◌, None, refl, inl, sym, ap, subst}
use Rattle.bk_archive.specs.Media.{KeepsMedia}
use Rattle.bk_master.specs.declared.record.Own.{Own}
use Rattle.bk_engine.specs.Stands.{IsReady, Kept, StandsFor, own_in}
use Rattle.bk_device.specs.Compose.{effect_then, effect_weaken}
use Rattle.bk_hosted.specs.Hosted.{creating}
use Rattle.std.specs.Prelude.{◌++◌, ◌∷◌, []}
use Rattle.bk_archive.specs.MediaLaws.{media-in}
use Rattle.bk_machine.specs.Acts.{created, done}
use Rattle.bk_device.specs.Effects.{Effect}
use Rattle.bk_hosting.specs.Hosting.{IsHosting, LeavesEither}
use Rattle.bk_hosting.specs.Making.{HaveNoFile, newly}
use Rattle.bk_known.specs.declared.known.DatabaseSpec.{DatabaseSpec}
use Rattle.bk_stores.specs.Stores.{IsOurs as IsOfStores}
use Rattle.bk_engine.specs.ActLaws.{done-behind}
use Rattle.bk_engine.specs.CopiedLaws.{copied-more}
use Rattle.bk_engine.specs.PartLaws.{act-crash, calm-beside, copied-beside, media-beside, world-stands}
use Rattle.bk_engine.proofs.Made.{hosted-none}
use Rattle.bk_engine.specs.TouchLaws.{stores-touch}
use Rattle.bk_engine.proofs.engine.Engine.create.Goals as goal

pub returns-in_err-reserve-clause-crash : goal.returns-in_err-reserve-clause-crash
returns-in_err-reserve-clause-crash g c = λ tells w is may none. effect_weaken (λ image covers. inl covers) (c.reserve.ensures.crash tells w is)

pub returns-in_err-spec-clause-crash : goal.returns-in_err-spec-clause-crash
returns-in_err-spec-clause-crash g c = λ tells w is may none. effect_weaken (λ image covers. inl covers) (c.reserve.ensures.crash tells w is)

pub returns-in_err-create-clause-crash : goal.returns-in_err-create-clause-crash
returns-in_err-create-clause-crash g c = λ tells w is may none.
    let a = g.D.Device.disk c.reserve.new.dev in
    let b = g.D.Device.disk c.create.new.dev in
    let e : Kept = record { hosting = c.self.inside.hosting; drawn = c.self.inside.drawn; session = c.self.inside.session; sessions = c.self.inside.sessions.items } in
    let is' : StandsFor a e w = subst (λ (k : Kept). StandsFor a k w) (sym c.self.view_is) (c.in_ok-reserve.ensures.stands tells w is) in
    let ready' : IsReady e = subst IsReady (sym c.self.view_is) c.in_ok-reserve.ensures.ready in
    let reserved : e.drawn + 2 ≤ (own_in e).counter = subst (λ (k : Kept). k.drawn + 2 ≤ (own_in k).counter) (sym c.self.view_is) c.in_ok-reserve.ensures.reserved in
    let without : HaveNoFile is'.hosted c.in_ok-spec.spec = subst (HaveNoFile is'.hosted) (sym c.in_ok-spec.ensures) (hosted-none w c.args.creation is'.hosted is'.hosts none) in
    let effect = subst (λ (s : DatabaseSpec). Effect IsOfStores (LeavesEither (own_in e) is'.hosted (is'.hosted ++ newly s c.args.creation.time c.args.creation.branch ∷ [])) a b) c.in_ok-spec.ensures (c.create.ensures.crash tells is'.hosted is'.hosting without) in
    effect_then (effect_weaken (λ image covers. inl covers) (c.reserve.ensures.crash tells w is))
    (act-crash a b e w (created c.args.creation) (is'.hosted ++ creating c.args.creation ∷ []) ready' is' (done-behind w (created c.args.creation) may (λ turn. turn)) reserved
    (c.hosted_databases_follow_acts.ensures.created w c.args.creation is'.hosted is'.sound may is'.hosts)
    (c.acts_keep_media.ensures.act w (created c.args.creation) None a.files is'.sound may (λ path bad. bad) is'.media) (λ image left. left) effect)

pub returns-clause-crash : goal.returns-clause-crash
returns-clause-crash g c = λ tells w is may none.
    let a = g.D.Device.disk c.reserve.new.dev in
    let b = g.D.Device.disk c.create.new.dev in
    let e : Kept = record { hosting = c.self.inside.hosting; drawn = c.self.inside.drawn; session = c.self.inside.session; sessions = c.self.inside.sessions.items } in
    let is' : StandsFor a e w = subst (λ (k : Kept). StandsFor a k w) (sym c.self.view_is) (c.in_ok-reserve.ensures.stands tells w is) in
    let ready' : IsReady e = subst IsReady (sym c.self.view_is) c.in_ok-reserve.ensures.ready in
    let reserved : e.drawn + 2 ≤ (own_in e).counter = subst (λ (k : Kept). k.drawn + 2 ≤ (own_in k).counter) (sym c.self.view_is) c.in_ok-reserve.ensures.reserved in
    let without : HaveNoFile is'.hosted c.in_ok-spec.spec = subst (HaveNoFile is'.hosted) (sym c.in_ok-spec.ensures) (hosted-none w c.args.creation is'.hosted is'.hosts none) in
    let effect = subst (λ (s : DatabaseSpec). Effect IsOfStores (LeavesEither (own_in e) is'.hosted (is'.hosted ++ newly s c.args.creation.time c.args.creation.branch ∷ [])) a b) c.in_ok-spec.ensures (c.create.ensures.crash tells is'.hosted is'.hosting without) in
    effect_then (effect_weaken (λ image covers. inl covers) (c.reserve.ensures.crash tells w is))
    (act-crash a b e w (created c.args.creation) (is'.hosted ++ creating c.args.creation ∷ []) ready' is' (done-behind w (created c.args.creation) may (λ turn. turn)) reserved
    (c.hosted_databases_follow_acts.ensures.created w c.args.creation is'.hosted is'.sound may is'.hosts)
    (c.acts_keep_media.ensures.act w (created c.args.creation) None a.files is'.sound may (λ path bad. bad) is'.media) (λ image left. left) effect)

pub returns-clause-stands : goal.returns-clause-stands
returns-clause-stands g c = λ tells w is may none.
    let a = g.D.Device.disk c.reserve.new.dev in
    let b = g.D.Device.disk c.create.new.dev in
    let e : Kept = record { hosting = c.self.inside.hosting; drawn = c.self.inside.drawn; session = c.self.inside.session; sessions = c.self.inside.sessions.items } in
    let is' : StandsFor a e w = subst (λ (k : Kept). StandsFor a k w) (sym c.self.view_is) (c.in_ok-reserve.ensures.stands tells w is) in
    let ready' : IsReady e = subst IsReady (sym c.self.view_is) c.in_ok-reserve.ensures.ready in
    let reserved : e.drawn + 2 ≤ (own_in e).counter = subst (λ (k : Kept). k.drawn + 2 ≤ (own_in k).counter) (sym c.self.view_is) c.in_ok-reserve.ensures.reserved in
    let without : HaveNoFile is'.hosted c.in_ok-spec.spec = subst (HaveNoFile is'.hosted) (sym c.in_ok-spec.ensures) (hosted-none w c.args.creation is'.hosted is'.hosts none) in
    let effect = subst (λ (s : DatabaseSpec). Effect IsOfStores (LeavesEither (own_in e) is'.hosted (is'.hosted ++ newly s c.args.creation.time c.args.creation.branch ∷ [])) a b) c.in_ok-spec.ensures (c.create.ensures.crash tells is'.hosted is'.hosting without) in
    let media : KeepsMedia (done w (created c.args.creation)) None b.files = c.acts_keep_media.ensures.act w (created c.args.creation) None b.files is'.sound may (λ path bad. bad) (media-in w None a.files b.files (media-beside effect) is'.media) in
    world-stands a b e (record { hosting = c.create.new.self; drawn = c.self.inside.drawn + 2; session = c.self.inside.session; sessions = c.self.inside.sessions.items }) w (done w (created c.args.creation)) 2 (is'.hosted ++ creating c.args.creation ∷ []) is'
    (done-behind w (created c.args.creation) may (λ turn. turn)) (c.acts_keep_worlds_sound.ensures.act w (created c.args.creation) is'.sound may)
    (c.hosted_databases_follow_acts.ensures.created w c.args.creation is'.hosted is'.sound may is'.hosts)
    (subst (λ (s : DatabaseSpec). IsHosting b c.create.new.self (is'.hosted ++ newly s c.args.creation.time c.args.creation.branch ∷ [])) c.in_ok-spec.ensures (c.in_ok-create.ensures.stands tells is'.hosted is'.hosting without))
    (ap (λ (o : Own). o.number) c.in_ok-create.ensures.own) refl refl refl media (calm-beside effect is'.calm) (copied-more b is'.hosted (creating c.args.creation) refl (copied-beside is'.hosted effect is'.copied))

pub returns-clause-own : goal.returns-clause-own
returns-clause-own g c =
    let reserved = c.in_ok-reserve.ensures.own in
    let same = c.in_ok-create.ensures.own ∙ ap own_in c.self.view_is in
    (ap (λ (o : Own). o.number) same ∙ reserved.0, ap (λ (o : Own). o.staging) same ∙ reserved.1)

pub returns-in_err-reserve-clause-touches : goal.returns-in_err-reserve-clause-touches
returns-in_err-reserve-clause-touches g c = λ tells. c.reserve.ensures.touches tells

pub returns-in_err-spec-clause-touches : goal.returns-in_err-spec-clause-touches
returns-in_err-spec-clause-touches g c = λ tells. c.reserve.ensures.touches tells

pub returns-in_err-create-clause-touches : goal.returns-in_err-create-clause-touches
returns-in_err-create-clause-touches g c = λ tells. effect_then (c.reserve.ensures.touches tells) (stores-touch (c.create.ensures.touches tells))

pub returns-clause-touches : goal.returns-clause-touches
returns-clause-touches g c = λ tells. effect_then (c.reserve.ensures.touches tells) (stores-touch (c.create.ensures.touches tells))
