use Rattle.std.proofs.Common.{◌≡◌, ◌∙◌, ◌≤◌, ◌+◌, map, Some, None, inl, inr, sym, ap, subst, arith}
use Rattle.bk_archive.specs.Media.{KeepsMedia}
use Rattle.bk_master.specs.declared.record.Own.{Own}
use Rattle.bk_engine.specs.Amid.{Amid}
use Rattle.bk_engine.specs.Stands.{Kept, StandsFor, own_in}
use Rattle.bk_bytes.specs.Field.{AreBytes}
use Rattle.bk_device.specs.Compose.{effect_then, effect_weaken}
use Rattle.bk_kept.specs.Keeps.{session_of}
use Rattle.bk_machine.specs.Acts.{done, medium_made}
use Rattle.bk_world.specs.Medium.{medium_at}
use Rattle.bk_engine.specs.ActLaws.{done-behind}
use Rattle.bk_engine.specs.AmidLaws.{amid-stands, stands-amid}
use Rattle.bk_engine.specs.TouchLaws.{wider-touch}
use Rattle.bk_engine.proofs.engine.Engine.make_medium.Goals as goal

pub returns-in_err-reserve-clause-crash : goal.returns-in_err-reserve-clause-crash
returns-in_err-reserve-clause-crash g c = λ tells w is absent. effect_weaken (λ image covers. inl covers) (c.reserve.ensures.crash tells w is)

pub returns-in_err-making-clause-crash : goal.returns-in_err-making-clause-crash
returns-in_err-making-clause-crash g c = λ tells w is absent. effect_weaken (λ image covers. inl covers) (c.reserve.ensures.crash tells w is)

pub returns-in_err-name_making-clause-crash : goal.returns-in_err-name_making-clause-crash
returns-in_err-name_making-clause-crash g c = λ tells w is absent.
    let a1 = g.D.Device.disk c.reserve.new.dev in
    let e1 : Kept = c.reserve.new.self in
    let is1 : StandsFor a1 e1 w = c.in_ok-reserve.ensures.stands tells w is in
    let amid1 : Amid a1 e1.hosting w = stands-amid a1 e1 w c.in_ok-reserve.ensures.ready is1 in
    let media1 : KeepsMedia w (Some c.in_ok-making.making) a1.files =
    c.media_stay.ensures.named w a1.files c.in_ok-making.making (subst AreBytes (sym c.in_ok-making.ensures.copy) c.path_law.ensures) is1.media (ap (medium_at w.media) c.in_ok-making.ensures.copy ∙ absent) in
    let first = effect_then (effect_weaken (λ image covers. inl covers) (c.reserve.ensures.crash tells w is)) (effect_weaken (λ image covers. inl covers) (c.name_making.ensures.crash tells w amid1 media1)) in
    first

pub returns-in_err-make_named-clause-crash : goal.returns-in_err-make_named-clause-crash
returns-in_err-make_named-clause-crash g c = λ tells w is absent.
    let a1 = g.D.Device.disk c.reserve.new.dev in
    let e1 : Kept = c.reserve.new.self in
    let is1 : StandsFor a1 e1 w = c.in_ok-reserve.ensures.stands tells w is in
    let amid1 : Amid a1 e1.hosting w = stands-amid a1 e1 w c.in_ok-reserve.ensures.ready is1 in
    let media1 : KeepsMedia w (Some c.in_ok-making.making) a1.files =
    c.media_stay.ensures.named w a1.files c.in_ok-making.making (subst AreBytes (sym c.in_ok-making.ensures.copy) c.path_law.ensures) is1.media (ap (medium_at w.media) c.in_ok-making.ensures.copy ∙ absent) in
    let amid2 : Amid (g.D.Device.disk c.name_making.new.dev) c.name_making.new.self.hosting w = c.in_ok-name_making.ensures.stands tells w amid1 media1 in
    let named : (own_in c.name_making.new.self).making ≡ Some c.args.path.now = ap (λ (o : Own). o.making) c.in_ok-name_making.ensures.own ∙ ap (λ p. Some p) c.in_ok-making.ensures.copy in
    let reserved : w.counter + 1 ≤ (own_in c.name_making.new.self).counter =
    (let drawn = is1.counter in let enough = c.in_ok-reserve.ensures.reserved in let same = ap (λ (o : Own). o.counter) c.in_ok-name_making.ensures.own in omega (arith, drawn, enough, same)) in
    let first = effect_then (effect_weaken (λ image covers. inl covers) (c.reserve.ensures.crash tells w is)) (effect_weaken (λ image covers. inl covers) (c.name_making.ensures.crash tells w amid1 media1)) in
    let second = effect_then first (c.make_named.ensures.crash tells w amid2 named reserved absent) in
    second

pub returns-in_err-name_making-2-clause-crash : goal.returns-in_err-name_making-2-clause-crash
returns-in_err-name_making-2-clause-crash g c = λ tells w is absent.
    let a1 = g.D.Device.disk c.reserve.new.dev in
    let e1 : Kept = c.reserve.new.self in
    let is1 : StandsFor a1 e1 w = c.in_ok-reserve.ensures.stands tells w is in
    let amid1 : Amid a1 e1.hosting w = stands-amid a1 e1 w c.in_ok-reserve.ensures.ready is1 in
    let media1 : KeepsMedia w (Some c.in_ok-making.making) a1.files =
    c.media_stay.ensures.named w a1.files c.in_ok-making.making (subst AreBytes (sym c.in_ok-making.ensures.copy) c.path_law.ensures) is1.media (ap (medium_at w.media) c.in_ok-making.ensures.copy ∙ absent) in
    let amid2 : Amid (g.D.Device.disk c.name_making.new.dev) c.name_making.new.self.hosting w = c.in_ok-name_making.ensures.stands tells w amid1 media1 in
    let named : (own_in c.name_making.new.self).making ≡ Some c.args.path.now = ap (λ (o : Own). o.making) c.in_ok-name_making.ensures.own ∙ ap (λ p. Some p) c.in_ok-making.ensures.copy in
    let reserved : w.counter + 1 ≤ (own_in c.name_making.new.self).counter =
    (let drawn = is1.counter in let enough = c.in_ok-reserve.ensures.reserved in let same = ap (λ (o : Own). o.counter) c.in_ok-name_making.ensures.own in omega (arith, drawn, enough, same)) in
    let first = effect_then (effect_weaken (λ image covers. inl covers) (c.reserve.ensures.crash tells w is)) (effect_weaken (λ image covers. inl covers) (c.name_making.ensures.crash tells w amid1 media1)) in
    let second = effect_then first (c.make_named.ensures.crash tells w amid2 named reserved absent) in
    let both = c.in_ok-make_named.ensures.stands tells w amid2 named reserved absent in
    let third = effect_then second (effect_weaken (λ image covers. inr covers) (c.name_making-2.ensures.crash tells (done w (medium_made c.args.path.now)) both.0 both.1)) in
    third

pub returns-clause-crash : goal.returns-clause-crash
returns-clause-crash g c = λ tells w is absent.
    let a1 = g.D.Device.disk c.reserve.new.dev in
    let e1 : Kept = c.reserve.new.self in
    let is1 : StandsFor a1 e1 w = c.in_ok-reserve.ensures.stands tells w is in
    let amid1 : Amid a1 e1.hosting w = stands-amid a1 e1 w c.in_ok-reserve.ensures.ready is1 in
    let media1 : KeepsMedia w (Some c.in_ok-making.making) a1.files =
    c.media_stay.ensures.named w a1.files c.in_ok-making.making (subst AreBytes (sym c.in_ok-making.ensures.copy) c.path_law.ensures) is1.media (ap (medium_at w.media) c.in_ok-making.ensures.copy ∙ absent) in
    let amid2 : Amid (g.D.Device.disk c.name_making.new.dev) c.name_making.new.self.hosting w = c.in_ok-name_making.ensures.stands tells w amid1 media1 in
    let named : (own_in c.name_making.new.self).making ≡ Some c.args.path.now = ap (λ (o : Own). o.making) c.in_ok-name_making.ensures.own ∙ ap (λ p. Some p) c.in_ok-making.ensures.copy in
    let reserved : w.counter + 1 ≤ (own_in c.name_making.new.self).counter =
    (let drawn = is1.counter in let enough = c.in_ok-reserve.ensures.reserved in let same = ap (λ (o : Own). o.counter) c.in_ok-name_making.ensures.own in omega (arith, drawn, enough, same)) in
    let first = effect_then (effect_weaken (λ image covers. inl covers) (c.reserve.ensures.crash tells w is)) (effect_weaken (λ image covers. inl covers) (c.name_making.ensures.crash tells w amid1 media1)) in
    let second = effect_then first (c.make_named.ensures.crash tells w amid2 named reserved absent) in
    let both = c.in_ok-make_named.ensures.stands tells w amid2 named reserved absent in
    let third = effect_then second (effect_weaken (λ image covers. inr covers) (c.name_making-2.ensures.crash tells (done w (medium_made c.args.path.now)) both.0 both.1)) in
    third

pub returns-clause-stands : goal.returns-clause-stands
returns-clause-stands g c = λ tells w is absent.
    let a1 = g.D.Device.disk c.reserve.new.dev in
    let e1 : Kept = c.reserve.new.self in
    let is1 : StandsFor a1 e1 w = c.in_ok-reserve.ensures.stands tells w is in
    let amid1 : Amid a1 e1.hosting w = stands-amid a1 e1 w c.in_ok-reserve.ensures.ready is1 in
    let media1 : KeepsMedia w (Some c.in_ok-making.making) a1.files =
    c.media_stay.ensures.named w a1.files c.in_ok-making.making (subst AreBytes (sym c.in_ok-making.ensures.copy) c.path_law.ensures) is1.media (ap (medium_at w.media) c.in_ok-making.ensures.copy ∙ absent) in
    let amid2 : Amid (g.D.Device.disk c.name_making.new.dev) c.name_making.new.self.hosting w = c.in_ok-name_making.ensures.stands tells w amid1 media1 in
    let named : (own_in c.name_making.new.self).making ≡ Some c.args.path.now = ap (λ (o : Own). o.making) c.in_ok-name_making.ensures.own ∙ ap (λ p. Some p) c.in_ok-making.ensures.copy in
    let reserved : w.counter + 1 ≤ (own_in c.name_making.new.self).counter =
    (let drawn = is1.counter in let enough = c.in_ok-reserve.ensures.reserved in let same = ap (λ (o : Own). o.counter) c.in_ok-name_making.ensures.own in omega (arith, drawn, enough, same)) in
    let first = effect_then (effect_weaken (λ image covers. inl covers) (c.reserve.ensures.crash tells w is)) (effect_weaken (λ image covers. inl covers) (c.name_making.ensures.crash tells w amid1 media1)) in
    let second = effect_then first (c.make_named.ensures.crash tells w amid2 named reserved absent) in
    let both = c.in_ok-make_named.ensures.stands tells w amid2 named reserved absent in
    let third = effect_then second (effect_weaken (λ image covers. inr covers) (c.name_making-2.ensures.crash tells (done w (medium_made c.args.path.now)) both.0 both.1)) in
    let act = medium_made c.args.path.now in
    let d = g.D.Device.disk c.name_making-2.new.dev in
    let e : Kept = record { hosting = c.self-2.inside.hosting; drawn = c.self-2.inside.drawn + 1; session = c.self-2.inside.session; sessions = c.self-2.inside.sessions.items } in
    let old : c.name_making-2.new.self ≡ record e1 { hosting = c.name_making-2.new.self.hosting } = c.name_making-2.ensures.same ∙ ap (λ (k : Kept). record k { hosting = c.name_making-2.new.self.hosting }) c.name_making.ensures.same in
    let amid4 : Amid d e.hosting (done w act) = subst (λ (k : Kept). Amid d k.hosting (done w act)) (sym c.self-2.view_is) (c.in_ok-name_making-2.ensures.stands tells (done w act) both.0 both.1) in
    let none : (own_in e).making ≡ None = ap (λ (k : Kept). (own_in k).making) c.self-2.view_is ∙ ap (λ (o : Own). o.making) c.in_ok-name_making-2.ensures.own in
    let drawn : c.self-2.inside.drawn ≡ e1.drawn = ap (λ (k : Kept). k.drawn) c.self-2.view_is ∙ ap (λ (k : Kept). k.drawn) old in
    let behind = done-behind w act tt (λ turn. turn) in
    amid-stands d e (done w act) amid4 (c.acts_keep_worlds_sound.ensures.act w act is1.sound tt) none
    (let now = behind.counter in let here = is1.counter in omega (arith, now, here, drawn))
    (behind.session ∙ is1.session ∙ sym (ap (λ (k : Kept). k.session) c.self-2.view_is ∙ ap (λ (k : Kept). k.session) old))
    (behind.sessions ∙ is1.sessions ∙ sym (ap (λ (k : Kept). map session_of k.sessions) c.self-2.view_is ∙ ap (λ (k : Kept). map session_of k.sessions) old))

pub returns-clause-own : goal.returns-clause-own
returns-clause-own g c =
    let reserved = c.in_ok-reserve.ensures.own in
    let first = c.in_ok-name_making.ensures.own in
    let last = ap own_in c.self-2.view_is ∙ c.in_ok-name_making-2.ensures.own in
    (ap (λ (o : Own). o.number) last ∙ ap (λ (o : Own). o.number) first ∙ reserved.0, ap (λ (o : Own). o.staging) last ∙ ap (λ (o : Own). o.staging) first ∙ reserved.1)

pub returns-in_err-reserve-clause-touches : goal.returns-in_err-reserve-clause-touches
returns-in_err-reserve-clause-touches g c = λ tells. wider-touch (λ path bad. absurd bad) (c.reserve.ensures.touches tells)

pub returns-in_err-making-clause-touches : goal.returns-in_err-making-clause-touches
returns-in_err-making-clause-touches g c = λ tells. wider-touch (λ path bad. absurd bad) (c.reserve.ensures.touches tells)

pub returns-in_err-name_making-clause-touches : goal.returns-in_err-name_making-clause-touches
returns-in_err-name_making-clause-touches g c = λ tells. effect_then (wider-touch (λ path bad. absurd bad) (c.reserve.ensures.touches tells)) (wider-touch (λ path bad. absurd bad) (c.name_making.ensures.touches tells))

pub returns-in_err-make_named-clause-touches : goal.returns-in_err-make_named-clause-touches
returns-in_err-make_named-clause-touches g c = λ tells. effect_then (effect_then (wider-touch (λ path bad. absurd bad) (c.reserve.ensures.touches tells)) (wider-touch (λ path bad. absurd bad) (c.name_making.ensures.touches tells))) (c.make_named.ensures.touches tells)

pub returns-in_err-name_making-2-clause-touches : goal.returns-in_err-name_making-2-clause-touches
returns-in_err-name_making-2-clause-touches g c = λ tells. effect_then (effect_then (effect_then (wider-touch (λ path bad. absurd bad) (c.reserve.ensures.touches tells)) (wider-touch (λ path bad. absurd bad) (c.name_making.ensures.touches tells))) (c.make_named.ensures.touches tells)) (wider-touch (λ path bad. absurd bad) (c.name_making-2.ensures.touches tells))

pub returns-clause-touches : goal.returns-clause-touches
returns-clause-touches g c = λ tells. effect_then (effect_then (effect_then (wider-touch (λ path bad. absurd bad) (c.reserve.ensures.touches tells)) (wider-touch (λ path bad. absurd bad) (c.name_making.ensures.touches tells))) (c.make_named.ensures.touches tells)) (wider-touch (λ path bad. absurd bad) (c.name_making-2.ensures.touches tells))
