use Rattle.std.proofs.Common.{rules, ◌≡◌, ◌≤◌, ◌+◌, ◌∙◌, ℕ, List, Some, refl, inl, sym, ap, subst}
use Rattle.std.specs.List.{position}
use Rattle.std.specs.Prelude.{IsErrOf}
use Rattle.bk_device.specs.Compose.{effect_then, effect_weaken}
use Rattle.bk_device.specs.declared.trouble.Trouble.TheVariants.{Broken}
use Rattle.bk_hosted.specs.Hosted.{names}
use Rattle.bk_hosting.specs.AskLaws.{described}
use Rattle.bk_master.specs.declared.record.Own.{Own}
use Rattle.bk_stores.specs.Stores.{IsOurs as IsOfStores}
use Rattle.bk_volume.specs.Stored.{Stored}
use Rattle.bk_world.specs.declared.database.TableSpec.{TableSpec}
use Rattle.bk_world.specs.declared.header.Header.{Header}
use Rattle.bk_engine.specs.Bringing.{IsSetOn, known_on}
use Rattle.bk_engine.specs.NameLaws.{store-medium}
use Rattle.bk_engine.specs.Stands.{IsReady, Kept, StandsFor, own_in}
use Rattle.bk_engine.proofs.Brought.{IsBrought, brought, brought-crash, brought-stands, room-left, set-stays}
use Rattle.bk_engine.specs.TouchLaws.{stores-touch}
use Rattle.bk_engine.proofs.engine.Engine.bring_up.Goals as goal

pub returns-in_err-reserve-clause-crash : goal.returns-in_err-reserve-clause-crash
returns-in_err-reserve-clause-crash g c = λ tells w is set may.
    effect_weaken (λ image covers. inl covers) (c.reserve.ensures.crash tells w is)

pub returns-in_default-clause-crash : goal.returns-in_default-clause-crash
returns-in_default-clause-crash g c = λ tells w is set may.
    effect_weaken (λ image covers. inl covers) (c.reserve.ensures.crash tells w is)

pub returns-in_err-coming-clause-crash : goal.returns-in_err-coming-clause-crash
returns-in_err-coming-clause-crash g c = λ tells w is set may.
    effect_weaken (λ image covers. inl covers) (c.reserve.ensures.crash tells w is)

pub bring_up-requires-clause-elsewhere : goal.bring_up-requires-clause-elsewhere
bring_up-requires-clause-elsewhere g c κs within = λ own. store-medium c.requires.medium.0 (subst IsOfStores c.requires.medium.2 own)

pub returns-in_err-bring_up-clause-crash : goal.returns-in_err-bring_up-clause-crash
returns-in_err-bring_up-clause-crash g c = λ tells w is set may.
    let a = g.D.Device.disk c.reserve.new.dev in
    let e : Kept = record { hosting = c.self.inside.hosting; drawn = c.self.inside.drawn; session = c.self.inside.session; sessions = c.self.inside.sessions.items } in
    let is' : StandsFor a e w = subst (λ (k : Kept). StandsFor a k w) (sym c.self.view_is) (c.in_ok-reserve.ensures.stands tells w is) in
    let at : ℕ = c.in-Some.at in
    let name : List ℕ = c.args.name.now in
    let stored : Stored = c.args.stored.now in
    let header : Header = c.args.header.now in
    let coming = c.in_ok-coming.coming in
    let known : coming.known ≡ known_on name header stored.tables c.args.branch = c.in_ok-coming.ensures.known ∙ ap (λ (made : List TableSpec). known_on name header made c.args.branch) c.tables.ensures in
    let here : IsSetOn a.files c.args.medium.now.name stored = set-stays (g.D.Device.disk c.args.dev.now).files a.files c.args.medium.now.name stored c.requires.medium (c.reserve.ensures.media tells w is) set in
    let place : position (names name) is'.hosted ≡ Some at = sym (c.find.ensures.found is'.hosted (described a c.self.inside.hosting is'.hosted is'.hosting)) ∙ c.in-Some.is in
    let it : IsBrought a e w is' name c.args.medium.now.name stored header c.args.branch c.args.last at coming.files.items header.checkpoint coming.known coming.points =
    brought c.laws.ensures a e w name c.args.medium.now.name stored header c.args.branch c.args.last at is' c.requires.medium here c.requires.moves c.requires.is_header may place c.in_ok-coming.ensures.string (record { high = search rules; low = search rules }) (room-left name header stored.tables c.args.branch coming.known known c.in_ok-coming.ensures.keeps)
    coming.files.items header.checkpoint coming.known coming.points c.in_ok-coming.ensures.files refl known c.in_ok-coming.ensures.points in
    let ready' : IsReady e = subst IsReady (sym c.self.view_is) c.in_ok-reserve.ensures.ready in
    let reserved : e.drawn + 1 ≤ (own_in e).counter = subst (λ (k : Kept). k.drawn + 1 ≤ (own_in k).counter) (sym c.self.view_is) c.in_ok-reserve.ensures.reserved in
    let b = g.D.Device.disk c.bring_up.new.dev in
    effect_then (effect_weaken (λ image covers. inl covers) (c.reserve.ensures.crash tells w is))
    (brought-crash a b e w is' name c.args.medium.now.name stored header c.args.branch c.args.last at coming.files.items header.checkpoint coming.known coming.points it ready' reserved
    (c.bring_up.ensures.crash tells is'.hosted it.told it.final it.new is'.hosting it.comes it.up))

pub returns-clause-crash : goal.returns-clause-crash
returns-clause-crash g c = λ tells w is set may.
    let a = g.D.Device.disk c.reserve.new.dev in
    let e : Kept = record { hosting = c.self.inside.hosting; drawn = c.self.inside.drawn; session = c.self.inside.session; sessions = c.self.inside.sessions.items } in
    let is' : StandsFor a e w = subst (λ (k : Kept). StandsFor a k w) (sym c.self.view_is) (c.in_ok-reserve.ensures.stands tells w is) in
    let at : ℕ = c.in-Some.at in
    let name : List ℕ = c.args.name.now in
    let stored : Stored = c.args.stored.now in
    let header : Header = c.args.header.now in
    let coming = c.in_ok-coming.coming in
    let known : coming.known ≡ known_on name header stored.tables c.args.branch = c.in_ok-coming.ensures.known ∙ ap (λ (made : List TableSpec). known_on name header made c.args.branch) c.tables.ensures in
    let here : IsSetOn a.files c.args.medium.now.name stored = set-stays (g.D.Device.disk c.args.dev.now).files a.files c.args.medium.now.name stored c.requires.medium (c.reserve.ensures.media tells w is) set in
    let place : position (names name) is'.hosted ≡ Some at = sym (c.find.ensures.found is'.hosted (described a c.self.inside.hosting is'.hosted is'.hosting)) ∙ c.in-Some.is in
    let it : IsBrought a e w is' name c.args.medium.now.name stored header c.args.branch c.args.last at coming.files.items header.checkpoint coming.known coming.points =
    brought c.laws.ensures a e w name c.args.medium.now.name stored header c.args.branch c.args.last at is' c.requires.medium here c.requires.moves c.requires.is_header may place c.in_ok-coming.ensures.string (record { high = search rules; low = search rules }) (room-left name header stored.tables c.args.branch coming.known known c.in_ok-coming.ensures.keeps)
    coming.files.items header.checkpoint coming.known coming.points c.in_ok-coming.ensures.files refl known c.in_ok-coming.ensures.points in
    let ready' : IsReady e = subst IsReady (sym c.self.view_is) c.in_ok-reserve.ensures.ready in
    let reserved : e.drawn + 1 ≤ (own_in e).counter = subst (λ (k : Kept). k.drawn + 1 ≤ (own_in k).counter) (sym c.self.view_is) c.in_ok-reserve.ensures.reserved in
    let b = g.D.Device.disk c.bring_up.new.dev in
    effect_then (effect_weaken (λ image covers. inl covers) (c.reserve.ensures.crash tells w is))
    (brought-crash a b e w is' name c.args.medium.now.name stored header c.args.branch c.args.last at coming.files.items header.checkpoint coming.known coming.points it ready' reserved
    (c.bring_up.ensures.crash tells is'.hosted it.told it.final it.new is'.hosting it.comes it.up))

pub returns-in_err-bring_up-clause-broken : goal.returns-in_err-bring_up-clause-broken
returns-in_err-bring_up-clause-broken g c = λ tells broken w is set may.
    let a = g.D.Device.disk c.reserve.new.dev in
    let e : Kept = record { hosting = c.self.inside.hosting; drawn = c.self.inside.drawn; session = c.self.inside.session; sessions = c.self.inside.sessions.items } in
    let is' : StandsFor a e w = subst (λ (k : Kept). StandsFor a k w) (sym c.self.view_is) (c.in_ok-reserve.ensures.stands tells w is) in
    let at : ℕ = c.in-Some.at in
    let name : List ℕ = c.args.name.now in
    let stored : Stored = c.args.stored.now in
    let header : Header = c.args.header.now in
    let coming = c.in_ok-coming.coming in
    let known : coming.known ≡ known_on name header stored.tables c.args.branch = c.in_ok-coming.ensures.known ∙ ap (λ (made : List TableSpec). known_on name header made c.args.branch) c.tables.ensures in
    let here : IsSetOn a.files c.args.medium.now.name stored = set-stays (g.D.Device.disk c.args.dev.now).files a.files c.args.medium.now.name stored c.requires.medium (c.reserve.ensures.media tells w is) set in
    let place : position (names name) is'.hosted ≡ Some at = sym (c.find.ensures.found is'.hosted (described a c.self.inside.hosting is'.hosted is'.hosting)) ∙ c.in-Some.is in
    let it : IsBrought a e w is' name c.args.medium.now.name stored header c.args.branch c.args.last at coming.files.items header.checkpoint coming.known coming.points =
    brought c.laws.ensures a e w name c.args.medium.now.name stored header c.args.branch c.args.last at is' c.requires.medium here c.requires.moves c.requires.is_header may place c.in_ok-coming.ensures.string (record { high = search rules; low = search rules }) (room-left name header stored.tables c.args.branch coming.known known c.in_ok-coming.ensures.keeps)
    coming.files.items header.checkpoint coming.known coming.points c.in_ok-coming.ensures.files refl known c.in_ok-coming.ensures.points in
    let its : IsErrOf c.bring_up.result Broken = search rules in
    c.bring_up.ensures.broken tells its is'.hosted it.told it.final is'.hosting it.comes

pub returns-clause-stands : goal.returns-clause-stands
returns-clause-stands g c = λ tells w is set may.
    let a = g.D.Device.disk c.reserve.new.dev in
    let e : Kept = record { hosting = c.self.inside.hosting; drawn = c.self.inside.drawn; session = c.self.inside.session; sessions = c.self.inside.sessions.items } in
    let is' : StandsFor a e w = subst (λ (k : Kept). StandsFor a k w) (sym c.self.view_is) (c.in_ok-reserve.ensures.stands tells w is) in
    let at : ℕ = c.in-Some.at in
    let name : List ℕ = c.args.name.now in
    let stored : Stored = c.args.stored.now in
    let header : Header = c.args.header.now in
    let coming = c.in_ok-coming.coming in
    let known : coming.known ≡ known_on name header stored.tables c.args.branch = c.in_ok-coming.ensures.known ∙ ap (λ (made : List TableSpec). known_on name header made c.args.branch) c.tables.ensures in
    let here : IsSetOn a.files c.args.medium.now.name stored = set-stays (g.D.Device.disk c.args.dev.now).files a.files c.args.medium.now.name stored c.requires.medium (c.reserve.ensures.media tells w is) set in
    let place : position (names name) is'.hosted ≡ Some at = sym (c.find.ensures.found is'.hosted (described a c.self.inside.hosting is'.hosted is'.hosting)) ∙ c.in-Some.is in
    let it : IsBrought a e w is' name c.args.medium.now.name stored header c.args.branch c.args.last at coming.files.items header.checkpoint coming.known coming.points =
    brought c.laws.ensures a e w name c.args.medium.now.name stored header c.args.branch c.args.last at is' c.requires.medium here c.requires.moves c.requires.is_header may place c.in_ok-coming.ensures.string (record { high = search rules; low = search rules }) (room-left name header stored.tables c.args.branch coming.known known c.in_ok-coming.ensures.keeps)
    coming.files.items header.checkpoint coming.known coming.points c.in_ok-coming.ensures.files refl known c.in_ok-coming.ensures.points in
    let b = g.D.Device.disk c.bring_up.new.dev in
    brought-stands a b e (record { hosting = c.bring_up.new.self; drawn = c.self.inside.drawn + 1; session = c.self.inside.session; sessions = c.self.inside.sessions.items }) w is' name c.args.medium.now.name stored header c.args.branch c.args.last at
    coming.files.items header.checkpoint coming.known coming.points it (c.in_ok-bring_up.ensures.stands tells is'.hosted it.told it.final it.new is'.hosting it.comes it.up) (ap (λ (o : Own). o.number) c.in_ok-bring_up.ensures.own) refl refl refl
    (c.bring_up.ensures.crash tells is'.hosted it.told it.final it.new is'.hosting it.comes it.up)

pub returns-clause-own : goal.returns-clause-own
returns-clause-own g c =
    let reserved = c.in_ok-reserve.ensures.own in
    let same = c.in_ok-bring_up.ensures.own ∙ ap own_in c.self.view_is in
    (ap (λ (o : Own). o.number) same ∙ reserved.0, ap (λ (o : Own). o.staging) same ∙ reserved.1)

pub returns-clause-touches : goal.returns-clause-touches
returns-clause-touches g c = λ tells. effect_then (c.reserve.ensures.touches tells) (stores-touch (c.bring_up.ensures.touches tells))

pub returns-in_err-bring_up-clause-touches : goal.returns-in_err-bring_up-clause-touches
returns-in_err-bring_up-clause-touches g c = λ tells. effect_then (c.reserve.ensures.touches tells) (stores-touch (c.bring_up.ensures.touches tells))
