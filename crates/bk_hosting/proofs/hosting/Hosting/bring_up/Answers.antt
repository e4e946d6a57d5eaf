use Rattle.std.proofs.Common.{rules, ◌≡◌, ◌<◌, ◌∙◌, ℕ, false, List, length, Option, inl, Some, refl, set, ap, sym, subst}
use Rattle.std.specs.Prelude.{slice_get, IsErrOf}
use Rattle.bk_device.specs.Compose.{effect_weaken}
use Rattle.bk_facts.specs.declared.facts.DataFile.{DataFile}
use Rattle.bk_master.specs.declared.record.Entry.{Entry}
use Rattle.bk_points.specs.Points.{points_bytes}
use Rattle.bk_store.specs.Store.{Kept as KeptStore}
use Rattle.bk_stores.specs.Bringing.{MakesNext}
use Rattle.bk_stores.specs.ListLaws.{got-set}
use Rattle.bk_stores.specs.Standing.{AreStanding, AreUnused}
use Rattle.bk_stores.specs.Stores.{Fixed, Kept as KeptStores}
use Rattle.bk_stores.specs.TouchLaws.{none-touched}
use Rattle.bk_device.specs.declared.trouble.Trouble.TheVariants.{Broken}
use Rattle.bk_hosting.specs.Bringing.{ComesUp}
use Rattle.bk_hosting.specs.Hosting.{IsHosting, IsReady, IsSealedAt, Kept, LeavesEither, own_of}
use Rattle.bk_hosting.proofs.Brought.{by-parts, shares-kept, state_at, up-crash, up-hosting, up-ready}
use Rattle.bk_hosting.proofs.Checked.{as-viewed, rest-hosted}
use Rattle.bk_hosting.proofs.hosting.Hosting.bring_up.Goals as goal

pub returns-in_err-note-clause-crash : goal.returns-in_err-note-clause-crash
returns-in_err-note-clause-crash g c = λ tells hosted told r h is comes up.
    effect_weaken (λ image before. inl before) (rest-hosted (g.D.Device.disk c.args.dev.now) c.args.self.now hosted is)

pub bring_up-requires-clause-parked : goal.bring_up-requires-clause-parked
bring_up-requires-clause-parked g c = λ lifetimes outlives.
    subst (λ (k : Kept). (e : Entry) × (slice_get k.stores.master.record.databases c.args.at ≡ Some e) × (e.is_stored ≡ false)) (sym c.self.view_is) c.in_ok-note.ensures.parked

pub bring_up-requires-clause-unused : goal.bring_up-requires-clause-unused
bring_up-requires-clause-unused g c = λ lifetimes outlives tells.
    let given : c.deref.result.now ≡ c.args.files.items = search rules in
    subst (λ (k : Kept). AreUnused k.stores.slots c.args.files.items) (sym c.self.view_is) (subst (λ (fs : List DataFile). AreUnused c.args.self.now.stores.slots fs) given c.in_ok-note.ensures.unused)

pub returns-in_err-bring_up-clause-crash : goal.returns-in_err-bring_up-clause-crash
returns-in_err-bring_up-clause-crash g c = λ tells hosted told r h is comes up.
    let a = g.D.Device.disk c.args.dev.now in
    let x : Kept = record { stores = c.self.inside.stores; states = c.self.inside.states.items } in
    let is' : IsHosting a x hosted = subst (λ (k : Kept). IsHosting a k hosted) (sym c.self.view_is) is in
    let comes' : ComesUp a x hosted c.args.at c.args.medium.now.name c.args.stored.now c.args.files.items c.args.checkpoint c.args.known.now c.args.points c.args.last.now told r =
    subst (λ (k : Kept). ComesUp a k hosted c.args.at c.args.medium.now.name c.args.stored.now c.args.files.items c.args.checkpoint c.args.known.now c.args.points c.args.last.now told r) (sym c.self.view_is) comes in
    let note : c.deref-2.result.now ≡ points_bytes c.args.points = search rules in
    let makes : MakesNext a x.stores c.args.medium.now.name c.args.stored.now c.args.files.items c.args.checkpoint c.deref-2.result.now c.args.known.now told =
    subst (λ (bs : List ℕ). MakesNext a x.stores c.args.medium.now.name c.args.stored.now c.args.files.items c.args.checkpoint bs c.args.known.now told) (sym note) comes'.makes in
    let shares = shares-kept a x hosted c.args.files.items is' comes'.none in
    as-viewed (λ own. LeavesEither own hosted (set hosted c.args.at h)) x c.args.self.now c.self.view_is
    (up-crash a (g.D.Device.disk c.bring_up.new.dev) x hosted c.args.at c.args.medium.now.name c.args.stored.now c.args.files.items c.args.checkpoint c.args.known.now c.args.points c.args.last.now told r h is' comes' c.in_ok-note.ensures.spelled up
    (c.bring_up.ensures.crash tells is'.tolds told r is'.stores shares makes comes'.ends))

pub returns-in_err-bring_up-clause-broken : goal.returns-in_err-bring_up-clause-broken
returns-in_err-bring_up-clause-broken g c = λ tells broken hosted told r is comes.
    let a = g.D.Device.disk c.args.dev.now in
    let x : Kept = record { stores = c.self.inside.stores; states = c.self.inside.states.items } in
    let is' : IsHosting a x hosted = subst (λ (k : Kept). IsHosting a k hosted) (sym c.self.view_is) is in
    let comes' : ComesUp a x hosted c.args.at c.args.medium.now.name c.args.stored.now c.args.files.items c.args.checkpoint c.args.known.now c.args.points c.args.last.now told r =
    subst (λ (k : Kept). ComesUp a k hosted c.args.at c.args.medium.now.name c.args.stored.now c.args.files.items c.args.checkpoint c.args.known.now c.args.points c.args.last.now told r) (sym c.self.view_is) comes in
    let note : c.deref-2.result.now ≡ points_bytes c.args.points = search rules in
    let makes : MakesNext a x.stores c.args.medium.now.name c.args.stored.now c.args.files.items c.args.checkpoint c.deref-2.result.now c.args.known.now told =
    subst (λ (bs : List ℕ). MakesNext a x.stores c.args.medium.now.name c.args.stored.now c.args.files.items c.args.checkpoint bs c.args.known.now told) (sym note) comes'.makes in
    let shares = shares-kept a x hosted c.args.files.items is' comes'.none in
    let its : IsErrOf c.bring_up.result Broken = search rules in
    c.bring_up.ensures.broken tells its is'.tolds told r is'.stores shares makes comes'.ends

pub returns-clause-ready : goal.returns-clause-ready
returns-clause-ready g c =
    let x : Kept = record { stores = c.self.inside.stores; states = c.self.inside.states.items } in
    let then : Kept = record { stores = c.bring_up.new.self; states = set c.self.inside.states.items c.args.at (state_at c.args.points) } in
    let opens = c.in_ok-bring_up.ensures.opens in
    let ready : IsReady x = subst IsReady (sym c.self.view_is) c.requires.ready in
    by-parts IsReady c.put_points.new.self then.stores then.states c.put_points.ensures.stores c.put_points.ensures.states (up-ready x then c.args.at opens.0 (state_at c.args.points) ready opens.2 c.in_ok-bring_up.ensures.ready opens.1 refl)

pub returns-clause-own : goal.returns-clause-own
returns-clause-own g c = ap (λ (k : KeptStores). k.master.record.own) c.put_points.ensures.stores ∙ ap (λ (f : Fixed). f.own) c.in_ok-bring_up.ensures.fixed ∙ ap own_of c.self.view_is

pub returns-clause-lasts : goal.returns-clause-lasts
returns-clause-lasts g c =
    let opens = c.in_ok-bring_up.ensures.opens in
    let inside : c.args.at < length c.self.inside.stores.slots = search rules in
    subst (λ (k : KeptStores). IsSealedAt k.slots c.args.at) (sym c.put_points.ensures.stores)
    (opens.0, ap (λ (sl : List (Option KeptStore)). slice_get sl c.args.at) opens.1 ∙ got-set c.self.inside.stores.slots c.args.at (Some opens.0) inside, opens.2)

pub returns-clause-standing : goal.returns-clause-standing
returns-clause-standing g c = λ tells. subst (AreStanding (g.D.Device.disk c.bring_up.new.dev)) (sym c.put_points.ensures.stores) (c.in_ok-bring_up.ensures.standing tells)

pub returns-clause-stands : goal.returns-clause-stands
returns-clause-stands g c = λ tells hosted told r h is comes up.
    let a = g.D.Device.disk c.args.dev.now in
    let x : Kept = record { stores = c.self.inside.stores; states = c.self.inside.states.items } in
    let is' : IsHosting a x hosted = subst (λ (k : Kept). IsHosting a k hosted) (sym c.self.view_is) is in
    let comes' : ComesUp a x hosted c.args.at c.args.medium.now.name c.args.stored.now c.args.files.items c.args.checkpoint c.args.known.now c.args.points c.args.last.now told r =
    subst (λ (k : Kept). ComesUp a k hosted c.args.at c.args.medium.now.name c.args.stored.now c.args.files.items c.args.checkpoint c.args.known.now c.args.points c.args.last.now told r) (sym c.self.view_is) comes in
    let note : c.deref-2.result.now ≡ points_bytes c.args.points = search rules in
    let makes : MakesNext a x.stores c.args.medium.now.name c.args.stored.now c.args.files.items c.args.checkpoint c.deref-2.result.now c.args.known.now told =
    subst (λ (bs : List ℕ). MakesNext a x.stores c.args.medium.now.name c.args.stored.now c.args.files.items c.args.checkpoint bs c.args.known.now told) (sym note) comes'.makes in
    let shares = shares-kept a x hosted c.args.files.items is' comes'.none in
    let opens = c.in_ok-bring_up.ensures.opens in
    let b = g.D.Device.disk c.bring_up.new.dev in
    let then : Kept = record { stores = c.bring_up.new.self; states = set c.self.inside.states.items c.args.at (state_at c.args.points) } in
    let up-then : IsHosting b then (set hosted c.args.at h) =
    up-hosting a b x hosted c.args.at c.args.medium.now.name c.args.stored.now c.args.files.items c.args.checkpoint c.args.known.now c.args.points c.args.last.now told r h is' comes' c.in_ok-note.ensures.spelled up then opens.0 opens.1 opens.2 c.in_ok-bring_up.ensures.fixed
    (c.in_ok-bring_up.ensures.stands tells is'.tolds told r is'.stores shares makes comes'.ends) refl in
    by-parts (λ (k : Kept). IsHosting b k (set hosted c.args.at h)) c.put_points.new.self then.stores then.states c.put_points.ensures.stores c.put_points.ensures.states up-then

pub returns-clause-crash : goal.returns-clause-crash
returns-clause-crash g c = λ tells hosted told r h is comes up.
    let a = g.D.Device.disk c.args.dev.now in
    let x : Kept = record { stores = c.self.inside.stores; states = c.self.inside.states.items } in
    let is' : IsHosting a x hosted = subst (λ (k : Kept). IsHosting a k hosted) (sym c.self.view_is) is in
    let comes' : ComesUp a x hosted c.args.at c.args.medium.now.name c.args.stored.now c.args.files.items c.args.checkpoint c.args.known.now c.args.points c.args.last.now told r =
    subst (λ (k : Kept). ComesUp a k hosted c.args.at c.args.medium.now.name c.args.stored.now c.args.files.items c.args.checkpoint c.args.known.now c.args.points c.args.last.now told r) (sym c.self.view_is) comes in
    let note : c.deref-2.result.now ≡ points_bytes c.args.points = search rules in
    let makes : MakesNext a x.stores c.args.medium.now.name c.args.stored.now c.args.files.items c.args.checkpoint c.deref-2.result.now c.args.known.now told =
    subst (λ (bs : List ℕ). MakesNext a x.stores c.args.medium.now.name c.args.stored.now c.args.files.items c.args.checkpoint bs c.args.known.now told) (sym note) comes'.makes in
    let shares = shares-kept a x hosted c.args.files.items is' comes'.none in
    as-viewed (λ own. LeavesEither own hosted (set hosted c.args.at h)) x c.args.self.now c.self.view_is
    (up-crash a (g.D.Device.disk c.bring_up.new.dev) x hosted c.args.at c.args.medium.now.name c.args.stored.now c.args.files.items c.args.checkpoint c.args.known.now c.args.points c.args.last.now told r h is' comes' c.in_ok-note.ensures.spelled up
    (c.bring_up.ensures.crash tells is'.tolds told r is'.stores shares makes comes'.ends))

pub returns-in_err-note-clause-touches : goal.returns-in_err-note-clause-touches
returns-in_err-note-clause-touches g c = λ tells. none-touched (g.D.Device.disk c.args.dev.now)
