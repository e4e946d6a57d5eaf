use Rattle.std.proofs.Common.{◌≡◌, ◌≤◌, ◌+◌, Some, None, inl, sym, subst, refl}
use Rattle.bk_archive.specs.Media.{KeepsMedia}
use Rattle.bk_hosting.specs.Hosting.{own_of}
use Rattle.bk_engine.specs.Amid.{Amid}
use Rattle.bk_engine.specs.Stands.{Kept, own_in}
use Rattle.bk_engine.proofs.Named.{moved, of-ok, on-all, plain}
use Rattle.bk_archive.specs.Calls.{HasMade, LeavesMaking}
use Rattle.bk_archive.specs.Media.{IfDurable, IsMediumFile, MediaAreDurable}
use Rattle.bk_device.specs.Effects.{Effect, MayLeaveOwn}
use Rattle.bk_hosting.specs.Hosting.{LeavesHosted, Kept as KeptHosting}
use Rattle.bk_machine.specs.Acts.{done, medium_made}
use Rattle.bk_stores.specs.Stores.{IsOurs as IsOfStores}
use Rattle.bk_engine.specs.BesideLaws.{stores-keep, stores-stand}
use Rattle.bk_engine.proofs.Sealed.{made-amid, made-crash}
use Rattle.bk_engine.specs.TouchLaws.{medium-touch}
use Rattle.bk_engine.proofs.engine.Engine.make_named.Goals as goal

pub returns-clause-standing : goal.returns-clause-standing
returns-clause-standing g c = λ tells.
    stores-stand c.args.self.now.hosting.stores (stores-keep (λ name at. inl at) (moved g.D.Device.disk c.args.dev.now c.at_rest.new.dev c.at_rest.ensures.same (plain (c.make_medium.ensures.crash tells)))) (c.requires.standing tells)

pub returns-clause-stands : goal.returns-clause-stands
returns-clause-stands g c = λ tells w was its enough absent.
    let a = g.D.Device.disk c.args.dev.now in
    let b = g.D.Device.disk c.make_medium.new.dev in
    let x : KeptHosting = c.self.inside.hosting in
    let is : Amid a x w = subst (λ (k : Kept). Amid a k.hosting w) (sym c.self.view_is) was in
    let named : (own_of x).making ≡ Some c.args.path.now = subst (λ (k : Kept). (own_in k).making ≡ Some c.args.path.now) (sym c.self.view_is) its in
    let reserved : w.counter + 1 ≤ (own_of x).counter = subst (λ (k : Kept). w.counter + 1 ≤ (own_in k).counter) (sym c.self.view_is) enough in
    let hosts = c.hosted_databases_follow_acts.ensures.medium_made w c.args.path.now is.hosted is.hosts in
    let effect = subst (λ d. Effect IsMediumFile (IfDurable (g.D.Device.disk d) (LeavesMaking c.args.path.now (g.D.Device.disk d).files)) (g.D.Device.disk d) b) c.at_rest.ensures.same (c.make_medium.ensures.crash tells) in
    let both = on-all c.make_medium.result (λ value ok.
    let made = subst (λ d. HasMade c.args.path.now (g.D.Device.disk d).files b.files) c.at_rest.ensures.same (of-ok c.make_medium.result value ok (c.make_medium.ensures.made tells)) in
    let calm = of-ok c.make_medium.result value ok (c.make_medium.ensures.media tells (subst (λ d. MediaAreDurable (g.D.Device.disk d)) (sym c.at_rest.ensures.same) is.calm.media)) in
    subst (λ (k : Kept). Amid b k.hosting (done w (medium_made c.args.path.now)) × KeepsMedia (done w (medium_made c.args.path.now)) None b.files) c.self.view_is
    (made-amid a b x w c.args.path.now is named reserved absent hosts made calm effect)) in
    both

pub returns-clause-crash : goal.returns-clause-crash
returns-clause-crash g c = λ tells w was its enough absent.
    let a = g.D.Device.disk c.args.dev.now in
    let b = g.D.Device.disk c.make_medium.new.dev in
    let x : KeptHosting = c.self.inside.hosting in
    let is : Amid a x w = subst (λ (k : Kept). Amid a k.hosting w) (sym c.self.view_is) was in
    let named : (own_of x).making ≡ Some c.args.path.now = subst (λ (k : Kept). (own_in k).making ≡ Some c.args.path.now) (sym c.self.view_is) its in
    let reserved : w.counter + 1 ≤ (own_of x).counter = subst (λ (k : Kept). w.counter + 1 ≤ (own_in k).counter) (sym c.self.view_is) enough in
    let hosts = c.hosted_databases_follow_acts.ensures.medium_made w c.args.path.now is.hosted is.hosts in
    let effect = subst (λ d. Effect IsMediumFile (IfDurable (g.D.Device.disk d) (LeavesMaking c.args.path.now (g.D.Device.disk d).files)) (g.D.Device.disk d) b) c.at_rest.ensures.same (c.make_medium.ensures.crash tells) in
    let left = subst (λ d. (image : _) → MayLeaveOwn IsOfStores (g.D.Device.disk d) image → LeavesHosted (own_of x) is.hosted image) c.at_rest.ensures.same (λ image mine. (c.at_rest.ensures.crash tells is.hosted is.hosting).now image mine) in
    made-crash a b x w c.args.path.now is named reserved absent hosts left effect

pub returns-clause-touches : goal.returns-clause-touches
returns-clause-touches g c = λ tells. moved g.D.Device.disk c.args.dev.now c.at_rest.new.dev c.at_rest.ensures.same (medium-touch c.args.path.now refl c.path_law.ensures (c.make_medium.ensures.spares tells))
