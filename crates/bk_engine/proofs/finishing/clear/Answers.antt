use Rattle.std.proofs.Common.{inl, inr, map, sym, subst}
use Rattle.bk_archive.specs.Media.{IfDurable, IsMediumFile, KeepsMedia, MediaAreDurable}
use Rattle.bk_device.specs.Compose.{effect_then}
use Rattle.bk_device.specs.Effects.{Effect, MayLeaveOwn}
use Rattle.bk_hosted.specs.Fronts.{settling}
use Rattle.bk_hosting.specs.Hosting.{Kept, LeavesHosted, own_of}
use Rattle.bk_master.specs.declared.record.Own.{Own}
use Rattle.bk_stores.specs.Stores.{IsOurs as IsOfStores}
use Rattle.bk_engine.specs.BesideLaws.{stores-keep, stores-stand}
use Rattle.bk_engine.specs.LoadLaws.{Cleared, beside-crash, finished-opens, removed-media, removed-opens}
use Rattle.bk_engine.specs.Loading.{HasFinishedAny, LeavesFinishingAny}
use Rattle.bk_engine.proofs.Named.{moved, on-all, plain}
use Rattle.bk_engine.specs.TouchLaws.{wider-touch}
use Rattle.bk_engine.specs.Touched.{IsMadeAt, TouchesOnly}
use Rattle.bk_engine.proofs.finishing.clear.Goals as goal

pub returns-in_err-finish_making-clause-standing : goal.returns-in_err-finish_making-clause-standing
returns-in_err-finish_making-clause-standing g c = λ tells.
    stores-stand c.args.hosting.now.stores (stores-keep (λ name at. inl at) (moved g.D.Device.disk c.args.dev.now c.at_rest.new.dev c.at_rest.ensures.same (plain (c.finish_making.ensures.crash tells)))) (c.requires.standing tells)

pub returns-clause-standing : goal.returns-clause-standing
returns-clause-standing g c = λ tells.
    stores-stand c.args.hosting.now.stores (stores-keep (λ name at. inr at) (moved g.D.Device.disk c.finish_making.new.dev c.at_rest-2.new.dev c.at_rest-2.ensures.same (c.remove_named.ensures.crash tells)))
    (stores-stand c.args.hosting.now.stores (stores-keep (λ name at. inl at) (moved g.D.Device.disk c.args.dev.now c.at_rest.new.dev c.at_rest.ensures.same (plain (c.finish_making.ensures.crash tells)))) (c.requires.standing tells))

pub returns-in_err-finish_making-clause-crash : goal.returns-in_err-finish_making-clause-crash
returns-in_err-finish_making-clause-crash g c = λ tells number w is.
    let a = g.D.Device.disk c.args.dev.now in
    let b = g.D.Device.disk c.finish_making.new.dev in
    let x : Kept = c.args.hosting.now in
    let effect = subst (λ d. Effect IsMediumFile (IfDurable (g.D.Device.disk d) (LeavesFinishingAny c.own-own.result.now.making (g.D.Device.disk d).files)) (g.D.Device.disk d) b) c.at_rest.ensures.same (c.finish_making.ensures.crash tells) in
    let rest = subst (λ d. (image : _) → MayLeaveOwn IsOfStores (g.D.Device.disk d) image → LeavesHosted (own_of x) (map settling is.hosted) image) c.at_rest.ensures.same (λ image mine. (c.at_rest.ensures.crash tells (map settling is.hosted) is.hosting).now image mine) in
    let first = beside-crash number a b x w is (λ name at. inl at) rest
    (λ image left others. subst (λ (o : Own). KeepsMedia w o.making image) c.own-own.ensures (left is.calm.media w (subst (λ (o : Own). KeepsMedia w o.making a.files) (sym c.own-own.ensures) is.media))) effect in
    first

pub returns-clause-crash : goal.returns-clause-crash
returns-clause-crash g c = λ tells number w is.
    let a = g.D.Device.disk c.args.dev.now in
    let b = g.D.Device.disk c.finish_making.new.dev in
    let x : Kept = c.args.hosting.now in
    let effect = subst (λ d. Effect IsMediumFile (IfDurable (g.D.Device.disk d) (LeavesFinishingAny c.own-own.result.now.making (g.D.Device.disk d).files)) (g.D.Device.disk d) b) c.at_rest.ensures.same (c.finish_making.ensures.crash tells) in
    let rest = subst (λ d. (image : _) → MayLeaveOwn IsOfStores (g.D.Device.disk d) image → LeavesHosted (own_of x) (map settling is.hosted) image) c.at_rest.ensures.same (λ image mine. (c.at_rest.ensures.crash tells (map settling is.hosted) is.hosting).now image mine) in
    let first = beside-crash number a b x w is (λ name at. inl at) rest
    (λ image left others. subst (λ (o : Own). KeepsMedia w o.making image) c.own-own.ensures (left is.calm.media w (subst (λ (o : Own). KeepsMedia w o.making a.files) (sym c.own-own.ensures) is.media))) effect in
    let finished : HasFinishedAny (own_of x).making a.files b.files = subst (λ (o : Own). HasFinishedAny o.making a.files b.files) c.own-own.ensures (subst (λ d. HasFinishedAny c.own-own.result.now.making (g.D.Device.disk d).files b.files) c.at_rest.ensures.same (c.in_ok-finish_making.ensures.finished tells)) in
    let calm : MediaAreDurable b = c.in_ok-finish_making.ensures.calm tells (subst (λ d. MediaAreDurable (g.D.Device.disk d)) (sym c.at_rest.ensures.same) is.calm.media) in
    let cleared : Cleared b x w = finished-opens a b x w is finished calm effect in
    let again = subst (λ d. (image : _) → MayLeaveOwn IsOfStores (g.D.Device.disk d) image → LeavesHosted (own_of x) (map settling cleared.opened.hosted) image) c.at_rest-2.ensures.same (λ image mine. (c.at_rest-2.ensures.crash tells (map settling cleared.opened.hosted) cleared.opened.hosting).now image mine) in
    effect_then first
    (beside-crash number b (g.D.Device.disk c.remove_named.new.dev) x w cleared.opened (λ name at. inr at) again
    (λ image left others. removed-media b x w image cleared.opened others) (moved g.D.Device.disk c.finish_making.new.dev c.at_rest-2.new.dev c.at_rest-2.ensures.same (c.remove_named.ensures.crash tells)))

pub returns-clause-stands : goal.returns-clause-stands
returns-clause-stands g c = λ tells w is.
    let a = g.D.Device.disk c.args.dev.now in
    let b = g.D.Device.disk c.finish_making.new.dev in
    let x : Kept = c.args.hosting.now in
    let effect = subst (λ d. Effect IsMediumFile (IfDurable (g.D.Device.disk d) (LeavesFinishingAny c.own-own.result.now.making (g.D.Device.disk d).files)) (g.D.Device.disk d) b) c.at_rest.ensures.same (c.finish_making.ensures.crash tells) in
    let finished : HasFinishedAny (own_of x).making a.files b.files = subst (λ (o : Own). HasFinishedAny o.making a.files b.files) c.own-own.ensures (subst (λ d. HasFinishedAny c.own-own.result.now.making (g.D.Device.disk d).files b.files) c.at_rest.ensures.same (c.in_ok-finish_making.ensures.finished tells)) in
    let calm : MediaAreDurable b = c.in_ok-finish_making.ensures.calm tells (subst (λ d. MediaAreDurable (g.D.Device.disk d)) (sym c.at_rest.ensures.same) is.calm.media) in
    let cleared : Cleared b x w = finished-opens a b x w is finished calm effect in
    on-all c.remove_named.result (λ value ok. removed-opens b (g.D.Device.disk c.remove_named.new.dev) x w cleared (moved g.D.Device.disk c.finish_making.new.dev c.at_rest-2.new.dev c.at_rest-2.ensures.same (c.remove_named.ensures.crash tells)))

pub returns-in_err-finish_making-clause-touches : goal.returns-in_err-finish_making-clause-touches
returns-in_err-finish_making-clause-touches g c = λ tells. subst (λ (o : Own). TouchesOnly (IsMadeAt o.making) (g.D.Device.disk c.args.dev.now) (g.D.Device.disk c.finish_making.new.dev)) c.own-own.ensures (moved g.D.Device.disk c.args.dev.now c.at_rest.new.dev c.at_rest.ensures.same (c.finish_making.ensures.touches tells))

pub returns-clause-touches : goal.returns-clause-touches
returns-clause-touches g c = λ tells. effect_then (subst (λ (o : Own). TouchesOnly (IsMadeAt o.making) (g.D.Device.disk c.args.dev.now) (g.D.Device.disk c.finish_making.new.dev)) c.own-own.ensures (moved g.D.Device.disk c.args.dev.now c.at_rest.new.dev c.at_rest.ensures.same (c.finish_making.ensures.touches tells))) (moved g.D.Device.disk c.finish_making.new.dev c.at_rest-2.new.dev c.at_rest-2.ensures.same (wider-touch (λ path bad. absurd bad) (c.remove_named.ensures.touches tells)))
