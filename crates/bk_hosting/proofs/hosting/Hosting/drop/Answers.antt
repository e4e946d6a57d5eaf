use Rattle.std.proofs.Common.{rules, ◌≡◌, ◌<◌, length, inl, sym, ap, subst, remove}
use Rattle.bk_device.specs.Compose.{effect_weaken}
use Rattle.bk_stores.specs.ListLaws.{got}
use Rattle.bk_stores.specs.Standing.{AreStanding}
use Rattle.bk_stores.specs.TouchLaws.{none-touched}
use Rattle.bk_hosting.specs.Hosting.{IsHosting, IsReady, Kept, LeavesEither}
use Rattle.bk_hosting.specs.Making.{ArePathsAt}
use Rattle.bk_hosting.proofs.Checked.{as-viewed, rest-hosted}
use Rattle.bk_hosting.proofs.DroppedHosted.{dropped-crash, dropped-hosting, dropped-ready, may-remove, others-unused, paths-there}
use Rattle.bk_hosting.proofs.hosting.Hosting.drop.Goals as goal

pub remove-requires-clause-unused : goal.remove-requires-clause-unused
remove-requires-clause-unused g c = λ tells.
    let a = g.D.Device.disk c.args.dev.now in
    let found = paths-there c.args.self.now c.self.inside.stores c.args.at c.in_ok-paths.paths.items (ap (λ (k : Kept). k.stores) c.self.view_is) c.in_ok-paths.ensures.paths in
    let named : c.deref.result.now ≡ c.in_ok-paths.paths.items = search rules in
    others-unused a c.self.inside.stores c.args.at c.deref.result.now (subst (λ (k : Kept). AreStanding a k.stores) (sym c.self.view_is) (c.requires.standing tells)) (subst (ArePathsAt c.self.inside.stores.slots c.args.at) (sym named) found)

pub returns-in_err-paths-clause-crash : goal.returns-in_err-paths-clause-crash
returns-in_err-paths-clause-crash g c = λ tells hosted is inside. effect_weaken (λ image before. inl before) (rest-hosted (g.D.Device.disk c.args.dev.now) c.args.self.now hosted is)

pub returns-in_err-remove-clause-crash : goal.returns-in_err-remove-clause-crash
returns-in_err-remove-clause-crash g c = λ tells hosted is inside.
    let a = g.D.Device.disk c.args.dev.now in
    let x : Kept = record { stores = c.self.inside.stores; states = c.self.inside.states.items } in
    let is' : IsHosting a x hosted = subst (λ (k : Kept). IsHosting a k hosted) (sym c.self.view_is) is in
    let h = got hosted c.args.at inside in
    let found = paths-there c.args.self.now c.self.inside.stores c.args.at c.in_ok-paths.paths.items (ap (λ (k : Kept). k.stores) c.self.view_is) c.in_ok-paths.ensures.paths in
    let named : c.deref.result.now ≡ c.in_ok-paths.paths.items = search rules in
    let may = may-remove a x hosted c.args.at h.0 c.deref.result.now is' h.1 (subst (ArePathsAt c.self.inside.stores.slots c.args.at) (sym named) found) in
    as-viewed (λ own. LeavesEither own hosted (remove hosted c.args.at)) x c.args.self.now c.self.view_is (dropped-crash a (g.D.Device.disk c.remove.new.dev) x hosted c.args.at is' inside (c.remove.ensures.crash tells is'.tolds may.0 is'.stores may.3))

pub returns-clause-ready : goal.returns-clause-ready
returns-clause-ready g c =
    let x : Kept = record { stores = c.self.inside.stores; states = c.self.inside.states.items } in
    let inside : c.args.at < length c.self.inside.states.items = subst (λ (k : Kept). c.args.at < length k.states) (sym c.self.view_is) c.requires.inside in
    let states : c.remove-2.new.self.items ≡ remove c.self.inside.states.items c.args.at = search rules in
    dropped-ready x (record { stores = c.remove.new.self; states = c.remove-2.new.self.items }) c.args.at (subst IsReady (sym c.self.view_is) c.requires.ready) inside c.in_ok-remove.ensures.ready c.in_ok-remove.ensures.slots states

pub returns-clause-stands : goal.returns-clause-stands
returns-clause-stands g c = λ tells hosted is inside.
    let a = g.D.Device.disk c.args.dev.now in
    let x : Kept = record { stores = c.self.inside.stores; states = c.self.inside.states.items } in
    let is' : IsHosting a x hosted = subst (λ (k : Kept). IsHosting a k hosted) (sym c.self.view_is) is in
    let h = got hosted c.args.at inside in
    let found = paths-there c.args.self.now c.self.inside.stores c.args.at c.in_ok-paths.paths.items (ap (λ (k : Kept). k.stores) c.self.view_is) c.in_ok-paths.ensures.paths in
    let named : c.deref.result.now ≡ c.in_ok-paths.paths.items = search rules in
    let may = may-remove a x hosted c.args.at h.0 c.deref.result.now is' h.1 (subst (ArePathsAt c.self.inside.stores.slots c.args.at) (sym named) found) in
    let states : c.remove-2.new.self.items ≡ remove c.self.inside.states.items c.args.at = search rules in
    dropped-hosting a (g.D.Device.disk c.remove.new.dev) x (record { stores = c.remove.new.self; states = c.remove-2.new.self.items }) hosted c.args.at is' c.in_ok-remove.ensures.slots c.in_ok-remove.ensures.fixed (c.in_ok-remove.ensures.stands tells is'.tolds may.0 is'.stores may.3) states

pub returns-clause-crash : goal.returns-clause-crash
returns-clause-crash g c = λ tells hosted is inside.
    let a = g.D.Device.disk c.args.dev.now in
    let x : Kept = record { stores = c.self.inside.stores; states = c.self.inside.states.items } in
    let is' : IsHosting a x hosted = subst (λ (k : Kept). IsHosting a k hosted) (sym c.self.view_is) is in
    let h = got hosted c.args.at inside in
    let found = paths-there c.args.self.now c.self.inside.stores c.args.at c.in_ok-paths.paths.items (ap (λ (k : Kept). k.stores) c.self.view_is) c.in_ok-paths.ensures.paths in
    let named : c.deref.result.now ≡ c.in_ok-paths.paths.items = search rules in
    let may = may-remove a x hosted c.args.at h.0 c.deref.result.now is' h.1 (subst (ArePathsAt c.self.inside.stores.slots c.args.at) (sym named) found) in
    as-viewed (λ own. LeavesEither own hosted (remove hosted c.args.at)) x c.args.self.now c.self.view_is (dropped-crash a (g.D.Device.disk c.remove.new.dev) x hosted c.args.at is' inside (c.remove.ensures.crash tells is'.tolds may.0 is'.stores may.3))

pub returns-in_err-paths-clause-touches : goal.returns-in_err-paths-clause-touches
returns-in_err-paths-clause-touches g c = λ tells. none-touched (g.D.Device.disk c.args.dev.now)
