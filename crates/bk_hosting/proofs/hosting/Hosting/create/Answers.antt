use Rattle.std.proofs.Common.{rules, ◌≡◌, ◌∙◌, List, [], ◌∷◌, ◌++◌, map, None, inl, sym, ap, subst}
use Rattle.bk_device.specs.Compose.{effect_weaken}
use Rattle.bk_hosted.specs.Hosted.{first_points}
use Rattle.bk_stores.specs.Standing.{AreUnused}
use Rattle.bk_stores.specs.Stores.{at_paths}
use Rattle.bk_stores.specs.TouchLaws.{none-touched}
use Rattle.bk_world.specs.declared.database.FileSpec.{FileSpec}
use Rattle.bk_hosting.specs.declared.hosting.State.{State}
use Rattle.bk_hosting.specs.Hosting.{IsHosting, Kept, LeavesEither}
use Rattle.bk_hosting.specs.Making.{newly}
use Rattle.bk_hosting.proofs.Answered.{answered, so}
use Rattle.bk_hosting.proofs.Checked.{as-viewed, rest-hosted}
use Rattle.bk_hosting.proofs.MadeHosted.{made-crash, made-hosting, shares-none}
use Rattle.bk_hosting.proofs.hosting.Hosting.create.Goals as goal

pub create-requires-clause-unused : goal.create-requires-clause-unused
create-requires-clause-unused g c = λ tells.
    let files : c.as_slice.result.now ≡ c.args.spec.storage.files = search rules in
    subst (λ (fs : List FileSpec). AreUnused c.self.inside.stores.slots (at_paths (map (λ f. f.path) fs))) files
    (subst (λ (k : Kept). AreUnused k.stores.slots (at_paths (map (λ f. f.path) c.as_slice.result.now))) (sym c.self.view_is) c.in_ok-state.ensures.unused)

pub returns-in_err-state-clause-crash : goal.returns-in_err-state-clause-crash
returns-in_err-state-clause-crash g c = λ tells hosted is none. effect_weaken (λ image before. inl before) (rest-hosted (g.D.Device.disk c.args.dev.now) c.args.self.now hosted is)

pub returns-in_err-push-clause-crash : goal.returns-in_err-push-clause-crash
returns-in_err-push-clause-crash g c = λ tells hosted is none. effect_weaken (λ image before. inl before) (rest-hosted (g.D.Device.disk c.args.dev.now) c.args.self.now hosted is)

pub returns-clause-stands : goal.returns-clause-stands
returns-clause-stands g c = λ tells hosted is none.
    answered c.create.result
    (λ _ got.
    let a = g.D.Device.disk c.args.dev.now in
    let x : Kept = record { stores = c.self.inside.stores; states = c.self.inside.states.items } in
    let is' : IsHosting a x hosted = subst (λ (k : Kept). IsHosting a k hosted) (sym c.self.view_is) is in
    let opens = so c.create.result got c.create.ensures.opens in
    let state : c.in_ok-state.state ≡ record { points = first_points c.args.spec.storage.files; job = None; transactions = []; known = None } = search rules in
    let pushed : c.push.new.self.items ≡ c.self.inside.states.items ++ c.in_ok-state.state ∷ [] = search rules in
    made-hosting a (g.D.Device.disk c.create.new.dev) x (record { stores = c.create.new.self; states = c.push.new.self.items }) hosted c.args.spec c.args.time c.args.branch opens.0 is' opens.1 opens.2 (so c.create.result got c.create.ensures.fixed)
    (so c.create.result got (c.create.ensures.stands tells is'.tolds is'.stores (shares-none a x hosted c.args.spec is' none)))
    (pushed ∙ ap (λ (s : State). c.self.inside.states.items ++ s ∷ []) state))

pub returns-clause-crash : goal.returns-clause-crash
returns-clause-crash g c = λ tells hosted is none.
    let a = g.D.Device.disk c.args.dev.now in
    let x : Kept = record { stores = c.self.inside.stores; states = c.self.inside.states.items } in
    let is' : IsHosting a x hosted = subst (λ (k : Kept). IsHosting a k hosted) (sym c.self.view_is) is in
    as-viewed (λ own. LeavesEither own hosted (hosted ++ newly c.args.spec c.args.time c.args.branch ∷ [])) x c.args.self.now c.self.view_is (made-crash a (g.D.Device.disk c.create.new.dev) x hosted c.args.spec c.args.time c.args.branch is' (c.create.ensures.crash tells is'.tolds is'.stores (shares-none a x hosted c.args.spec is' none)))

pub returns-in_err-state-clause-touches : goal.returns-in_err-state-clause-touches
returns-in_err-state-clause-touches g c = λ tells. none-touched (g.D.Device.disk c.args.dev.now)

pub returns-in_err-push-clause-touches : goal.returns-in_err-push-clause-touches
returns-in_err-push-clause-touches g c = λ tells. none-touched (g.D.Device.disk c.args.dev.now)
