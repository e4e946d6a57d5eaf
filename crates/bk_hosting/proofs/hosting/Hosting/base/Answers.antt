use Rattle.std.proofs.Common.{rules, true, ◌≡◌, ◌∙◌, inl, None, refl, sym, ap, subst, set}
use Rattle.bk_device.specs.Compose.{effect_weaken}
use Rattle.bk_hosted.specs.Hosted.{based_points, basing, folded, folding, is_up}
use Rattle.bk_points.specs.declared.points.Points.{Points}
use Rattle.bk_points.specs.Points.{IsPoints}
use Rattle.bk_stores.specs.Stores.{AreStores}
use Rattle.bk_stores.specs.TouchLaws.{none-touched}
use Rattle.bk_hosting.specs.declared.hosting.State.{State}
use Rattle.bk_hosting.specs.Hosting.{IsHosting, Kept, LeavesEither, state_of}
use Rattle.bk_hosting.specs.Saying.{NotesPoints, pointing}
use Rattle.bk_hosting.proofs.Answered.{answered, so}
use Rattle.bk_hosting.proofs.Checked.{as-viewed, rest-hosted}
use Rattle.bk_hosting.proofs.NotedHosted.{folded-still, hosted-counts, noted-crash, noted-hosting, pointed, state-there}
use Rattle.bk_hosting.proofs.SaidHosted.{opened-as, put-there, read-there, slot-of, state-up}
use Rattle.bk_hosting.proofs.hosting.Hosting.base.Goals as goal

pub returns-then-not-is_open-clause-crash : goal.returns-then-not-is_open-clause-crash
returns-then-not-is_open-clause-crash g c = λ tells hosted h is here. effect_weaken (λ image before. inl before) (rest-hosted (g.D.Device.disk c.args.dev.now) c.args.self.now hosted is)

pub points_on-requires-clause-opened : goal.points_on-requires-clause-opened
points_on-requires-clause-opened g c =
    let x : Kept = record { stores = c.self.inside.stores; states = c.self.inside.states.items } in
    let yes : c.is_open.result ≡ true = search rules in
    opened-as x c.args.self.now c.args.at (sym c.self.view_is) c.requires.ready (c.is_open.ensures.open yes)

pub returns-clause-stands : goal.returns-clause-stands
returns-clause-stands g c = λ tells hosted h is here.
    answered c.points_on.result
    (λ _ got.
    let a = g.D.Device.disk c.args.dev.now in
    let x : Kept = record { stores = c.self.inside.stores; states = c.self.inside.states.items } in
    let is' : IsHosting a x hosted = subst (λ (k : Kept). IsHosting a k hosted) (sym c.self.view_is) is in
    let yes : c.is_open.result ≡ true = search rules in
    let opened = opened-as x c.args.self.now c.args.at (sym c.self.view_is) c.requires.ready (c.is_open.ensures.open yes) in
    let new : Points = based_points c.args.header.now (folded h.points h.records) in
    let yes : c.is_open.result ≡ true = search rules in
    let open-here = opened-as x c.args.self.now c.args.at (sym c.self.view_is) c.requires.ready (c.is_open.ensures.open yes) in
    let up : is_up h ≡ true = (slot-of a x hosted c.args.at h is' here open-here).up in
    let state : c.index_mut.result.now ≡ state_of h = c.index_mut.ensures.value ∙ read-there c.self.inside.states.items c.args.at _ (state_of h) (state-there a x hosted c.args.at h is' here) in
    let points : c.base_points.new.points ≡ new = c.base_points.ensures ∙ ap (λ (s : State). based_points c.args.header.now s.points) (state ∙ state-up h up) in
    let still : folded new h.records ≡ new = folded-still new h.records (hosted-counts a x hosted c.args.at h is' here open-here) refl refl in
    let then = so c.points_on.result got c.points_on.ensures.slots in
    let read : c.index.result.now.points ≡ c.base_points.new.points = search rules in
    let seen : c.index.result.now.points ≡ new = read ∙ points in
    noted-hosting a (g.D.Device.disk c.points_on.new.dev) x _ hosted c.args.at h new is' here open-here refl
    (record {
      then = then.0;
      slots = then.1;
      spelled = subst IsPoints seen (so c.points_on.result got c.points_on.ensures.spelled);
      seals = λ s there. so c.points_on.result got (c.points_on.ensures.seals s then.0 there (put-there c.self.inside.stores c.points_on.new.stores c.args.at then.0 opened then.1));
      stands = λ tolds told stores at. subst (λ (p : Points). AreStores (g.D.Device.disk c.points_on.new.dev) c.points_on.new.stores (set tolds c.args.at (pointing told p))) seen (so c.points_on.result got (c.points_on.ensures.stands tells tolds told stores at));
    })
    (ap (λ (p : Points). set c.self.inside.states.items c.args.at (record c.index_mut.result.now { points = p })) points
    ∙ ap (λ (s : State). set c.self.inside.states.items c.args.at (record s { points = new })) (state ∙ state-up h up)
    ∙ ap (λ (p : Points). set c.self.inside.states.items c.args.at (record { points = p; job = h.job; transactions = h.transactions; known = None })) (sym still)
    ∙ ap (λ (s : State). set c.self.inside.states.items c.args.at s) (sym (state-up (pointed new h) up))))

pub returns-clause-crash : goal.returns-clause-crash
returns-clause-crash g c = λ tells hosted h is here.
    let a = g.D.Device.disk c.args.dev.now in
    let x : Kept = record { stores = c.self.inside.stores; states = c.self.inside.states.items } in
    let is' : IsHosting a x hosted = subst (λ (k : Kept). IsHosting a k hosted) (sym c.self.view_is) is in
    let new : Points = based_points c.args.header.now (folded h.points h.records) in
    let yes : c.is_open.result ≡ true = search rules in
    let open-here = opened-as x c.args.self.now c.args.at (sym c.self.view_is) c.requires.ready (c.is_open.ensures.open yes) in
    let up : is_up h ≡ true = (slot-of a x hosted c.args.at h is' here open-here).up in
    let state : c.index_mut.result.now ≡ state_of h = c.index_mut.ensures.value ∙ read-there c.self.inside.states.items c.args.at _ (state_of h) (state-there a x hosted c.args.at h is' here) in
    let points : c.base_points.new.points ≡ new = c.base_points.ensures ∙ ap (λ (s : State). based_points c.args.header.now s.points) (state ∙ state-up h up) in
    let read : c.index.result.now.points ≡ c.base_points.new.points = search rules in
    as-viewed (λ own. LeavesEither own hosted (set hosted c.args.at (basing c.args.header.now (folding h)))) x c.args.self.now c.self.view_is
    (noted-crash a (g.D.Device.disk c.points_on.new.dev) x hosted c.args.at h new is' here open-here refl
    (λ tolds told stores at. subst (λ (p : Points). NotesPoints c.self.inside.stores tolds c.args.at told p a (g.D.Device.disk c.points_on.new.dev)) (read ∙ points) (c.points_on.ensures.crash tells tolds told stores at)))

pub returns-then-not-is_open-clause-touches : goal.returns-then-not-is_open-clause-touches
returns-then-not-is_open-clause-touches g c = λ tells. none-touched (g.D.Device.disk c.args.dev.now)
