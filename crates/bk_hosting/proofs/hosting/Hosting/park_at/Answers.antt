use Rattle.std.proofs.Common.{rules, ◌≡◌, ◌≤◌, ◌∙◌, ℕ, false, List, [], length, None, Some, inl, set, sym, ap, subst}
use Rattle.bk_device.specs.Compose.{effect_weaken}
use Rattle.bk_points.specs.Points.{points_bytes}
use Rattle.bk_stores.specs.Parking.{IsParked}
use Rattle.bk_stores.specs.Standing.{AreStanding}
use Rattle.bk_stores.specs.Stores.{Fixed, fixed_of}
use Rattle.bk_stores.specs.TouchLaws.{none-touched}
use Rattle.bk_hosting.specs.declared.hosting.State.{State}
use Rattle.bk_hosting.specs.Hosting.{IsHosting, Kept, LeavesEither, Tells, state_of}
use Rattle.bk_hosting.specs.Making.{ArePathsAt}
use Rattle.bk_hosting.proofs.Checked.{as-viewed, rest-hosted}
use Rattle.bk_hosting.proofs.DroppedHosted.{may-remove, others-unused, paths-there}
use Rattle.bk_hosting.proofs.Parked.{parked-tells, put-crash, put-hosting, state-down, stored-set, told-parked, told_of}
use Rattle.bk_hosting.proofs.hosting.Hosting.park_at.Goals as goal

pub returns-in_err-note-clause-crash : goal.returns-in_err-note-clause-crash
returns-in_err-note-clause-crash g c = λ tells hosted old h is here parks. effect_weaken (λ image before. inl before) (rest-hosted (g.D.Device.disk c.args.dev.now) c.args.self.now hosted is)

pub returns-in_err-paths-clause-crash : goal.returns-in_err-paths-clause-crash
returns-in_err-paths-clause-crash g c = λ tells hosted old h is here parks. effect_weaken (λ image before. inl before) (rest-hosted (g.D.Device.disk c.args.dev.now) c.args.self.now hosted is)

pub park_at-requires-clause-unused : goal.park_at-requires-clause-unused
park_at-requires-clause-unused g c = λ tells.
    let a = g.D.Device.disk c.args.dev.now in
    let found = paths-there c.args.self.now c.self.inside.stores c.args.at c.in_ok-paths.paths.items (ap (λ (k : Kept). k.stores) c.self.view_is) c.in_ok-paths.ensures.paths in
    let named : c.deref-2.result.now ≡ c.in_ok-paths.paths.items = search rules in
    others-unused a c.self.inside.stores c.args.at c.deref-2.result.now (subst (λ (k : Kept). AreStanding a k.stores) (sym c.self.view_is) (c.requires.standing tells)) (subst (ArePathsAt c.self.inside.stores.slots c.args.at) (sym named) found)

pub returns-in_err-park_at-clause-crash : goal.returns-in_err-park_at-clause-crash
returns-in_err-park_at-clause-crash g c = λ tells hosted old h is here parks.
    let a = g.D.Device.disk c.args.dev.now in
    let x : Kept = record { stores = c.self.inside.stores; states = c.self.inside.states.items } in
    let is' : IsHosting a x hosted = subst (λ (k : Kept). IsHosting a k hosted) (sym c.self.view_is) is in
    let note : c.deref.result.now ≡ points_bytes c.args.points = search rules in
    let parked : IsParked c.args.known (points_bytes c.args.points) (told_of h) = told-parked c.args.known c.args.points h parks c.requires.keeps c.in_ok-note.ensures.spelled (let short = c.in_ok-note.ensures.short in let is_note : c.in_ok-note.note.items ≡ points_bytes c.args.points = search rules in subst (λ (bs : List ℕ). length bs ≤ 12288) is_note short) in
    let parked-parks : IsParked c.args.known c.deref.result.now (told_of h) = subst (λ (bs : List ℕ). IsParked c.args.known bs (told_of h)) (sym note) parked in
    let tell : Tells (told_of h) h = parked-tells c.args.known c.args.points h parks c.in_ok-note.ensures.spelled in
    let named : c.deref-2.result.now ≡ c.in_ok-paths.paths.items = search rules in
    let found = paths-there c.args.self.now c.self.inside.stores c.args.at c.in_ok-paths.paths.items (ap (λ (k : Kept). k.stores) c.self.view_is) c.in_ok-paths.ensures.paths in
    let may = may-remove a x hosted c.args.at old c.deref-2.result.now is' here (subst (ArePathsAt c.self.inside.stores.slots c.args.at) (sym named) found) in
    as-viewed (λ own. LeavesEither own hosted (set hosted c.args.at h)) x c.args.self.now c.self.view_is
    (put-crash a (g.D.Device.disk c.park_at.new.dev) x hosted c.args.at old h may.0 (told_of h) None is' here may.1 tell parks.some false (sym parks.down) (c.park_at.ensures.crash tells is'.tolds may.0 (told_of h) is'.stores may.3 parked-parks))

pub returns-clause-crash : goal.returns-clause-crash
returns-clause-crash g c = λ tells hosted old h is here parks.
    let a = g.D.Device.disk c.args.dev.now in
    let x : Kept = record { stores = c.self.inside.stores; states = c.self.inside.states.items } in
    let is' : IsHosting a x hosted = subst (λ (k : Kept). IsHosting a k hosted) (sym c.self.view_is) is in
    let note : c.deref.result.now ≡ points_bytes c.args.points = search rules in
    let parked : IsParked c.args.known (points_bytes c.args.points) (told_of h) = told-parked c.args.known c.args.points h parks c.requires.keeps c.in_ok-note.ensures.spelled (let short = c.in_ok-note.ensures.short in let is_note : c.in_ok-note.note.items ≡ points_bytes c.args.points = search rules in subst (λ (bs : List ℕ). length bs ≤ 12288) is_note short) in
    let parked-parks : IsParked c.args.known c.deref.result.now (told_of h) = subst (λ (bs : List ℕ). IsParked c.args.known bs (told_of h)) (sym note) parked in
    let tell : Tells (told_of h) h = parked-tells c.args.known c.args.points h parks c.in_ok-note.ensures.spelled in
    let named : c.deref-2.result.now ≡ c.in_ok-paths.paths.items = search rules in
    let found = paths-there c.args.self.now c.self.inside.stores c.args.at c.in_ok-paths.paths.items (ap (λ (k : Kept). k.stores) c.self.view_is) c.in_ok-paths.ensures.paths in
    let may = may-remove a x hosted c.args.at old c.deref-2.result.now is' here (subst (ArePathsAt c.self.inside.stores.slots c.args.at) (sym named) found) in
    as-viewed (λ own. LeavesEither own hosted (set hosted c.args.at h)) x c.args.self.now c.self.view_is
    (put-crash a (g.D.Device.disk c.park_at.new.dev) x hosted c.args.at old h may.0 (told_of h) None is' here may.1 tell parks.some false (sym parks.down) (c.park_at.ensures.crash tells is'.tolds may.0 (told_of h) is'.stores may.3 parked-parks))

pub returns-clause-stands : goal.returns-clause-stands
returns-clause-stands g c = λ tells hosted old h is here parks.
    let a = g.D.Device.disk c.args.dev.now in
    let x : Kept = record { stores = c.self.inside.stores; states = c.self.inside.states.items } in
    let is' : IsHosting a x hosted = subst (λ (k : Kept). IsHosting a k hosted) (sym c.self.view_is) is in
    let note : c.deref.result.now ≡ points_bytes c.args.points = search rules in
    let parked : IsParked c.args.known (points_bytes c.args.points) (told_of h) = told-parked c.args.known c.args.points h parks c.requires.keeps c.in_ok-note.ensures.spelled (let short = c.in_ok-note.ensures.short in let is_note : c.in_ok-note.note.items ≡ points_bytes c.args.points = search rules in subst (λ (bs : List ℕ). length bs ≤ 12288) is_note short) in
    let parked-parks : IsParked c.args.known c.deref.result.now (told_of h) = subst (λ (bs : List ℕ). IsParked c.args.known bs (told_of h)) (sym note) parked in
    let tell : Tells (told_of h) h = parked-tells c.args.known c.args.points h parks c.in_ok-note.ensures.spelled in
    let named : c.deref-2.result.now ≡ c.in_ok-paths.paths.items = search rules in
    let found = paths-there c.args.self.now c.self.inside.stores c.args.at c.in_ok-paths.paths.items (ap (λ (k : Kept). k.stores) c.self.view_is) c.in_ok-paths.ensures.paths in
    let may = may-remove a x hosted c.args.at old c.deref-2.result.now is' here (subst (ArePathsAt c.self.inside.stores.slots c.args.at) (sym named) found) in
    let put : State = record { points = c.args.points; job = None; transactions = []; known = Some c.args.known } in
    let state : put ≡ state_of h = ap (λ p. record { points = p; job = None; transactions = []; known = Some c.args.known }) parks.points_are ∙ ap (λ o. record { points = h.points; job = o; transactions = []; known = Some c.args.known }) (sym parks.runs)
    ∙ ap (λ ts. record { points = h.points; job = h.job; transactions = ts; known = Some c.args.known }) (sym parks.idle)
    ∙ ap (λ k. record { points = h.points; job = h.job; transactions = h.transactions; known = Some k }) parks.known_is ∙ sym (state-down h parks.down) in
    let kept : c.put_state.new.states.items ≡ set c.self.inside.states.items c.args.at put = search rules in
    put-hosting a (g.D.Device.disk c.park_at.new.dev) x hosted c.args.at old h may.0 (told_of h) None is' here may.1 tell parks.some (record { stores = c.park_at.new.self; states = c.put_state.new.states.items }) c.in_ok-park_at.ensures.slots
    (ap (λ (f : Fixed). f.stored) c.in_ok-park_at.ensures.fixed ∙ stored-set a (g.D.Device.disk c.park_at.new.dev) x hosted c.args.at old h may.0 (told_of h) None is' here may.1 tell parks.some (fixed_of x.stores.master.record) false is'.stored (sym parks.down))
    (c.in_ok-park_at.ensures.stands tells is'.tolds may.0 (told_of h) is'.stores may.3 parked-parks) (parks.down, parks.idle) (kept ∙ ap (λ (s : State). set c.self.inside.states.items c.args.at s) state)

pub returns-in_err-note-clause-touches : goal.returns-in_err-note-clause-touches
returns-in_err-note-clause-touches g c = λ tells. none-touched (g.D.Device.disk c.args.dev.now)

pub returns-in_err-paths-clause-touches : goal.returns-in_err-paths-clause-touches
returns-in_err-paths-clause-touches g c = λ tells. none-touched (g.D.Device.disk c.args.dev.now)
