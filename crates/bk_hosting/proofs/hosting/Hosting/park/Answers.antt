use Rattle.std.proofs.Common.{rules, ◌≡◌, ◌≤◌, ◌∙◌, ℕ, false, List, [], ◌∷◌, ◌++◌, length, None, Some, inl, sym, ap, subst}
use Rattle.bk_device.specs.Compose.{effect_weaken}
use Rattle.bk_points.specs.Points.{points_bytes}
use Rattle.bk_stores.specs.Parking.{IsParked}
use Rattle.bk_stores.specs.Stores.{Fixed, fixed_of}
use Rattle.bk_stores.specs.TouchLaws.{none-touched}
use Rattle.bk_hosting.specs.declared.hosting.State.{State}
use Rattle.bk_hosting.specs.Hosting.{IsHosting, Kept, LeavesEither, Tells, state_of}
use Rattle.bk_hosting.proofs.Checked.{as-viewed, rest-hosted}
use Rattle.bk_hosting.proofs.MadeHosted.{more-crash, more-hosting, stored-more}
use Rattle.bk_hosting.proofs.Parked.{parked-tells, state-down, told-parked, told_of}
use Rattle.bk_hosting.proofs.hosting.Hosting.park.Goals as goal

pub returns-then-count-ge16-clause-crash : goal.returns-then-count-ge16-clause-crash
returns-then-count-ge16-clause-crash g c = λ tells hosted h is parks. effect_weaken (λ image before. inl before) (rest-hosted (g.D.Device.disk c.args.dev.now) c.args.self.now hosted is)

pub returns-in_err-note-clause-crash : goal.returns-in_err-note-clause-crash
returns-in_err-note-clause-crash g c = λ tells hosted h is parks. effect_weaken (λ image before. inl before) (rest-hosted (g.D.Device.disk c.args.dev.now) c.args.self.now hosted is)

pub returns-in_err-park_new-clause-crash : goal.returns-in_err-park_new-clause-crash
returns-in_err-park_new-clause-crash g c = λ tells hosted h is parks.
    let a = g.D.Device.disk c.args.dev.now in
    let x : Kept = record { stores = c.self.inside.stores; states = c.self.inside.states.items } in
    let is' : IsHosting a x hosted = subst (λ (k : Kept). IsHosting a k hosted) (sym c.self.view_is) is in
    let note : c.deref.result.now ≡ points_bytes c.args.points = search rules in
    let parked : IsParked c.args.known (points_bytes c.args.points) (told_of h) = told-parked c.args.known c.args.points h parks c.requires.keeps c.in_ok-note.ensures.spelled (let short = c.in_ok-note.ensures.short in let is_note : c.in_ok-note.note.items ≡ points_bytes c.args.points = search rules in subst (λ (bs : List ℕ). length bs ≤ 12288) is_note short) in
    let parked-parks : IsParked c.args.known c.deref.result.now (told_of h) = subst (λ (bs : List ℕ). IsParked c.args.known bs (told_of h)) (sym note) parked in
    let tell : Tells (told_of h) h = parked-tells c.args.known c.args.points h parks c.in_ok-note.ensures.spelled in
    as-viewed (λ own. LeavesEither own hosted (hosted ++ h ∷ [])) x c.args.self.now c.self.view_is
    (more-crash a (g.D.Device.disk c.park_new.new.dev) x hosted is' (told_of h) h tell parks.some false (sym parks.down) (c.park_new.ensures.crash tells is'.tolds (told_of h) is'.stores parked-parks))

pub returns-in_err-push-clause-crash : goal.returns-in_err-push-clause-crash
returns-in_err-push-clause-crash g c = λ tells hosted h is parks.
    let a = g.D.Device.disk c.args.dev.now in
    let x : Kept = record { stores = c.self.inside.stores; states = c.self.inside.states.items } in
    let is' : IsHosting a x hosted = subst (λ (k : Kept). IsHosting a k hosted) (sym c.self.view_is) is in
    let note : c.deref.result.now ≡ points_bytes c.args.points = search rules in
    let parked : IsParked c.args.known (points_bytes c.args.points) (told_of h) = told-parked c.args.known c.args.points h parks c.requires.keeps c.in_ok-note.ensures.spelled (let short = c.in_ok-note.ensures.short in let is_note : c.in_ok-note.note.items ≡ points_bytes c.args.points = search rules in subst (λ (bs : List ℕ). length bs ≤ 12288) is_note short) in
    let parked-parks : IsParked c.args.known c.deref.result.now (told_of h) = subst (λ (bs : List ℕ). IsParked c.args.known bs (told_of h)) (sym note) parked in
    let tell : Tells (told_of h) h = parked-tells c.args.known c.args.points h parks c.in_ok-note.ensures.spelled in
    as-viewed (λ own. LeavesEither own hosted (hosted ++ h ∷ [])) x c.args.self.now c.self.view_is
    (more-crash a (g.D.Device.disk c.park_new.new.dev) x hosted is' (told_of h) h tell parks.some false (sym parks.down) (c.park_new.ensures.crash tells is'.tolds (told_of h) is'.stores parked-parks))

pub returns-clause-crash : goal.returns-clause-crash
returns-clause-crash g c = λ tells hosted h is parks.
    let a = g.D.Device.disk c.args.dev.now in
    let x : Kept = record { stores = c.self.inside.stores; states = c.self.inside.states.items } in
    let is' : IsHosting a x hosted = subst (λ (k : Kept). IsHosting a k hosted) (sym c.self.view_is) is in
    let note : c.deref.result.now ≡ points_bytes c.args.points = search rules in
    let parked : IsParked c.args.known (points_bytes c.args.points) (told_of h) = told-parked c.args.known c.args.points h parks c.requires.keeps c.in_ok-note.ensures.spelled (let short = c.in_ok-note.ensures.short in let is_note : c.in_ok-note.note.items ≡ points_bytes c.args.points = search rules in subst (λ (bs : List ℕ). length bs ≤ 12288) is_note short) in
    let parked-parks : IsParked c.args.known c.deref.result.now (told_of h) = subst (λ (bs : List ℕ). IsParked c.args.known bs (told_of h)) (sym note) parked in
    let tell : Tells (told_of h) h = parked-tells c.args.known c.args.points h parks c.in_ok-note.ensures.spelled in
    as-viewed (λ own. LeavesEither own hosted (hosted ++ h ∷ [])) x c.args.self.now c.self.view_is
    (more-crash a (g.D.Device.disk c.park_new.new.dev) x hosted is' (told_of h) h tell parks.some false (sym parks.down) (c.park_new.ensures.crash tells is'.tolds (told_of h) is'.stores parked-parks))

pub returns-clause-stands : goal.returns-clause-stands
returns-clause-stands g c = λ tells hosted h is parks.
    let a = g.D.Device.disk c.args.dev.now in
    let x : Kept = record { stores = c.self.inside.stores; states = c.self.inside.states.items } in
    let is' : IsHosting a x hosted = subst (λ (k : Kept). IsHosting a k hosted) (sym c.self.view_is) is in
    let note : c.deref.result.now ≡ points_bytes c.args.points = search rules in
    let parked : IsParked c.args.known (points_bytes c.args.points) (told_of h) = told-parked c.args.known c.args.points h parks c.requires.keeps c.in_ok-note.ensures.spelled (let short = c.in_ok-note.ensures.short in let is_note : c.in_ok-note.note.items ≡ points_bytes c.args.points = search rules in subst (λ (bs : List ℕ). length bs ≤ 12288) is_note short) in
    let parked-parks : IsParked c.args.known c.deref.result.now (told_of h) = subst (λ (bs : List ℕ). IsParked c.args.known bs (told_of h)) (sym note) parked in
    let tell : Tells (told_of h) h = parked-tells c.args.known c.args.points h parks c.in_ok-note.ensures.spelled in
    let put : State = record { points = c.args.points; job = None; transactions = []; known = Some c.args.known } in
    let pushed : c.push.new.self.items ≡ c.self.inside.states.items ++ put ∷ [] = search rules in
    let state : put ≡ state_of h = ap (λ p. record { points = p; job = None; transactions = []; known = Some c.args.known }) parks.points_are ∙ ap (λ o. record { points = h.points; job = o; transactions = []; known = Some c.args.known }) (sym parks.runs)
    ∙ ap (λ ts. record { points = h.points; job = h.job; transactions = ts; known = Some c.args.known }) (sym parks.idle)
    ∙ ap (λ k. record { points = h.points; job = h.job; transactions = h.transactions; known = Some k }) parks.known_is ∙ sym (state-down h parks.down) in
    more-hosting a (g.D.Device.disk c.park_new.new.dev) x hosted is' (told_of h) h tell parks.some (record { stores = c.park_new.new.self; states = c.push.new.self.items }) None c.in_ok-park_new.ensures.slots
    (ap (λ (f : Fixed). f.stored) c.in_ok-park_new.ensures.fixed ∙ stored-more (fixed_of x.stores.master.record) hosted false h is'.stored (sym parks.down))
    (c.in_ok-park_new.ensures.stands tells is'.tolds (told_of h) is'.stores parked-parks) (parks.down, parks.idle) (pushed ∙ ap (λ (s : State). c.self.inside.states.items ++ s ∷ []) state)

pub returns-then-count-ge16-clause-touches : goal.returns-then-count-ge16-clause-touches
returns-then-count-ge16-clause-touches g c = λ tells. none-touched (g.D.Device.disk c.args.dev.now)

pub returns-in_err-note-clause-touches : goal.returns-in_err-note-clause-touches
returns-in_err-note-clause-touches g c = λ tells. none-touched (g.D.Device.disk c.args.dev.now)
