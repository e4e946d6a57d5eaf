use Rattle.std.proofs.Common.{rules, ◌≡◌, ◌∙◌, true, false, List, [], Option, None, Some, sym, ap}
use Rattle.std.specs.Prelude.{IsErrOf}
use Rattle.bk_known.specs.declared.known.Known.{Known}
use Rattle.bk_machine.specs.declared.job.Job.{Job}
use Rattle.bk_machine.specs.statements.Restore.{is_online}
use Rattle.bk_points.specs.declared.points.Points.{Points}
use Rattle.bk_device.specs.declared.trouble.Trouble.TheVariants.{Broken}
use Rattle.bk_world.specs.declared.transaction.Open.{Open}
use Rattle.bk_hosting.specs.Hosting.{known_at}
use Rattle.bk_hosting.proofs.Parked.{noted-as, parked-known, state-down}
use Rattle.bk_hosting.proofs.loading.noted_at.Goals as goal

pub returns-in_err-points-clause-broken : goal.returns-in_err-points-clause-broken
returns-in_err-points-clause-broken g c = λ tells broken tolds told h stores there tell down.
    let note : c.deref.result.now ≡ c.in_ok-known.note.items = search rules in
    let files : c.as_slice.result.now ≡ c.in_ok-known.known.spec.storage.files = search rules in
    let err : IsErrOf c.noted_points.result Broken = search rules in
    c.noted_points.ensures.broken err h.points (noted-as c.in_ok-known.known c.in_ok-known.note.items told h c.deref.result.now c.as_slice.result.now (c.in_ok-known.ensures.tells tells tolds told stores there) tell note files)

pub returns-then-is_online-clause-broken : goal.returns-then-is_online-clause-broken
returns-then-is_online-clause-broken g c = λ tells broken tolds told h stores there tell down.
    let note : c.deref.result.now ≡ c.in_ok-known.note.items = search rules in
    let files : c.as_slice.result.now ≡ c.in_ok-known.known.spec.storage.files = search rules in
    let points : c.in_ok-points.points ≡ h.points = c.in_ok-points.ensures.points h.points
    (noted-as c.in_ok-known.known c.in_ok-known.note.items told h c.deref.result.now c.as_slice.result.now (c.in_ok-known.ensures.tells tells tolds told stores there) tell note files) in
    let yes : c.is_online.result ≡ true = search rules in
    let online : c.is_online.result ≡ is_online c.in_ok-points.points.status = search rules in
    let both : true ≡ false = sym yes ∙ online ∙ ap (λ (p : Points). is_online p.status) points ∙ down in
    absurd (cc (both))

pub returns-clause-state : goal.returns-clause-state
returns-clause-state g c = λ tells tolds told h stores there tell down runs idle.
    let note : c.deref.result.now ≡ c.in_ok-known.note.items = search rules in
    let files : c.as_slice.result.now ≡ c.in_ok-known.known.spec.storage.files = search rules in
    let parked = c.in_ok-known.ensures.tells tells tolds told stores there in
    let points : c.in_ok-points.points ≡ h.points = c.in_ok-points.ensures.points h.points (noted-as c.in_ok-known.known c.in_ok-known.note.items told h c.deref.result.now c.as_slice.result.now parked tell note files) in
    let none : c.new-2.result ≡ [] = search rules in
    let known : c.in_ok-known.known ≡ known_at h = parked-known c.in_ok-known.known c.in_ok-known.note.items told h parked tell in
    ap (λ ts. record { points = c.in_ok-points.points; job = None; transactions = ts; known = Some c.in_ok-known.known }) none
    ∙ ap (λ (p : Points). record { points = p; job = None; transactions = []; known = Some c.in_ok-known.known }) points
    ∙ ap (λ (k : Known). record { points = h.points; job = None; transactions = []; known = Some k }) known
    ∙ ap (λ (o : Option Job). record { points = h.points; job = o; transactions = []; known = Some (known_at h) }) (sym runs)
    ∙ ap (λ (ts : List Open). record { points = h.points; job = h.job; transactions = ts; known = Some (known_at h) }) (sym idle) ∙ sym (state-down h down)
