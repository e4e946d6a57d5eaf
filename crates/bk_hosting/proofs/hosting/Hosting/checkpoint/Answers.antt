use Rattle.std.proofs.Common.{rules, true, None, inl, ◌≡◌, ◌∙◌, List, Some, refl, sym, ap, subst, set}
use Rattle.std.specs.Prelude.{slice_get}
use Rattle.bk_device.specs.Compose.{effect_weaken, effect_then}
use Rattle.bk_device.specs.Effects.{Effect}
use Rattle.bk_hosted.specs.Hosted.{Hosted, awaiting, folded, is_up}
use Rattle.bk_points.specs.declared.points.Points.{Points}
use Rattle.bk_points.specs.Points.{IsPoints}
use Rattle.bk_stores.specs.ListLaws.{got-inside, got-set}
use Rattle.bk_stores.specs.Stores.{AreStores, IsOurs, Kept as KeptStores}
use Rattle.bk_stores.specs.TouchLaws.{none-touched}
use Rattle.bk_hosting.specs.declared.hosting.State.{State}
use Rattle.bk_hosting.specs.Checkpointing.{LeavesChecked, checked, to_check}
use Rattle.bk_hosting.specs.Hosting.{IsHosting, IsOpenAt, IsReady, Kept, LeavesEither, own_of, state_of}
use Rattle.bk_hosting.specs.Saying.{NotesPoints, pointing}
use Rattle.bk_hosting.proofs.Checked.{as-viewed, awaited-is, behind, checked-crash, checked-noted, either-as, end-there, marked-crash, marked-hosting, rest-hosted, taken-in}
use Rattle.bk_hosting.proofs.Lists.{set-set}
use Rattle.bk_hosting.proofs.NotedHosted.{hosted-counts, noted-crash, noted-hosting, state-there}
use Rattle.bk_hosting.proofs.SaidHosted.{open-there, put-there, read-there, slot-of, state-up}
use Rattle.bk_hosting.proofs.hosting.Hosting.checkpoint.Goals as goal

pub returns-in_default-clause-crash : goal.returns-in_default-clause-crash
returns-in_default-clause-crash g c = λ tells hosted h is here. effect_weaken (λ image before. inl before) (rest-hosted (g.D.Device.disk c.args.dev.now) c.args.self.now hosted is)

pub points_on-requires-clause-opened : goal.points_on-requires-clause-opened
points_on-requires-clause-opened g c =
    let x : Kept = record { stores = c.self.inside.stores; states = c.self.inside.states.items } in
    let filled : slice_get c.self.inside.stores.slots c.args.at ≡ Some (Some c.in-Some.store.now) = search rules in
    open-there x c.args.at (subst IsReady (sym c.self.view_is) c.requires.ready) (c.in-Some.store.now, filled)

pub mark_on-requires-clause-opened : goal.mark_on-requires-clause-opened
mark_on-requires-clause-opened g c =
    let x : Kept = record { stores = c.self.inside.stores; states = c.self.inside.states.items } in
    let filled : slice_get c.self.inside.stores.slots c.args.at ≡ Some (Some c.in-Some.store.now) = search rules in
    let opened = open-there x c.args.at (subst IsReady (sym c.self.view_is) c.requires.ready) (c.in-Some.store.now, filled) in
    let then = c.in_ok-points_on.ensures.slots in
    (then.0, put-there c.self.inside.stores c.points_on.new.stores c.args.at then.0 opened then.1, then.2)

pub returns-in_err-points_on-clause-crash : goal.returns-in_err-points_on-clause-crash
returns-in_err-points_on-clause-crash g c = λ tells hosted h is here.
    let a = g.D.Device.disk c.args.dev.now in
    let x : Kept = record { stores = c.self.inside.stores; states = c.self.inside.states.items } in
    let is' : IsHosting a x hosted = subst (λ (k : Kept). IsHosting a k hosted) (sym c.self.view_is) is in
    let new : Points = awaiting h.points h.records c.args.kept in
    let state : c.index_mut.result.now ≡ state_of h = c.index_mut.ensures.value ∙ read-there c.self.inside.states.items c.args.at _ (state_of h) (state-there a x hosted c.args.at h is' here) in
    let filled : slice_get c.self.inside.stores.slots c.args.at ≡ Some (Some c.in-Some.store.now) = search rules in
    let ends : c.end-end.result ≡ c.in-Some.store.now.paged.log.end = search rules in
    let open-here = open-there x c.args.at (subst IsReady (sym c.self.view_is) c.requires.ready) (c.in-Some.store.now, filled) in
    let up : is_up h ≡ true = (slot-of a x hosted c.args.at h is' here open-here).up in
    let points : c.await_checkpoint.new.points ≡ new = awaited-is h c.index_mut.result.now c.end-end.result c.args.kept c.await_checkpoint.new.points up c.await_checkpoint.ensures state (ends ∙ end-there a x hosted c.args.at h c.in-Some.store.now is' here filled) in
    let read : c.index.result.now.points ≡ c.await_checkpoint.new.points = search rules in
    let b = g.D.Device.disk c.points_on.new.dev in
    let noted : Effect IsOurs (LeavesEither (own_of x) hosted (set hosted c.args.at (to_check h c.args.kept))) a b = noted-crash a b x hosted c.args.at h new is' here open-here refl
    (λ tolds told stores at. subst (λ (p : Points). NotesPoints c.self.inside.stores tolds c.args.at told p a b) (read ∙ points) (c.points_on.ensures.crash tells tolds told stores at)) in
    as-viewed (λ own. LeavesChecked own hosted c.args.at h c.args.time c.args.kept) x c.args.self.now c.self.view_is (checked-noted a b (own_of x) hosted c.args.at h c.args.time c.args.kept noted)

pub returns-in_err-mark_on-clause-crash : goal.returns-in_err-mark_on-clause-crash
returns-in_err-mark_on-clause-crash g c = λ tells hosted h is here.
    let a = g.D.Device.disk c.args.dev.now in
    let x : Kept = record { stores = c.self.inside.stores; states = c.self.inside.states.items } in
    let is' : IsHosting a x hosted = subst (λ (k : Kept). IsHosting a k hosted) (sym c.self.view_is) is in
    let new : Points = awaiting h.points h.records c.args.kept in
    let state : c.index_mut.result.now ≡ state_of h = c.index_mut.ensures.value ∙ read-there c.self.inside.states.items c.args.at _ (state_of h) (state-there a x hosted c.args.at h is' here) in
    let filled : slice_get c.self.inside.stores.slots c.args.at ≡ Some (Some c.in-Some.store.now) = search rules in
    let ends : c.end-end.result ≡ c.in-Some.store.now.paged.log.end = search rules in
    let open-here = open-there x c.args.at (subst IsReady (sym c.self.view_is) c.requires.ready) (c.in-Some.store.now, filled) in
    let up : is_up h ≡ true = (slot-of a x hosted c.args.at h is' here open-here).up in
    let points : c.await_checkpoint.new.points ≡ new = awaited-is h c.index_mut.result.now c.end-end.result c.args.kept c.await_checkpoint.new.points up c.await_checkpoint.ensures state (ends ∙ end-there a x hosted c.args.at h c.in-Some.store.now is' here filled) in
    let read : c.index.result.now.points ≡ c.await_checkpoint.new.points = search rules in
    let b = g.D.Device.disk c.points_on.new.dev in
    let noted : Effect IsOurs (LeavesEither (own_of x) hosted (set hosted c.args.at (to_check h c.args.kept))) a b = noted-crash a b x hosted c.args.at h new is' here open-here refl
    (λ tolds told stores at. subst (λ (p : Points). NotesPoints c.self.inside.stores tolds c.args.at told p a b) (read ∙ points) (c.points_on.ensures.crash tells tolds told stores at)) in
    let opened = open-there x c.args.at (subst IsReady (sym c.self.view_is) c.requires.ready) (c.in-Some.store.now, filled) in
    let then = c.in_ok-points_on.ensures.slots in
    let mid : Kept = record { stores = c.points_on.new.stores; states = set c.self.inside.states.items c.args.at (state_of (to_check h c.args.kept)) } in
    let mid-is : IsHosting b mid (set hosted c.args.at (to_check h c.args.kept)) = noted-hosting a b x mid hosted c.args.at h new is' here open-here refl
    (record {
      then = then.0;
      slots = then.1;
      spelled = subst IsPoints (read ∙ points) c.in_ok-points_on.ensures.spelled;
      seals = λ s there. c.in_ok-points_on.ensures.seals s then.0 there (put-there c.self.inside.stores c.points_on.new.stores c.args.at then.0 opened then.1);
      stands = λ tolds told stores at. subst (λ (p : Points). AreStores b c.points_on.new.stores (set tolds c.args.at (pointing told p))) (read ∙ points) (c.in_ok-points_on.ensures.stands tells tolds told stores at);
    }) refl in
    let mid-open : IsOpenAt c.points_on.new.stores.slots c.args.at = (then.0, put-there c.self.inside.stores c.points_on.new.stores c.args.at then.0 opened then.1, then.2) in
    let there : slice_get (set hosted c.args.at (to_check h c.args.kept)) c.args.at ≡ Some (to_check h c.args.kept) = got-set hosted c.args.at (to_check h c.args.kept) (got-inside hosted c.args.at h here) in
    as-viewed (λ own. LeavesChecked own hosted c.args.at h c.args.time c.args.kept) x c.args.self.now c.self.view_is
    (checked-crash a b (g.D.Device.disk c.mark_on.new.dev) (own_of x) hosted c.args.at h c.args.time c.args.kept noted
    (either-as (set hosted c.args.at (to_check h c.args.kept)) (set (set hosted c.args.at (to_check h c.args.kept)) c.args.at (behind (to_check h c.args.kept) c.args.time)) (ap (λ (k : KeptStores). k.master.record.own) then.1) (marked-crash b (g.D.Device.disk c.mark_on.new.dev) mid (set hosted c.args.at (to_check h c.args.kept)) c.args.at (to_check h c.args.kept) c.args.time mid-is there mid-open (c.mark_on.ensures.crash tells))))

pub returns-clause-crash : goal.returns-clause-crash
returns-clause-crash g c = λ tells hosted h is here.
    let a = g.D.Device.disk c.args.dev.now in
    let x : Kept = record { stores = c.self.inside.stores; states = c.self.inside.states.items } in
    let is' : IsHosting a x hosted = subst (λ (k : Kept). IsHosting a k hosted) (sym c.self.view_is) is in
    let new : Points = awaiting h.points h.records c.args.kept in
    let state : c.index_mut.result.now ≡ state_of h = c.index_mut.ensures.value ∙ read-there c.self.inside.states.items c.args.at _ (state_of h) (state-there a x hosted c.args.at h is' here) in
    let filled : slice_get c.self.inside.stores.slots c.args.at ≡ Some (Some c.in-Some.store.now) = search rules in
    let ends : c.end-end.result ≡ c.in-Some.store.now.paged.log.end = search rules in
    let open-here = open-there x c.args.at (subst IsReady (sym c.self.view_is) c.requires.ready) (c.in-Some.store.now, filled) in
    let up : is_up h ≡ true = (slot-of a x hosted c.args.at h is' here open-here).up in
    let points : c.await_checkpoint.new.points ≡ new = awaited-is h c.index_mut.result.now c.end-end.result c.args.kept c.await_checkpoint.new.points up c.await_checkpoint.ensures state (ends ∙ end-there a x hosted c.args.at h c.in-Some.store.now is' here filled) in
    let read : c.index.result.now.points ≡ c.await_checkpoint.new.points = search rules in
    let b = g.D.Device.disk c.points_on.new.dev in
    let noted : Effect IsOurs (LeavesEither (own_of x) hosted (set hosted c.args.at (to_check h c.args.kept))) a b = noted-crash a b x hosted c.args.at h new is' here open-here refl
    (λ tolds told stores at. subst (λ (p : Points). NotesPoints c.self.inside.stores tolds c.args.at told p a b) (read ∙ points) (c.points_on.ensures.crash tells tolds told stores at)) in
    let opened = open-there x c.args.at (subst IsReady (sym c.self.view_is) c.requires.ready) (c.in-Some.store.now, filled) in
    let then = c.in_ok-points_on.ensures.slots in
    let mid : Kept = record { stores = c.points_on.new.stores; states = set c.self.inside.states.items c.args.at (state_of (to_check h c.args.kept)) } in
    let mid-is : IsHosting b mid (set hosted c.args.at (to_check h c.args.kept)) = noted-hosting a b x mid hosted c.args.at h new is' here open-here refl
    (record {
      then = then.0;
      slots = then.1;
      spelled = subst IsPoints (read ∙ points) c.in_ok-points_on.ensures.spelled;
      seals = λ s there. c.in_ok-points_on.ensures.seals s then.0 there (put-there c.self.inside.stores c.points_on.new.stores c.args.at then.0 opened then.1);
      stands = λ tolds told stores at. subst (λ (p : Points). AreStores b c.points_on.new.stores (set tolds c.args.at (pointing told p))) (read ∙ points) (c.in_ok-points_on.ensures.stands tells tolds told stores at);
    }) refl in
    let mid-open : IsOpenAt c.points_on.new.stores.slots c.args.at = (then.0, put-there c.self.inside.stores c.points_on.new.stores c.args.at then.0 opened then.1, then.2) in
    let there : slice_get (set hosted c.args.at (to_check h c.args.kept)) c.args.at ≡ Some (to_check h c.args.kept) = got-set hosted c.args.at (to_check h c.args.kept) (got-inside hosted c.args.at h here) in
    as-viewed (λ own. LeavesChecked own hosted c.args.at h c.args.time c.args.kept) x c.args.self.now c.self.view_is
    (checked-crash a b (g.D.Device.disk c.mark_on.new.dev) (own_of x) hosted c.args.at h c.args.time c.args.kept noted
    (either-as (set hosted c.args.at (to_check h c.args.kept)) (set (set hosted c.args.at (to_check h c.args.kept)) c.args.at (behind (to_check h c.args.kept) c.args.time)) (ap (λ (k : KeptStores). k.master.record.own) then.1) (marked-crash b (g.D.Device.disk c.mark_on.new.dev) mid (set hosted c.args.at (to_check h c.args.kept)) c.args.at (to_check h c.args.kept) c.args.time mid-is there mid-open (c.mark_on.ensures.crash tells))))

pub returns-clause-stands : goal.returns-clause-stands
returns-clause-stands g c = λ tells hosted h is here.
    let a = g.D.Device.disk c.args.dev.now in
    let x : Kept = record { stores = c.self.inside.stores; states = c.self.inside.states.items } in
    let is' : IsHosting a x hosted = subst (λ (k : Kept). IsHosting a k hosted) (sym c.self.view_is) is in
    let new : Points = awaiting h.points h.records c.args.kept in
    let state : c.index_mut.result.now ≡ state_of h = c.index_mut.ensures.value ∙ read-there c.self.inside.states.items c.args.at _ (state_of h) (state-there a x hosted c.args.at h is' here) in
    let filled : slice_get c.self.inside.stores.slots c.args.at ≡ Some (Some c.in-Some.store.now) = search rules in
    let ends : c.end-end.result ≡ c.in-Some.store.now.paged.log.end = search rules in
    let open-here = open-there x c.args.at (subst IsReady (sym c.self.view_is) c.requires.ready) (c.in-Some.store.now, filled) in
    let up : is_up h ≡ true = (slot-of a x hosted c.args.at h is' here open-here).up in
    let points : c.await_checkpoint.new.points ≡ new = awaited-is h c.index_mut.result.now c.end-end.result c.args.kept c.await_checkpoint.new.points up c.await_checkpoint.ensures state (ends ∙ end-there a x hosted c.args.at h c.in-Some.store.now is' here filled) in
    let read : c.index.result.now.points ≡ c.await_checkpoint.new.points = search rules in
    let b = g.D.Device.disk c.points_on.new.dev in
    let opened = open-there x c.args.at (subst IsReady (sym c.self.view_is) c.requires.ready) (c.in-Some.store.now, filled) in
    let then = c.in_ok-points_on.ensures.slots in
    let mid : Kept = record { stores = c.points_on.new.stores; states = set c.self.inside.states.items c.args.at (state_of (to_check h c.args.kept)) } in
    let mid-is : IsHosting b mid (set hosted c.args.at (to_check h c.args.kept)) = noted-hosting a b x mid hosted c.args.at h new is' here open-here refl
    (record {
      then = then.0;
      slots = then.1;
      spelled = subst IsPoints (read ∙ points) c.in_ok-points_on.ensures.spelled;
      seals = λ s there. c.in_ok-points_on.ensures.seals s then.0 there (put-there c.self.inside.stores c.points_on.new.stores c.args.at then.0 opened then.1);
      stands = λ tolds told stores at. subst (λ (p : Points). AreStores b c.points_on.new.stores (set tolds c.args.at (pointing told p))) (read ∙ points) (c.in_ok-points_on.ensures.stands tells tolds told stores at);
    }) refl in
    let mid-open : IsOpenAt c.points_on.new.stores.slots c.args.at = (then.0, put-there c.self.inside.stores c.points_on.new.stores c.args.at then.0 opened then.1, then.2) in
    let there : slice_get (set hosted c.args.at (to_check h c.args.kept)) c.args.at ≡ Some (to_check h c.args.kept) = got-set hosted c.args.at (to_check h c.args.kept) (got-inside hosted c.args.at h here) in
    let last = c.in_ok-mark_on.ensures.slots in
    let counts = hosted-counts a x hosted c.args.at h is' here open-here in
    let items = c.self.inside.states.items in
    let awaited : c.index_mut-2.result.now ≡ record c.index_mut.result.now { points = c.await_checkpoint.new.points } = search rules in
    let folds = taken-in h c.args.time c.args.kept c.index_mut-2.result.now.points c.fold.new.points counts c.fold.ensures (ap (λ (s : State). s.points) awaited ∙ points) in
    let opens : c.index_mut-2.result.now.transactions ≡ h.transactions = ap (λ (s : State). s.transactions) awaited ∙ ap (λ (s : State). s.transactions) state in
    let runs : c.index_mut-2.result.now.job ≡ h.job = ap (λ (s : State). s.job) awaited ∙ ap (λ (s : State). s.job) state in
    let first : State = record c.index_mut.result.now { points = c.await_checkpoint.new.points } in
    let one : State = record c.index_mut-2.result.now { points = c.fold.new.points } in
    let none : c.index_mut-2.result.now.known ≡ None = ap (λ (s : State). s.known) awaited ∙ ap (λ (s : State). s.known) (state ∙ state-up h up) in
    let last-state : one ≡ record { points = folded (awaiting h.points h.records c.args.kept) (behind h c.args.time).records; job = h.job; transactions = h.transactions; known = None } = λ i. record { points = folds i; job = runs i; transactions = opens i; known = none i } in
    let state-is : one ≡ state_of (behind (to_check h c.args.kept) c.args.time) = last-state ∙ sym (state-up (behind (to_check h c.args.kept) c.args.time) up) in
    let final : Kept = record { stores = c.mark_on.new.stores; states = set (set items c.args.at first) c.args.at one } in
    subst (λ (hs : List Hosted). IsHosting (g.D.Device.disk c.mark_on.new.dev) final hs) (set-set hosted c.args.at (to_check h c.args.kept) (checked h c.args.time c.args.kept))
    (marked-hosting b (g.D.Device.disk c.mark_on.new.dev) mid final (set hosted c.args.at (to_check h c.args.kept)) c.args.at (to_check h c.args.kept) c.args.time mid-is there mid-open
    (record { then = last.0; slots = last.1; sealed = last.3; stands = c.in_ok-mark_on.ensures.stands tells })
    (set-set items c.args.at first one ∙ ap (λ (s : State). set items c.args.at s) state-is ∙ sym (set-set items c.args.at (state_of (to_check h c.args.kept)) (state_of (behind (to_check h c.args.kept) c.args.time)))))

pub returns-in_default-clause-touches : goal.returns-in_default-clause-touches
returns-in_default-clause-touches g c = λ tells. none-touched (g.D.Device.disk c.args.dev.now)

pub returns-in_err-mark_on-clause-touches : goal.returns-in_err-mark_on-clause-touches
returns-in_err-mark_on-clause-touches g c = λ tells. effect_then (c.points_on.ensures.touches tells) (c.mark_on.ensures.touches tells)

pub returns-clause-touches : goal.returns-clause-touches
returns-clause-touches g c = λ tells. effect_then (c.points_on.ensures.touches tells) (c.mark_on.ensures.touches tells)
