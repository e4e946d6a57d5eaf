use Rattle.std.proofs.Common.{rules, true, ◌≡◌, ◌<◌, ◌∙◌, ℕ, [], ◌∷◌, ◌++◌, Some, length, set, sym, ap, subst, false, None}
use Rattle.std.specs.Prelude.{slice_get, IsErrOf}
use Rattle.bk_device.specs.Compose.{effect_then_nothing, effect_then}
use Rattle.bk_device.specs.Effects.{Effect}
use Rattle.bk_device.specs.Laws.{nothing_then}
use Rattle.bk_hosted.specs.Fronts.{settling}
use Rattle.bk_hosted.specs.Hosted.{folded, is_up}
use Rattle.bk_stores.specs.Reopening.{settled as settled_told}
use Rattle.bk_machine.specs.statements.Restore.{is_online}
use Rattle.bk_stores.specs.TouchLaws.{nothing-touched}
use Rattle.bk_device.specs.declared.trouble.Trouble.TheVariants.{Broken}
use Rattle.bk_stores.specs.ListLaws.{got-inside, got-set}
use Rattle.bk_stores.specs.Stores.{AreStores, IsOurs, LeavesStores, fixed_of, sealed_at, Kept as KeptStores}
use Rattle.bk_hosting.specs.declared.hosting.State.{State}
use Rattle.bk_hosting.specs.Hosting.{AreOf, Kept, Tells, state_of}
use Rattle.bk_hosting.specs.Loading.{IsOpening, IsPartly, LeavesUndoing}
use Rattle.bk_hosting.proofs.Checked.{as-viewed}
use Rattle.bk_hosting.proofs.Opening.{next-at, next-undoing, opening-next, partly-next, sealed-there, settled-tells, there-stored}
use Rattle.bk_hosting.proofs.SaidHosted.{state-up}
use Rattle.bk_hosting.proofs.hosting.Hosting.open_stored.Goals as goal

pub returns-in_err-open-clause-crash : goal.returns-in_err-open-clause-crash
returns-in_err-open-clause-crash g c = λ tells number hosted is.
    let a = g.D.Device.disk c.args.dev.now in
    let x : Kept = record { stores = c.self.inside.stores; states = c.self.inside.states.items } in
    let is' : IsOpening a x hosted = subst (λ (k : Kept). IsOpening a k hosted) (sym c.self.view_is) is in
    let partly : IsPartly x = subst IsPartly (sym c.self.view_is) c.requires.partly in
    let more : length x.states < length x.stores.slots = subst (λ (k : Kept). length k.states < length k.stores.slots) (sym c.self.view_is) c.requires.more in
    let next = next-at a x hosted is' partly more in
    let entry = there-stored x c.args.self.now true (sym c.self.view_is) c.requires.stored in
    let up : is_up next.h ≡ true = sym (next.up entry.0 entry.1) ∙ entry.2 in
    let at : c.len-at.result ≡ length x.states = search rules in
    let undoing = as-viewed (λ own. LeavesUndoing number own hosted) x c.args.self.now c.self.view_is
    (next-undoing a x hosted is' partly number next up (subst (λ (n : ℕ). Effect IsOurs (LeavesStores (fixed_of x.stores.master.record) (sealed_at x.stores is'.tolds) (set is'.tolds n (settled_told next.told))) a (g.D.Device.disk c.open.new.dev)) at
    (c.open.ensures.crash tells is'.tolds next.told is'.stores (ap (λ (n : ℕ). slice_get is'.tolds n) at ∙ next.there)))) in
    undoing

pub read_at-requires-clause-opened : goal.read_at-requires-clause-opened
read_at-requires-clause-opened g c =
    let inside : c.len-at.result < length c.self.inside.stores.slots = search rules in
    sealed-there c.self.inside.stores c.open.new.self c.len-at.result inside c.in_ok-open.ensures.opens

pub returns-in_err-state-clause-crash : goal.returns-in_err-state-clause-crash
returns-in_err-state-clause-crash g c = λ tells number hosted is.
    let a = g.D.Device.disk c.args.dev.now in
    let x : Kept = record { stores = c.self.inside.stores; states = c.self.inside.states.items } in
    let is' : IsOpening a x hosted = subst (λ (k : Kept). IsOpening a k hosted) (sym c.self.view_is) is in
    let partly : IsPartly x = subst IsPartly (sym c.self.view_is) c.requires.partly in
    let more : length x.states < length x.stores.slots = subst (λ (k : Kept). length k.states < length k.stores.slots) (sym c.self.view_is) c.requires.more in
    let next = next-at a x hosted is' partly more in
    let entry = there-stored x c.args.self.now true (sym c.self.view_is) c.requires.stored in
    let up : is_up next.h ≡ true = sym (next.up entry.0 entry.1) ∙ entry.2 in
    let at : c.len-at.result ≡ length x.states = search rules in
    let undoing = as-viewed (λ own. LeavesUndoing number own hosted) x c.args.self.now c.self.view_is
    (next-undoing a x hosted is' partly number next up (subst (λ (n : ℕ). Effect IsOurs (LeavesStores (fixed_of x.stores.master.record) (sealed_at x.stores is'.tolds) (set is'.tolds n (settled_told next.told))) a (g.D.Device.disk c.open.new.dev)) at
    (c.open.ensures.crash tells is'.tolds next.told is'.stores (ap (λ (n : ℕ). slice_get is'.tolds n) at ∙ next.there)))) in
    effect_then_nothing undoing (c.read_at.ensures.effect tells)

pub returns-in_err-state-clause-broken : goal.returns-in_err-state-clause-broken
returns-in_err-state-clause-broken g c = λ tells broken hosted is.
    let a = g.D.Device.disk c.args.dev.now in
    let x : Kept = record { stores = c.self.inside.stores; states = c.self.inside.states.items } in
    let is' : IsOpening a x hosted = subst (λ (k : Kept). IsOpening a k hosted) (sym c.self.view_is) is in
    let partly : IsPartly x = subst IsPartly (sym c.self.view_is) c.requires.partly in
    let more : length x.states < length x.stores.slots = subst (λ (k : Kept). length k.states < length k.stores.slots) (sym c.self.view_is) c.requires.more in
    let next = next-at a x hosted is' partly more in
    let entry = there-stored x c.args.self.now true (sym c.self.view_is) c.requires.stored in
    let up : is_up next.h ≡ true = sym (next.up entry.0 entry.1) ∙ entry.2 in
    let at : c.len-at.result ≡ length x.states = search rules in
    let b = g.D.Device.disk c.open.new.dev in
    let there : slice_get is'.tolds c.len-at.result ≡ Some next.told = ap (λ (n : ℕ). slice_get is'.tolds n) at ∙ next.there in
    let after : AreStores b c.open.new.self (set is'.tolds c.len-at.result (settled_told next.told)) = c.in_ok-open.ensures.stands tells is'.tolds next.told is'.stores there in
    let put : slice_get (set is'.tolds c.len-at.result (settled_told next.told)) c.len-at.result ≡ Some (settled_told next.told) = got-set is'.tolds c.len-at.result (settled_told next.told) (got-inside is'.tolds c.len-at.result next.told there) in
    let tell : Tells (settled_told next.told) (settling next.h) = settled-tells next.told next.h up next.tell in
    let err : IsErrOf c.read_at.result Broken = search rules in
    c.read_at.ensures.broken tells err (set is'.tolds c.len-at.result (settled_told next.told)) (settled_told next.told) (settling next.h) after put tell

pub returns-in_err-push-clause-crash : goal.returns-in_err-push-clause-crash
returns-in_err-push-clause-crash g c = λ tells number hosted is.
    let a = g.D.Device.disk c.args.dev.now in
    let x : Kept = record { stores = c.self.inside.stores; states = c.self.inside.states.items } in
    let is' : IsOpening a x hosted = subst (λ (k : Kept). IsOpening a k hosted) (sym c.self.view_is) is in
    let partly : IsPartly x = subst IsPartly (sym c.self.view_is) c.requires.partly in
    let more : length x.states < length x.stores.slots = subst (λ (k : Kept). length k.states < length k.stores.slots) (sym c.self.view_is) c.requires.more in
    let next = next-at a x hosted is' partly more in
    let entry = there-stored x c.args.self.now true (sym c.self.view_is) c.requires.stored in
    let up : is_up next.h ≡ true = sym (next.up entry.0 entry.1) ∙ entry.2 in
    let at : c.len-at.result ≡ length x.states = search rules in
    let undoing = as-viewed (λ own. LeavesUndoing number own hosted) x c.args.self.now c.self.view_is
    (next-undoing a x hosted is' partly number next up (subst (λ (n : ℕ). Effect IsOurs (LeavesStores (fixed_of x.stores.master.record) (sealed_at x.stores is'.tolds) (set is'.tolds n (settled_told next.told))) a (g.D.Device.disk c.open.new.dev)) at
    (c.open.ensures.crash tells is'.tolds next.told is'.stores (ap (λ (n : ℕ). slice_get is'.tolds n) at ∙ next.there)))) in
    effect_then_nothing undoing (c.read_at.ensures.effect tells)

pub returns-clause-crash : goal.returns-clause-crash
returns-clause-crash g c = λ tells number hosted is.
    let a = g.D.Device.disk c.args.dev.now in
    let x : Kept = record { stores = c.self.inside.stores; states = c.self.inside.states.items } in
    let is' : IsOpening a x hosted = subst (λ (k : Kept). IsOpening a k hosted) (sym c.self.view_is) is in
    let partly : IsPartly x = subst IsPartly (sym c.self.view_is) c.requires.partly in
    let more : length x.states < length x.stores.slots = subst (λ (k : Kept). length k.states < length k.stores.slots) (sym c.self.view_is) c.requires.more in
    let next = next-at a x hosted is' partly more in
    let entry = there-stored x c.args.self.now true (sym c.self.view_is) c.requires.stored in
    let up : is_up next.h ≡ true = sym (next.up entry.0 entry.1) ∙ entry.2 in
    let at : c.len-at.result ≡ length x.states = search rules in
    let undoing = as-viewed (λ own. LeavesUndoing number own hosted) x c.args.self.now c.self.view_is
    (next-undoing a x hosted is' partly number next up (subst (λ (n : ℕ). Effect IsOurs (LeavesStores (fixed_of x.stores.master.record) (sealed_at x.stores is'.tolds) (set is'.tolds n (settled_told next.told))) a (g.D.Device.disk c.open.new.dev)) at
    (c.open.ensures.crash tells is'.tolds next.told is'.stores (ap (λ (n : ℕ). slice_get is'.tolds n) at ∙ next.there)))) in
    effect_then_nothing undoing (c.read_at.ensures.effect tells)

pub returns-clause-partly : goal.returns-clause-partly
returns-clause-partly g c =
    let x : Kept = record { stores = c.self.inside.stores; states = c.self.inside.states.items } in
    let partly : IsPartly x = subst IsPartly (sym c.self.view_is) c.requires.partly in
    let more : length x.states < length x.stores.slots = subst (λ (k : Kept). length k.states < length k.stores.slots) (sym c.self.view_is) c.requires.more in
    let at : c.len-at.result ≡ length x.states = search rules in
    let opens = c.in_ok-open.ensures.opens in
    let pushed : c.push.new.self.items ≡ c.self.inside.states.items ++ c.in_ok-state.state ∷ [] = search rules in
    let slots : c.open.new.self.slots ≡ set x.stores.slots (length x.states) (Some opens.0) = ap (λ k. k.slots) opens.1 ∙ ap (λ (n : ℕ). set x.stores.slots n (Some opens.0)) at in
    partly-next x (record { stores = c.open.new.self; states = c.push.new.self.items }) (Some opens.0) c.in_ok-state.state partly more c.in_ok-open.ensures.ready slots opens.2.fit pushed

pub returns-clause-stands : goal.returns-clause-stands
returns-clause-stands g c = λ tells hosted is.
    let a = g.D.Device.disk c.args.dev.now in
    let x : Kept = record { stores = c.self.inside.stores; states = c.self.inside.states.items } in
    let is' : IsOpening a x hosted = subst (λ (k : Kept). IsOpening a k hosted) (sym c.self.view_is) is in
    let partly : IsPartly x = subst IsPartly (sym c.self.view_is) c.requires.partly in
    let more : length x.states < length x.stores.slots = subst (λ (k : Kept). length k.states < length k.stores.slots) (sym c.self.view_is) c.requires.more in
    let next = next-at a x hosted is' partly more in
    let entry = there-stored x c.args.self.now true (sym c.self.view_is) c.requires.stored in
    let up : is_up next.h ≡ true = sym (next.up entry.0 entry.1) ∙ entry.2 in
    let at : c.len-at.result ≡ length x.states = search rules in
    let b = g.D.Device.disk c.open.new.dev in
    let there : slice_get is'.tolds c.len-at.result ≡ Some next.told = ap (λ (n : ℕ). slice_get is'.tolds n) at ∙ next.there in
    let after : AreStores b c.open.new.self (set is'.tolds c.len-at.result (settled_told next.told)) = c.in_ok-open.ensures.stands tells is'.tolds next.told is'.stores there in
    let put : slice_get (set is'.tolds c.len-at.result (settled_told next.told)) c.len-at.result ≡ Some (settled_told next.told) = got-set is'.tolds c.len-at.result (settled_told next.told) (got-inside is'.tolds c.len-at.result next.told there) in
    let tell : Tells (settled_told next.told) (settling next.h) = settled-tells next.told next.h up next.tell in
    let state : c.in_ok-state.state ≡ state_of (settling next.h) = c.in_ok-state.ensures.state tells (set is'.tolds c.len-at.result (settled_told next.told)) (settled_told next.told) (settling next.h) after put tell ∙ sym (state-up (settling next.h) up) in
    let pushed : c.push.new.self.items ≡ c.self.inside.states.items ++ c.in_ok-state.state ∷ [] = search rules in
    let d = g.D.Device.disk c.read_at.new.dev in
    let still : AreStores d c.open.new.self (set is'.tolds (length x.states) (settled_told next.told)) = subst (λ (n : ℕ). AreStores d c.open.new.self (set is'.tolds n (settled_told next.told))) at (c.read_at.ensures.stands tells (set is'.tolds c.len-at.result (settled_told next.told)) after) in
    let opens = c.in_ok-open.ensures.opens in
    let slots : c.open.new.self.slots ≡ set x.stores.slots (length x.states) (Some opens.0) = ap (λ k. k.slots) opens.1 ∙ ap (λ (n : ℕ). set x.stores.slots n (Some opens.0)) at in
    let stored : AreOf (fixed_of c.open.new.self.master.record) hosted = ap (λ (k : KeptStores). (fixed_of k.master.record).stored) opens.1 ∙ is'.stored in
    opening-next a x hosted is' partly d (record { stores = c.open.new.self; states = c.push.new.self.items }) next (settled_told next.told) (Some opens.0) still tell stored slots (up, opens.2) (pushed ∙ ap (λ (s : State). c.self.inside.states.items ++ s ∷ []) state)

pub returns-then-not-is_online-clause-crash : goal.returns-then-not-is_online-clause-crash
returns-then-not-is_online-clause-crash g c = λ tells number hosted is.
    let a = g.D.Device.disk c.args.dev.now in
    let x : Kept = record { stores = c.self.inside.stores; states = c.self.inside.states.items } in
    let is' : IsOpening a x hosted = subst (λ (k : Kept). IsOpening a k hosted) (sym c.self.view_is) is in
    let partly : IsPartly x = subst IsPartly (sym c.self.view_is) c.requires.partly in
    let more : length x.states < length x.stores.slots = subst (λ (k : Kept). length k.states < length k.stores.slots) (sym c.self.view_is) c.requires.more in
    let next = next-at a x hosted is' partly more in
    let entry = there-stored x c.args.self.now true (sym c.self.view_is) c.requires.stored in
    let up : is_up next.h ≡ true = sym (next.up entry.0 entry.1) ∙ entry.2 in
    let at : c.len-at.result ≡ length x.states = search rules in
    let undoing = as-viewed (λ own. LeavesUndoing number own hosted) x c.args.self.now c.self.view_is
    (next-undoing a x hosted is' partly number next up (subst (λ (n : ℕ). Effect IsOurs (LeavesStores (fixed_of x.stores.master.record) (sealed_at x.stores is'.tolds) (set is'.tolds n (settled_told next.told))) a (g.D.Device.disk c.open.new.dev)) at
    (c.open.ensures.crash tells is'.tolds next.told is'.stores (ap (λ (n : ℕ). slice_get is'.tolds n) at ∙ next.there)))) in
    effect_then_nothing undoing (c.read_at.ensures.effect tells)

pub returns-then-not-is_online-clause-broken : goal.returns-then-not-is_online-clause-broken
returns-then-not-is_online-clause-broken g c = λ tells broken hosted is.
    let a = g.D.Device.disk c.args.dev.now in
    let x : Kept = record { stores = c.self.inside.stores; states = c.self.inside.states.items } in
    let is' : IsOpening a x hosted = subst (λ (k : Kept). IsOpening a k hosted) (sym c.self.view_is) is in
    let partly : IsPartly x = subst IsPartly (sym c.self.view_is) c.requires.partly in
    let more : length x.states < length x.stores.slots = subst (λ (k : Kept). length k.states < length k.stores.slots) (sym c.self.view_is) c.requires.more in
    let next = next-at a x hosted is' partly more in
    let entry = there-stored x c.args.self.now true (sym c.self.view_is) c.requires.stored in
    let up : is_up next.h ≡ true = sym (next.up entry.0 entry.1) ∙ entry.2 in
    let at : c.len-at.result ≡ length x.states = search rules in
    let b = g.D.Device.disk c.open.new.dev in
    let there : slice_get is'.tolds c.len-at.result ≡ Some next.told = ap (λ (n : ℕ). slice_get is'.tolds n) at ∙ next.there in
    let after : AreStores b c.open.new.self (set is'.tolds c.len-at.result (settled_told next.told)) = c.in_ok-open.ensures.stands tells is'.tolds next.told is'.stores there in
    let put : slice_get (set is'.tolds c.len-at.result (settled_told next.told)) c.len-at.result ≡ Some (settled_told next.told) = got-set is'.tolds c.len-at.result (settled_told next.told) (got-inside is'.tolds c.len-at.result next.told there) in
    let tell : Tells (settled_told next.told) (settling next.h) = settled-tells next.told next.h up next.tell in
    let state : c.in_ok-state.state ≡ record { points = folded next.h.points (settling next.h).records; job = None; transactions = []; known = None } = c.in_ok-state.ensures.state tells (set is'.tolds c.len-at.result (settled_told next.told)) (settled_told next.told) (settling next.h) after put tell in
    let no : c.is_online.result ≡ false = search rules in
    let online : c.is_online.result ≡ is_online c.in_ok-state.state.points.status = search rules in
    let both : false ≡ true = sym no ∙ online ∙ ap (λ (s : State). is_online s.points.status) state ∙ up in
    absurd (cc (both))

pub returns-clause-touches : goal.returns-clause-touches
returns-clause-touches g c = λ tells. effect_then (c.open.ensures.touches tells) (nothing-touched (c.read_at.ensures.effect tells))

pub returns-in_err-state-clause-touches : goal.returns-in_err-state-clause-touches
returns-in_err-state-clause-touches g c = λ tells. effect_then (c.open.ensures.touches tells) (nothing-touched (c.read_at.ensures.effect tells))

pub returns-in_err-push-clause-touches : goal.returns-in_err-push-clause-touches
returns-in_err-push-clause-touches g c = λ tells. effect_then (c.open.ensures.touches tells) (nothing-touched (c.read_at.ensures.effect tells))

pub returns-then-not-is_online-clause-touches : goal.returns-then-not-is_online-clause-touches
returns-then-not-is_online-clause-touches g c = λ tells. effect_then (c.open.ensures.touches tells) (nothing-touched (c.read_at.ensures.effect tells))

pub returns-clause-still : goal.returns-clause-still
returns-clause-still g c = λ tells quiet. nothing_then (g.met.D.Device.lawful tells c.args.dev.now) (c.in_ok-open.ensures.still tells quiet) (c.read_at.ensures.effect tells)
