use Rattle.std.proofs.Common.{rules, arith, ◌≡◌, ◌<◌, ◌∙◌, ℕ, false, [], ◌∷◌, ◌++◌, None, Some, length, sym, refl, ap, subst}
use Rattle.std.specs.Prelude.{slice_get, IsErrOf}
use Rattle.bk_device.specs.Compose.{effect_then_nothing}
use Rattle.bk_hosted.specs.Fronts.{settling}
use Rattle.bk_hosted.specs.Hosted.{is_up}
use Rattle.bk_stores.specs.TouchLaws.{nothing-touched}
use Rattle.bk_device.specs.declared.trouble.Trouble.TheVariants.{Broken}
use Rattle.bk_stores.specs.ListLaws.{set-same}
use Rattle.bk_stores.specs.Standing.{AreStanding}
use Rattle.bk_stores.specs.Stores.{AreStores}
use Rattle.bk_hosting.specs.declared.hosting.State.{State}
use Rattle.bk_hosting.specs.Hosting.{Kept, Tells, state_of}
use Rattle.bk_hosting.specs.Loading.{IsOpening, IsPartly}
use Rattle.bk_hosting.proofs.Opening.{next-at, opening-next, parked-tells, partly-next, rest-undoing, standing-still, stores-still, there-stored}
use Rattle.bk_hosting.proofs.hosting.Hosting.read_parked.Goals as goal

pub returns-in_err-state-clause-crash : goal.returns-in_err-state-clause-crash
returns-in_err-state-clause-crash g c = λ tells number hosted is.
    let a = g.D.Device.disk c.args.dev.now in
    effect_then_nothing (rest-undoing a c.args.self.now hosted is c.requires.partly number) (c.noted_at.ensures.effect tells)

pub returns-in_err-push-clause-crash : goal.returns-in_err-push-clause-crash
returns-in_err-push-clause-crash g c = λ tells number hosted is.
    let a = g.D.Device.disk c.args.dev.now in
    effect_then_nothing (rest-undoing a c.args.self.now hosted is c.requires.partly number) (c.noted_at.ensures.effect tells)

pub returns-clause-crash : goal.returns-clause-crash
returns-clause-crash g c = λ tells number hosted is.
    let a = g.D.Device.disk c.args.dev.now in
    effect_then_nothing (rest-undoing a c.args.self.now hosted is c.requires.partly number) (c.noted_at.ensures.effect tells)

pub returns-in_err-state-clause-broken : goal.returns-in_err-state-clause-broken
returns-in_err-state-clause-broken g c = λ tells broken hosted is.
    let a = g.D.Device.disk c.args.dev.now in
    let x : Kept = record { stores = c.self.inside.stores; states = c.self.inside.states.items } in
    let is' : IsOpening a x hosted = subst (λ (k : Kept). IsOpening a k hosted) (sym c.self.view_is) is in
    let partly : IsPartly x = subst IsPartly (sym c.self.view_is) c.requires.partly in
    let more : length x.states < length x.stores.slots = subst (λ (k : Kept). length k.states < length k.stores.slots) (sym c.self.view_is) c.requires.more in
    let next = next-at a x hosted is' partly more in
    let entry = there-stored x c.args.self.now false (sym c.self.view_is) c.requires.unstored in
    let down : is_up next.h ≡ false = sym (next.up entry.0 entry.1) ∙ entry.2 in
    let at : c.len-at.result ≡ length x.states = search rules in
    let tell : Tells next.told (settling next.h) = parked-tells next.told next.h down next.tell in
    let there : slice_get is'.tolds c.len-at.result ≡ Some next.told = ap (λ (n : ℕ). slice_get is'.tolds n) at ∙ next.there in
    let err : IsErrOf c.noted_at.result Broken = search rules in
    c.noted_at.ensures.broken tells err is'.tolds next.told (settling next.h) is'.stores there tell down

pub returns-clause-partly : goal.returns-clause-partly
returns-clause-partly g c =
    let x : Kept = record { stores = c.self.inside.stores; states = c.self.inside.states.items } in
    let partly : IsPartly x = subst IsPartly (sym c.self.view_is) c.requires.partly in
    let more : length x.states < length x.stores.slots = subst (λ (k : Kept). length k.states < length k.stores.slots) (sym c.self.view_is) c.requires.more in
    let pushed : c.push.new.self.items ≡ c.self.inside.states.items ++ c.in_ok-state.state ∷ [] = search rules in
    partly-next x (record { stores = c.self.inside.stores; states = c.push.new.self.items }) None c.in_ok-state.state partly more partly.stores
    (sym (set-same x.stores.slots (length x.states) None (partly.shut (length x.states) (omega arith) more))) tt pushed

pub returns-clause-standing : goal.returns-clause-standing
returns-clause-standing g c = λ tells.
    standing-still c.self.inside.stores (c.noted_at.ensures.effect tells) (subst (λ (k : Kept). AreStanding (g.D.Device.disk c.args.dev.now) k.stores) (sym c.self.view_is) (c.requires.standing tells))

pub returns-clause-stands : goal.returns-clause-stands
returns-clause-stands g c = λ tells hosted is.
    let a = g.D.Device.disk c.args.dev.now in
    let x : Kept = record { stores = c.self.inside.stores; states = c.self.inside.states.items } in
    let is' : IsOpening a x hosted = subst (λ (k : Kept). IsOpening a k hosted) (sym c.self.view_is) is in
    let partly : IsPartly x = subst IsPartly (sym c.self.view_is) c.requires.partly in
    let more : length x.states < length x.stores.slots = subst (λ (k : Kept). length k.states < length k.stores.slots) (sym c.self.view_is) c.requires.more in
    let next = next-at a x hosted is' partly more in
    let entry = there-stored x c.args.self.now false (sym c.self.view_is) c.requires.unstored in
    let down : is_up next.h ≡ false = sym (next.up entry.0 entry.1) ∙ entry.2 in
    let at : c.len-at.result ≡ length x.states = search rules in
    let tell : Tells next.told (settling next.h) = parked-tells next.told next.h down next.tell in
    let there : slice_get is'.tolds c.len-at.result ≡ Some next.told = ap (λ (n : ℕ). slice_get is'.tolds n) at ∙ next.there in
    let state : c.in_ok-state.state ≡ state_of (settling next.h) = c.in_ok-state.ensures.state tells is'.tolds next.told (settling next.h) is'.stores there tell down refl refl in
    let pushed : c.push.new.self.items ≡ c.self.inside.states.items ++ c.in_ok-state.state ∷ [] = search rules in
    let b = g.D.Device.disk c.noted_at.new.dev in
    let still : AreStores b x.stores is'.tolds = stores-still x.stores is'.tolds (c.noted_at.ensures.effect tells) is'.stores in
    let back = set-same is'.tolds (length x.states) next.told next.there in
    opening-next a x hosted is' partly b (record { stores = c.self.inside.stores; states = c.push.new.self.items }) next next.told None (subst (AreStores b x.stores) (sym back) still) tell is'.stored
    (sym (set-same x.stores.slots (length x.states) None next.shut)) down (pushed ∙ ap (λ (s : State). c.self.inside.states.items ++ s ∷ []) state)

pub returns-in_err-state-clause-touches : goal.returns-in_err-state-clause-touches
returns-in_err-state-clause-touches g c = λ tells. nothing-touched (c.noted_at.ensures.effect tells)

pub returns-in_err-push-clause-touches : goal.returns-in_err-push-clause-touches
returns-in_err-push-clause-touches g c = λ tells. nothing-touched (c.noted_at.ensures.effect tells)

pub returns-clause-touches : goal.returns-clause-touches
returns-clause-touches g c = λ tells. nothing-touched (c.noted_at.ensures.effect tells)
