use Rattle.std.proofs.Common.{rules, ◌≡◌, ◌<◌, ◌∙◌, ℕ, true, List, [], length, Option, Some, set, ap, sym, subst}
use Rattle.std.specs.Prelude.{IsErrOf}
use Rattle.bk_device.specs.Compose.{effect_then}
use Rattle.bk_master.specs.declared.record.Record.{Record}
use Rattle.bk_reopening.specs.Reopening.{settled}
use Rattle.bk_store.specs.Store.{IsStore, Kept as KeptStore}
use Rattle.bk_store.specs.Told.{Told, said}
use Rattle.bk_stores.specs.Bringing.{IsNamed}
use Rattle.bk_stores.specs.Making.{MaySwap, set_stored}
use Rattle.bk_stores.specs.Records.{stored_entry}
use Rattle.bk_stores.specs.Stores.{AreStores, Kept, fixed_of}
use Rattle.bk_device.specs.declared.trouble.Trouble.TheVariants.{Broken}
use Rattle.bk_stores.proofs.Brought.{before-swap, brought-crash, brought-joins, brought-may-swap, named-count, named-keeps}
use Rattle.bk_stores.proofs.Created.{begun-below, on-ok}
use Rattle.bk_stores.proofs.Noted.{told-at}
use Rattle.bk_stores.proofs.Parked.{unused-none}
use Rattle.bk_stores.proofs.stores.Stores.bring_up.Goals as goal

pub returns-in_err-store-clause-crash : goal.returns-in_err-store-clause-crash
returns-in_err-store-clause-crash g c t tolds told r is shares makes last = before-swap c.args.self.now tolds c.args.at (said (settled told) r) (c.recover_next.ensures.crash t tolds told is shares makes)

pub returns-in_err-store-clause-broken : goal.returns-in_err-store-clause-broken
returns-in_err-store-clause-broken g c t broken tolds told r is shares makes last =
    let its : IsErrOf c.recover_next.result Broken = search rules in
    c.recover_next.ensures.broken t its tolds told r is shares makes last

pub swap-requires-clause-keeps : goal.swap-requires-clause-keeps
swap-requires-clause-keeps g c = named-keeps c.args.self.now c.recover_next.new.self c.args.files.items c.in_ok-store.ensures.named c.requires.may c.requires.ready.keeps

pub swap-requires-clause-count : goal.swap-requires-clause-count
swap-requires-clause-count g c = named-count c.args.self.now c.recover_next.new.self c.args.files.items c.in_ok-store.ensures.named c.requires.ready.count

pub swap-requires-clause-inside : goal.swap-requires-clause-inside
swap-requires-clause-inside g c = subst (λ (sl : List (Option KeptStore)). c.args.at < length sl) (sym c.in_ok-store.ensures.named.slots) c.requires.inside

pub swap-requires-clause-below : goal.swap-requires-clause-below
swap-requires-clause-below g c =
    let s : Kept = c.args.self.now in
    let then : Kept = c.recover_next.new.self in
    let record_is : c.record.result.now ≡ s.master.record = search rules in
    let named : IsNamed s then c.args.files.items = c.in_ok-store.ensures.named in
    subst (λ (r : Record). r.next < then.master.record.next) (sym record_is) (begun-below s then _ named.put)

pub swap-requires-clause-joins : goal.swap-requires-clause-joins
swap-requires-clause-joins g c t =
    let s : Kept = c.args.self.now in
    let record_is : c.record.result.now ≡ s.master.record = search rules in
    brought-joins s c.recover_next.new.self c.record.result.now.next c.args.at c.args.files.items c.in_ok-store.store (g.D.Device.disk c.recover_next.new.dev) c.in_ok-store.ensures.named (ap (λ (r : Record). r.next) record_is) (c.requires.standing t).numbers c.in_ok-store.ensures.sealed c.in_ok-store.ensures.number
    (c.in_ok-store.ensures.opened t) c.in_ok-store.ensures.unused

pub swap-requires-clause-unused : goal.swap-requires-clause-unused
swap-requires-clause-unused g c t = unused-none (set c.recover_next.new.self.slots c.args.at (Some c.in_ok-store.store))

pub returns-clause-fixed : goal.returns-clause-fixed
returns-clause-fixed g c = on-ok c.swap.result (λ same. same ∙ ap (λ (r : Record). set_stored (fixed_of r) c.args.at true) c.in_ok-store.ensures.named.put) c.swap.ensures.fixed

pub returns-clause-opens : goal.returns-clause-opens
returns-clause-opens g c =
    let store : KeptStore = c.in_ok-store.store in
    on-ok c.swap.result (λ slots. (store, slots ∙ ap (λ (sl : List (Option KeptStore)). set sl c.args.at (Some store)) c.in_ok-store.ensures.named.slots, c.in_ok-store.ensures.sealed)) c.swap.ensures.slots

pub returns-clause-stands : goal.returns-clause-stands
returns-clause-stands g c t tolds told r is shares makes last =
    let d = g.D.Device.disk c.recover_next.new.dev in
    let s : Kept = c.args.self.now in
    let then : Kept = c.recover_next.new.self in
    let n : ℕ = c.record.result.now.next in
    let record_is : c.record.result.now ≡ s.master.record = search rules in
    let new : Told = said (settled told) r in
    let store : KeptStore = c.in_ok-store.store in
    let parked = c.requires.parked in
    let old = told-at s tolds c.args.at parked.0 is parked.1 in
    let here : AreStores d then tolds = c.in_ok-store.ensures.stands t tolds told is shares makes in
    let stands : IsStore d store new = c.in_ok-store.ensures.store t tolds told r is shares makes last in
    let may : MaySwap d then tolds c.args.at old.0 (stored_entry n) (Some store) new [] =
    brought-may-swap s then tolds n c.args.at old.0 new parked.0 c.args.files.items store d c.in_ok-store.ensures.named (ap (λ (x : Record). x.next) record_is) is.standing.entries shares makes.suffices.suffices.files parked.1 parked.2 old.1 c.in_ok-store.ensures.sealed
    c.in_ok-store.ensures.number stands in
    c.swap.ensures.stands t tolds old.0 new here may

pub returns-clause-crash : goal.returns-clause-crash
returns-clause-crash g c t tolds told r is shares makes last =
    let d = g.D.Device.disk c.recover_next.new.dev in
    let s : Kept = c.args.self.now in
    let then : Kept = c.recover_next.new.self in
    let n : ℕ = c.record.result.now.next in
    let record_is : c.record.result.now ≡ s.master.record = search rules in
    let new : Told = said (settled told) r in
    let store : KeptStore = c.in_ok-store.store in
    let parked = c.requires.parked in
    let old = told-at s tolds c.args.at parked.0 is parked.1 in
    let named : IsNamed s then c.args.files.items = c.in_ok-store.ensures.named in
    let here : AreStores d then tolds = c.in_ok-store.ensures.stands t tolds told is shares makes in
    let stands : IsStore d store new = c.in_ok-store.ensures.store t tolds told r is shares makes last in
    let may : MaySwap d then tolds c.args.at old.0 (stored_entry n) (Some store) new [] =
    brought-may-swap s then tolds n c.args.at old.0 new parked.0 c.args.files.items store d named (ap (λ (x : Record). x.next) record_is) is.standing.entries shares makes.suffices.suffices.files parked.1 parked.2 old.1 c.in_ok-store.ensures.sealed c.in_ok-store.ensures.number stands in
    brought-crash s then c.args.files.items tolds c.args.at new named (c.recover_next.ensures.crash t tolds told is shares makes) (c.swap.ensures.crash t tolds old.0 new here may)

pub returns-clause-touches : goal.returns-clause-touches
returns-clause-touches g c t = effect_then (c.recover_next.ensures.touches t) (c.swap.ensures.touches t)
