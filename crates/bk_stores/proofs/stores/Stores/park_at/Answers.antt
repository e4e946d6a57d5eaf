use Rattle.std.proofs.Common.{rules, ◌≡◌, ◌<◌, ◌^◌, ◌∙◌, ℕ, false, List, [], Option, None, inl, length, set, ap, sym, subst}
use Rattle.bk_device.specs.Compose.{effect_then, effect_weaken}
use Rattle.bk_master.specs.declared.record.Record.{Record}
use Rattle.bk_master.specs.Spelling.{KeepsRecord}
use Rattle.bk_store.specs.Store.{Kept as KeptStore}
use Rattle.bk_stores.specs.Making.{MaySwap, set_stored}
use Rattle.bk_stores.specs.Records.{begun, parked_entry}
use Rattle.bk_stores.specs.Standing.{AreUnused, Joins}
use Rattle.bk_stores.specs.Stores.{AreStores, IsShut, Kept, at_paths, fixed_of}
use Rattle.bk_stores.proofs.Created.{begun-below, on-ok}
use Rattle.bk_stores.proofs.Parked.{parked-joins, parked-keeps, parked-may-swap, swaps-as}
use Rattle.bk_stores.proofs.stores.Stores.park_at.Goals as goal

pub returns-in_err-number-clause-crash : goal.returns-in_err-number-clause-crash
returns-in_err-number-clause-crash g c t tolds told new is may parked = effect_weaken (λ image here. inl here) (c.make_parked.ensures.crash t tolds is)

pub swap-requires-clause-keeps : goal.swap-requires-clause-keeps
swap-requires-clause-keeps g c =
    let begun_is : c.make_parked.new.self.master.record ≡ begun c.args.self.now.master.record [] = search rules in
    subst KeepsRecord (sym begun_is) (parked-keeps c.args.self.now.master.record c.requires.ready.keeps)

pub swap-requires-clause-count : goal.swap-requires-clause-count
swap-requires-clause-count g c =
    let s : Kept = c.args.self.now in
    let then : Kept = c.make_parked.new.self in
    let begun_is : then.master.record ≡ begun s.master.record [] = search rules in
    let slots_are : then.slots ≡ s.slots = search rules in
    ap length slots_are ∙ c.requires.ready.count ∙ sym (ap (λ (x : Record). length x.databases) begun_is)

pub swap-requires-clause-below : goal.swap-requires-clause-below
swap-requires-clause-below g c =
    let s : Kept = c.args.self.now in
    let then : Kept = c.make_parked.new.self in
    let next : ℕ = s.master.record.next in
    let begun_is : then.master.record ≡ begun s.master.record [] = search rules in
    let number_is : c.in_ok-number.number ≡ next = search rules in
    subst (λ (n : ℕ). n < then.master.record.next) (sym number_is) (begun-below s then [] begun_is)

pub swap-requires-clause-joins : goal.swap-requires-clause-joins
swap-requires-clause-joins g c t =
    let disk = g.D.Device.disk in
    let s : Kept = c.args.self.now in
    let then : Kept = c.make_parked.new.self in
    let next : ℕ = s.master.record.next in
    let begun_is : then.master.record ≡ begun s.master.record [] = search rules in
    let number_is : c.in_ok-number.number ≡ next = search rules in
    let d = disk c.make_parked.new.dev in
    let slots = set then.slots c.args.at None in
    subst (λ (n : ℕ). Joins d then.master.record.databases slots (parked_entry n) None) (sym number_is) (parked-joins s then slots d begun_is (c.requires.standing t).numbers)

pub swap-requires-clause-unused : goal.swap-requires-clause-unused
swap-requires-clause-unused g c t =
    let slots_are : c.make_parked.new.self.slots ≡ c.args.self.now.slots = search rules in
    subst (λ (sl : List (Option KeptStore)). AreUnused (set sl c.args.at None) (at_paths c.args.paths.now)) (sym slots_are) (c.requires.unused t)

pub returns-clause-fixed : goal.returns-clause-fixed
returns-clause-fixed g c =
    let begun_is : c.make_parked.new.self.master.record ≡ begun c.args.self.now.master.record [] = search rules in
    on-ok c.swap.result (λ same. same ∙ ap (λ (x : Record). set_stored (fixed_of x) c.args.at false) begun_is) c.swap.ensures.fixed

pub returns-clause-slots : goal.returns-clause-slots
returns-clause-slots g c =
    let slots_are : c.make_parked.new.self.slots ≡ c.args.self.now.slots = search rules in
    on-ok c.swap.result (λ same. same ∙ ap (λ (sl : List (Option KeptStore)). set sl c.args.at None) slots_are) c.swap.ensures.slots

pub returns-clause-stands : goal.returns-clause-stands
returns-clause-stands g c t tolds told new is may parked =
    let disk = g.D.Device.disk in
    let s : Kept = c.args.self.now in
    let then : Kept = c.make_parked.new.self in
    let next : ℕ = s.master.record.next in
    let begun_is : then.master.record ≡ begun s.master.record [] = search rules in
    let number_is : c.in_ok-number.number ≡ next = search rules in
    let few : next < 2 ^ 32 = search rules in
    let here : AreStores (disk c.make_parked.new.dev) then tolds = c.in_ok-number.ensures.stands t tolds is in
    let shut : IsShut (disk c.make_parked.new.dev) (parked_entry next) new = c.in_ok-number.ensures.shut t tolds new is parked in
    let its : MaySwap (disk c.make_parked.new.dev) then tolds c.args.at told (parked_entry c.in_ok-number.number) None new c.args.paths.now =
    subst (λ (n : ℕ). MaySwap (disk c.make_parked.new.dev) then tolds c.args.at told (parked_entry n) None new c.args.paths.now) (sym number_is)
    (parked-may-swap s then tolds c.args.at told new c.args.paths.now (disk c.make_parked.new.dev) begun_is few is.standing.entries may shut) in
    c.swap.ensures.stands t tolds told new here its

pub returns-clause-crash : goal.returns-clause-crash
returns-clause-crash g c t tolds told new is may parked =
    let disk = g.D.Device.disk in
    let s : Kept = c.args.self.now in
    let then : Kept = c.make_parked.new.self in
    let next : ℕ = s.master.record.next in
    let begun_is : then.master.record ≡ begun s.master.record [] = search rules in
    let slots_are : then.slots ≡ s.slots = search rules in
    let number_is : c.in_ok-number.number ≡ next = search rules in
    let few : next < 2 ^ 32 = search rules in
    let here : AreStores (disk c.make_parked.new.dev) then tolds = c.in_ok-number.ensures.stands t tolds is in
    let shut : IsShut (disk c.make_parked.new.dev) (parked_entry next) new = c.in_ok-number.ensures.shut t tolds new is parked in
    let its : MaySwap (disk c.make_parked.new.dev) then tolds c.args.at told (parked_entry c.in_ok-number.number) None new c.args.paths.now =
    subst (λ (n : ℕ). MaySwap (disk c.make_parked.new.dev) then tolds c.args.at told (parked_entry n) None new c.args.paths.now) (sym number_is)
    (parked-may-swap s then tolds c.args.at told new c.args.paths.now (disk c.make_parked.new.dev) begun_is few is.standing.entries may shut) in
    effect_then (effect_weaken (λ image left. inl left) (c.make_parked.ensures.crash t tolds is))
    (swaps-as s then tolds c.args.at false new (disk c.make_parked.new.dev) (disk c.swap.new.dev) (ap fixed_of begun_is) slots_are (c.swap.ensures.crash t tolds told new here its))

pub returns-clause-touches : goal.returns-clause-touches
returns-clause-touches g c t = effect_then (c.make_parked.ensures.touches t) (c.swap.ensures.touches t)
