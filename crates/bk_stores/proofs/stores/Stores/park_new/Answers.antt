use Rattle.std.proofs.Common.{rules, ◌≡◌, ◌<◌, ◌^◌, ◌∙◌, ◌∷◌, ◌++◌, ℕ, false, List, [], Option, None, inl, ap, sym, subst}
use Rattle.bk_device.specs.Compose.{effect_then, effect_weaken}
use Rattle.bk_master.specs.declared.record.Record.{Record}
use Rattle.bk_store.specs.Store.{Kept as KeptStore}
use Rattle.bk_stores.specs.Making.{Adds, MayAdd, more_stored}
use Rattle.bk_stores.specs.Records.{begun, parked_entry}
use Rattle.bk_stores.specs.Standing.{Joins}
use Rattle.bk_stores.specs.Stores.{AreStores, IsShut, Kept, fixed_of}
use Rattle.bk_stores.proofs.Created.{creates-as, on-ok}
use Rattle.bk_stores.proofs.Parked.{parked-adds, parked-joins, parked-may-add}
use Rattle.bk_stores.proofs.stores.Stores.park_new.Goals as goal

pub returns-in_err-number-clause-crash : goal.returns-in_err-number-clause-crash
returns-in_err-number-clause-crash g c t tolds told is parked = effect_weaken (λ image here. inl here) (c.make_parked.ensures.crash t tolds is)

pub add-requires-clause-adds : goal.add-requires-clause-adds
add-requires-clause-adds g c =
    let s : Kept = c.args.self.now in
    let then : Kept = c.make_parked.new.self in
    let next : ℕ = s.master.record.next in
    let begun_is : then.master.record ≡ begun s.master.record [] = search rules in
    let slots_are : then.slots ≡ s.slots = search rules in
    let number_is : c.in_ok-number.number ≡ next = search rules in
    subst (Adds then) (sym number_is) (parked-adds s then begun_is slots_are c.requires.few c.requires.ready)

pub add-requires-clause-joins : goal.add-requires-clause-joins
add-requires-clause-joins g c t =
    let disk = g.D.Device.disk in
    let s : Kept = c.args.self.now in
    let then : Kept = c.make_parked.new.self in
    let next : ℕ = s.master.record.next in
    let begun_is : then.master.record ≡ begun s.master.record [] = search rules in
    let slots_are : then.slots ≡ s.slots = search rules in
    let number_is : c.in_ok-number.number ≡ next = search rules in
    let d = disk c.make_parked.new.dev in
    subst (λ (n : ℕ). Joins d then.master.record.databases then.slots (parked_entry n) None) (sym number_is) (parked-joins s then then.slots d begun_is (c.requires.standing t).numbers)

pub returns-clause-fixed : goal.returns-clause-fixed
returns-clause-fixed g c =
    let begun_is : c.make_parked.new.self.master.record ≡ begun c.args.self.now.master.record [] = search rules in
    on-ok c.add.result (λ same. same ∙ ap (λ (x : Record). more_stored (fixed_of x) false) begun_is) c.add.ensures.fixed

pub returns-clause-slots : goal.returns-clause-slots
returns-clause-slots g c =
    let slots_are : c.make_parked.new.self.slots ≡ c.args.self.now.slots = search rules in
    on-ok c.add.result (λ same. same ∙ ap (λ (sl : List (Option KeptStore)). sl ++ None ∷ []) slots_are) c.add.ensures.slots

pub returns-clause-stands : goal.returns-clause-stands
returns-clause-stands g c t tolds told is parked =
    let disk = g.D.Device.disk in
    let s : Kept = c.args.self.now in
    let then : Kept = c.make_parked.new.self in
    let next : ℕ = s.master.record.next in
    let begun_is : then.master.record ≡ begun s.master.record [] = search rules in
    let slots_are : then.slots ≡ s.slots = search rules in
    let number_is : c.in_ok-number.number ≡ next = search rules in
    let few : next < 2 ^ 32 = search rules in
    let here : AreStores (disk c.make_parked.new.dev) then tolds = c.in_ok-number.ensures.stands t tolds is in
    let shut : IsShut (disk c.make_parked.new.dev) (parked_entry next) told = c.in_ok-number.ensures.shut t tolds told is parked in
    let may : MayAdd (disk c.make_parked.new.dev) then tolds (parked_entry c.in_ok-number.number) None told =
    subst (λ (n : ℕ). MayAdd (disk c.make_parked.new.dev) then tolds (parked_entry n) None told) (sym number_is) (parked-may-add s then tolds told (disk c.make_parked.new.dev) begun_is few is.standing.entries shut) in
    c.add.ensures.stands t tolds told here may

pub returns-clause-crash : goal.returns-clause-crash
returns-clause-crash g c t tolds told is parked =
    let disk = g.D.Device.disk in
    let s : Kept = c.args.self.now in
    let then : Kept = c.make_parked.new.self in
    let next : ℕ = s.master.record.next in
    let begun_is : then.master.record ≡ begun s.master.record [] = search rules in
    let slots_are : then.slots ≡ s.slots = search rules in
    let number_is : c.in_ok-number.number ≡ next = search rules in
    let few : next < 2 ^ 32 = search rules in
    let here : AreStores (disk c.make_parked.new.dev) then tolds = c.in_ok-number.ensures.stands t tolds is in
    let shut : IsShut (disk c.make_parked.new.dev) (parked_entry next) told = c.in_ok-number.ensures.shut t tolds told is parked in
    let may : MayAdd (disk c.make_parked.new.dev) then tolds (parked_entry c.in_ok-number.number) None told =
    subst (λ (n : ℕ). MayAdd (disk c.make_parked.new.dev) then tolds (parked_entry n) None told) (sym number_is) (parked-may-add s then tolds told (disk c.make_parked.new.dev) begun_is few is.standing.entries shut) in
    effect_then (effect_weaken (λ image left. inl left) (c.make_parked.ensures.crash t tolds is))
    (creates-as s then tolds false told (disk c.make_parked.new.dev) (disk c.add.new.dev) (ap fixed_of begun_is) slots_are (c.add.ensures.crash t tolds told here may))

pub returns-clause-touches : goal.returns-clause-touches
returns-clause-touches g c t = effect_then (c.make_parked.ensures.touches t) (c.add.ensures.touches t)
