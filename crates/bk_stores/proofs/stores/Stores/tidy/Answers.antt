use Rattle.std.proofs.Common.{rules, ◌≡◌, List, sym, subst}
use Rattle.bk_device.specs.Compose.{effect_then}
use Rattle.bk_device.specs.Effects.{Effect}
use Rattle.bk_master.specs.declared.record.Unfinished.{Unfinished}
use Rattle.bk_master.specs.Master.{IsMaster}
use Rattle.bk_stores.specs.Loading.{IsOfAny}
use Rattle.bk_stores.specs.StandLaws.{rest-crash}
use Rattle.bk_stores.specs.Standing.{AreStanding}
use Rattle.bk_stores.specs.StandingLaws.{shut-beside}
use Rattle.bk_stores.specs.Stores.{AreStores, IsOurs, Kept, LeavesStores, sealed_at, fixed_of}
use Rattle.bk_stores.specs.TouchLaws.{none-touched}
use Rattle.bk_stores.proofs.Any.{any-crash, any-keeps-master, any-stands, any-touched}
use Rattle.bk_stores.proofs.stores.Stores.tidy.Goals as goal

pub returns-then-is_empty-clause-crash : goal.returns-then-is_empty-clause-crash
returns-then-is_empty-clause-crash g c t tolds is = rest-crash (g.D.Device.disk c.args.dev.now) c.args.self.now tolds is

pub returns-in_err-remove_all-clause-crash : goal.returns-in_err-remove_all-clause-crash
returns-in_err-remove_all-clause-crash g c t tolds is =
    let disk = g.D.Device.disk in
    let a = disk c.args.dev.now in
    let b = disk c.remove_all.new.dev in
    let s : Kept = record { master = c.self.inside.master; slots = c.self.inside.slots.items } in
    let us_are : c.as_slice-2.result.now ≡ s.master.record.unfinished = search rules in
    let effect : Effect (IsOfAny s.master.record.unfinished) (λ _. Unit {0}) a b = subst (λ (us : List Unfinished). Effect (IsOfAny us) (λ _. Unit {0}) a b) us_are (c.remove_all.ensures.crash t) in
    let here = subst (λ (k : Kept). AreStores a k tolds) (sym c.self.view_is) is in
    subst (λ (k : Kept). Effect IsOurs (LeavesStores (fixed_of k.master.record) (sealed_at k tolds) tolds) a b) c.self.view_is (any-crash s tolds here effect)

pub rest-requires-clause-master : goal.rest-requires-clause-master
rest-requires-clause-master g c t =
    let disk = g.D.Device.disk in
    let a = disk c.args.dev.now in
    let b = disk c.remove_all.new.dev in
    let s : Kept = record { master = c.self.inside.master; slots = c.self.inside.slots.items } in
    let us_are : c.as_slice-2.result.now ≡ s.master.record.unfinished = search rules in
    let effect : Effect (IsOfAny s.master.record.unfinished) (λ _. Unit {0}) a b = subst (λ (us : List Unfinished). Effect (IsOfAny us) (λ _. Unit {0}) a b) us_are (c.remove_all.ensures.crash t) in
    let master = subst (λ (k : Kept). IsMaster a k.master) (sym c.self.view_is) (c.requires.master t) in
    subst (λ (k : Kept). IsMaster b k.master) c.self.view_is (any-keeps-master s.master.record.unfinished s.master effect master)

pub returns-clause-stands : goal.returns-clause-stands
returns-clause-stands g c t tolds is =
    let disk = g.D.Device.disk in
    let a = disk c.args.dev.now in
    let b = disk c.remove_all.new.dev in
    let s : Kept = record { master = c.self.inside.master; slots = c.self.inside.slots.items } in
    let us_are : c.as_slice-2.result.now ≡ s.master.record.unfinished = search rules in
    let effect : Effect (IsOfAny s.master.record.unfinished) (λ _. Unit {0}) a b = subst (λ (us : List Unfinished). Effect (IsOfAny us) (λ _. Unit {0}) a b) us_are (c.remove_all.ensures.crash t) in
    let here = subst (λ (k : Kept). AreStores a k tolds) (sym c.self.view_is) is in
    let after : AreStores b c.args.self.now tolds = subst (λ (k : Kept). AreStores b k tolds) c.self.view_is (any-stands s tolds here effect) in
    c.rest.ensures.stands t tolds after

pub returns-clause-crash : goal.returns-clause-crash
returns-clause-crash g c t tolds is =
    let disk = g.D.Device.disk in
    let a = disk c.args.dev.now in
    let b = disk c.remove_all.new.dev in
    let s : Kept = record { master = c.self.inside.master; slots = c.self.inside.slots.items } in
    let us_are : c.as_slice-2.result.now ≡ s.master.record.unfinished = search rules in
    let effect : Effect (IsOfAny s.master.record.unfinished) (λ _. Unit {0}) a b = subst (λ (us : List Unfinished). Effect (IsOfAny us) (λ _. Unit {0}) a b) us_are (c.remove_all.ensures.crash t) in
    let here = subst (λ (k : Kept). AreStores a k tolds) (sym c.self.view_is) is in
    let after : AreStores b c.args.self.now tolds = subst (λ (k : Kept). AreStores b k tolds) c.self.view_is (any-stands s tolds here effect) in
    effect_then (subst (λ (k : Kept). Effect IsOurs (LeavesStores (fixed_of k.master.record) (sealed_at k tolds) tolds) a b) c.self.view_is (any-crash s tolds here effect)) (c.rest.ensures.crash t tolds after)

pub returns-then-is_empty-clause-standing : goal.returns-then-is_empty-clause-standing
returns-then-is_empty-clause-standing g c t numbers shut = record { master = c.requires.master t; numbers = numbers; stores = shut-beside c.args.self.now.master.record.databases c.args.self.now.slots shut }

pub returns-clause-standing : goal.returns-clause-standing
returns-clause-standing g c t numbers shut =
    let disk = g.D.Device.disk in
    let a = disk c.args.dev.now in
    let b = disk c.remove_all.new.dev in
    let s : Kept = record { master = c.self.inside.master; slots = c.self.inside.slots.items } in
    let us_are : c.as_slice-2.result.now ≡ s.master.record.unfinished = search rules in
    let effect : Effect (IsOfAny s.master.record.unfinished) (λ _. Unit {0}) a b = subst (λ (us : List Unfinished). Effect (IsOfAny us) (λ _. Unit {0}) a b) us_are (c.remove_all.ensures.crash t) in
    let master = subst (λ (k : Kept). IsMaster a k.master) (sym c.self.view_is) (c.requires.master t) in
    let after : AreStanding b c.args.self.now = record {
      master = subst (λ (k : Kept). IsMaster b k.master) c.self.view_is (any-keeps-master s.master.record.unfinished s.master effect master);
      numbers = numbers;
      stores = shut-beside c.args.self.now.master.record.databases c.args.self.now.slots shut;
    } in
    c.rest.ensures.standing t after

pub returns-then-is_empty-clause-touches : goal.returns-then-is_empty-clause-touches
returns-then-is_empty-clause-touches g c t = none-touched (g.D.Device.disk c.args.dev.now)

pub returns-in_err-remove_all-clause-touches : goal.returns-in_err-remove_all-clause-touches
returns-in_err-remove_all-clause-touches g c t = any-touched c.as_slice-2.result.now (c.remove_all.ensures.crash t)

pub returns-clause-touches : goal.returns-clause-touches
returns-clause-touches g c t = effect_then (any-touched c.as_slice-2.result.now (c.remove_all.ensures.crash t)) (c.rest.ensures.touches t)
