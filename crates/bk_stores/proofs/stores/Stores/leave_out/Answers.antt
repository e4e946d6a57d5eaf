use Rattle.std.proofs.Common.{rules, ◌≡◌, ◌<◌, ◌∙◌, List, Option, Some, inl, length, sym, subst}
use Rattle.std.specs.Prelude.{remove, slice_get}
use Rattle.bk_device.specs.Compose.{effect_weaken}
use Rattle.bk_master.specs.declared.record.Entry.{Entry}
use Rattle.bk_store.specs.Store.{Kept as KeptStore}
use Rattle.bk_stores.specs.Making.{Drops, MayRemove}
use Rattle.bk_stores.specs.Records.{left_out}
use Rattle.bk_stores.specs.StandLaws.{rest-crash}
use Rattle.bk_stores.specs.Standing.{AreStanding}
use Rattle.bk_stores.specs.Stores.{AreStores, Kept}
use Rattle.bk_stores.specs.TouchLaws.{master-touched, none-touched}
use Rattle.bk_stores.proofs.LeftOut.{left-crash, left-put, left-stands}
use Rattle.bk_stores.proofs.stores.Stores.leave_out.Goals as goal

pub returns-in_err-next-clause-crash : goal.returns-in_err-next-clause-crash
returns-in_err-next-clause-crash g c t tolds told is may = effect_weaken (λ image here. inl here) (rest-crash (g.D.Device.disk c.args.dev.now) c.args.self.now tolds is)

pub returns-in_err-put-clause-crash : goal.returns-in_err-put-clause-crash
returns-in_err-put-clause-crash g c t tolds told is may =
    let disk = g.D.Device.disk in
    let a = disk c.args.dev.now in
    let b = disk c.put.new.dev in
    let s : Kept = record { master = c.self.inside.master; slots = c.self.inside.slots.items } in
    let here = subst (λ (k : Kept). AreStores a k tolds) (sym c.self.view_is) is in
    let its = subst (λ (k : Kept). MayRemove k tolds c.args.at told c.args.paths.now) (sym c.self.view_is) may in
    let e : Entry = c.store_at-number.ensures.0 in
    let there : slice_get s.master.record.databases c.args.at ≡ Some e = search rules in
    let next_is : c.in_ok-next.next ≡ left_out s.master.record c.args.at e.store c.args.paths.now = search rules in
    subst (λ (k : Kept). Drops k tolds c.args.at a b) c.self.view_is (left-crash s tolds c.args.at told e c.args.paths.now c.in_ok-next.next c.requires.small next_is there here its (c.put.ensures.crash t))

pub returns-clause-stands : goal.returns-clause-stands
returns-clause-stands g c t tolds told is may =
    let disk = g.D.Device.disk in
    let a = disk c.args.dev.now in
    let b = disk c.put.new.dev in
    let s : Kept = record { master = c.self.inside.master; slots = c.self.inside.slots.items } in
    let here = subst (λ (k : Kept). AreStores a k tolds) (sym c.self.view_is) is in
    let its = subst (λ (k : Kept). MayRemove k tolds c.args.at told c.args.paths.now) (sym c.self.view_is) may in
    let e : Entry = c.store_at-number.ensures.0 in
    let there : slice_get s.master.record.databases c.args.at ≡ Some e = search rules in
    let next_is : c.in_ok-next.next ≡ left_out s.master.record c.args.at e.store c.args.paths.now = search rules in
    let slots_are : c.drop_slot.new.slots.items ≡ remove s.slots c.args.at = search rules in
    subst (λ (slots : List (Option KeptStore)). AreStores b (record { master = c.put.new.self; slots = slots }) (remove tolds c.args.at)) (sym slots_are)
    (left-stands s tolds c.args.at told e c.args.paths.now c.put.new.self c.requires.small (c.in_ok-put.ensures.put ∙ next_is) there here its (c.in_ok-put.ensures.stands t) (c.put.ensures.crash t))

pub returns-clause-crash : goal.returns-clause-crash
returns-clause-crash g c t tolds told is may =
    let disk = g.D.Device.disk in
    let a = disk c.args.dev.now in
    let b = disk c.put.new.dev in
    let s : Kept = record { master = c.self.inside.master; slots = c.self.inside.slots.items } in
    let here = subst (λ (k : Kept). AreStores a k tolds) (sym c.self.view_is) is in
    let its = subst (λ (k : Kept). MayRemove k tolds c.args.at told c.args.paths.now) (sym c.self.view_is) may in
    let e : Entry = c.store_at-number.ensures.0 in
    let there : slice_get s.master.record.databases c.args.at ≡ Some e = search rules in
    let next_is : c.in_ok-next.next ≡ left_out s.master.record c.args.at e.store c.args.paths.now = search rules in
    subst (λ (k : Kept). Drops k tolds c.args.at a b) c.self.view_is (left-crash s tolds c.args.at told e c.args.paths.now c.in_ok-next.next c.requires.small next_is there here its (c.put.ensures.crash t))

pub returns-clause-standing : goal.returns-clause-standing
returns-clause-standing g c t =
    let a = g.D.Device.disk c.args.dev.now in
    let b = g.D.Device.disk c.put.new.dev in
    let s : Kept = record { master = c.self.inside.master; slots = c.self.inside.slots.items } in
    let here = subst (λ (k : Kept). AreStanding a k) (sym c.self.view_is) (c.requires.standing t) in
    let filled = subst (λ (k : Kept). c.args.at < length k.slots) (sym c.self.view_is) c.requires.inside in
    let e : Entry = c.store_at-number.ensures.0 in
    let there : slice_get s.master.record.databases c.args.at ≡ Some e = search rules in
    let next_is : c.in_ok-next.next ≡ left_out s.master.record c.args.at e.store c.args.paths.now = search rules in
    let slots_are : c.drop_slot.new.slots.items ≡ remove s.slots c.args.at = search rules in
    subst (λ (slots : List (Option KeptStore)). AreStanding b (record { master = c.put.new.self; slots = slots })) (sym slots_are)
    (left-put s c.args.at e c.args.paths.now c.put.new.self (c.in_ok-put.ensures.put ∙ next_is) there filled here (c.in_ok-put.ensures.stands t) (c.put.ensures.crash t))

pub returns-in_err-next-clause-touches : goal.returns-in_err-next-clause-touches
returns-in_err-next-clause-touches g c t = none-touched (g.D.Device.disk c.args.dev.now)

pub returns-in_err-put-clause-touches : goal.returns-in_err-put-clause-touches
returns-in_err-put-clause-touches g c t = master-touched (c.put.ensures.crash t)

pub returns-clause-touches : goal.returns-clause-touches
returns-clause-touches g c t = master-touched (c.put.ensures.crash t)
