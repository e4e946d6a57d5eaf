use Rattle.std.proofs.Common.{rules, ◌≡◌, ◌∙◌, ◌∷◌, ◌++◌, [], List, Option, inl, sym, subst}
use Rattle.bk_device.specs.Compose.{effect_weaken}
use Rattle.bk_store.specs.Store.{Kept as KeptStore}
use Rattle.bk_stores.specs.Making.{Adds, Creates, MayAdd}
use Rattle.bk_stores.specs.Records.{rested}
use Rattle.bk_stores.specs.StandLaws.{rest-crash}
use Rattle.bk_stores.specs.Standing.{AreStanding, Joins}
use Rattle.bk_stores.specs.Stores.{AreStores, Kept}
use Rattle.bk_stores.specs.TouchLaws.{master-touched, none-touched}
use Rattle.bk_stores.proofs.Added.{added-crash, added-put, added-stands}
use Rattle.bk_stores.proofs.stores.Stores.add.Goals as goal

pub returns-in_err-push-clause-crash : goal.returns-in_err-push-clause-crash
returns-in_err-push-clause-crash g c t tolds new is may = effect_weaken (λ image here. inl here) (rest-crash (g.D.Device.disk c.args.dev.now) c.args.self.now tolds is)

pub returns-in_err-next-clause-crash : goal.returns-in_err-next-clause-crash
returns-in_err-next-clause-crash g c t tolds new is may = effect_weaken (λ image here. inl here) (rest-crash (g.D.Device.disk c.args.dev.now) c.args.self.now tolds is)

pub returns-in_err-put-clause-crash : goal.returns-in_err-put-clause-crash
returns-in_err-put-clause-crash g c t tolds new is may =
    let a = g.D.Device.disk c.args.dev.now in
    let b = g.D.Device.disk c.put.new.dev in
    let s : Kept = record { master = c.self.inside.master; slots = c.self.inside.slots.items } in
    let here = subst (λ (k : Kept). AreStores a k tolds) (sym c.self.view_is) is in
    let its = subst (λ (k : Kept). MayAdd a k tolds c.args.entry c.args.slot new) (sym c.self.view_is) may in
    let adds = subst (λ (k : Kept). Adds k c.args.entry.store) (sym c.self.view_is) c.requires.adds in
    let next_is : c.in_ok-next.next ≡ rested c.self.inside.master.record (c.self.inside.master.record.databases ++ c.args.entry ∷ []) = search rules in
    subst (λ (k : Kept). Creates k tolds c.args.entry.is_stored new a b) c.self.view_is (added-crash s tolds c.args.entry c.args.slot new c.in_ok-next.next adds next_is here its (c.put.ensures.crash t))

pub returns-clause-stands : goal.returns-clause-stands
returns-clause-stands g c t tolds new is may =
    let a = g.D.Device.disk c.args.dev.now in
    let b = g.D.Device.disk c.put.new.dev in
    let s : Kept = record { master = c.self.inside.master; slots = c.self.inside.slots.items } in
    let here = subst (λ (k : Kept). AreStores a k tolds) (sym c.self.view_is) is in
    let its = subst (λ (k : Kept). MayAdd a k tolds c.args.entry c.args.slot new) (sym c.self.view_is) may in
    let adds = subst (λ (k : Kept). Adds k c.args.entry.store) (sym c.self.view_is) c.requires.adds in
    let next_is : c.in_ok-next.next ≡ rested c.self.inside.master.record (c.self.inside.master.record.databases ++ c.args.entry ∷ []) = search rules in
    let slots_are : c.push.new.self.items ≡ c.self.inside.slots.items ++ c.args.slot ∷ [] = search rules in
    subst (λ (slots : List (Option KeptStore)). AreStores b (record { master = c.put.new.self; slots = slots }) (tolds ++ new ∷ [])) (sym slots_are)
    (added-stands s tolds c.args.entry c.args.slot new c.put.new.self adds (c.in_ok-put.ensures.put ∙ next_is) here its (c.in_ok-put.ensures.stands t) (c.put.ensures.crash t))

pub returns-clause-crash : goal.returns-clause-crash
returns-clause-crash g c t tolds new is may =
    let a = g.D.Device.disk c.args.dev.now in
    let b = g.D.Device.disk c.put.new.dev in
    let s : Kept = record { master = c.self.inside.master; slots = c.self.inside.slots.items } in
    let here = subst (λ (k : Kept). AreStores a k tolds) (sym c.self.view_is) is in
    let its = subst (λ (k : Kept). MayAdd a k tolds c.args.entry c.args.slot new) (sym c.self.view_is) may in
    let adds = subst (λ (k : Kept). Adds k c.args.entry.store) (sym c.self.view_is) c.requires.adds in
    let next_is : c.in_ok-next.next ≡ rested c.self.inside.master.record (c.self.inside.master.record.databases ++ c.args.entry ∷ []) = search rules in
    subst (λ (k : Kept). Creates k tolds c.args.entry.is_stored new a b) c.self.view_is (added-crash s tolds c.args.entry c.args.slot new c.in_ok-next.next adds next_is here its (c.put.ensures.crash t))

pub returns-clause-standing : goal.returns-clause-standing
returns-clause-standing g c t =
    let a = g.D.Device.disk c.args.dev.now in
    let b = g.D.Device.disk c.put.new.dev in
    let s : Kept = record { master = c.self.inside.master; slots = c.self.inside.slots.items } in
    let here = subst (λ (k : Kept). AreStanding a k) (sym c.self.view_is) (c.requires.standing t) in
    let joins = subst (λ (k : Kept). Joins a k.master.record.databases k.slots c.args.entry c.args.slot) (sym c.self.view_is) (c.requires.joins t) in
    let adds = subst (λ (k : Kept). Adds k c.args.entry.store) (sym c.self.view_is) c.requires.adds in
    let next_is : c.in_ok-next.next ≡ rested c.self.inside.master.record (c.self.inside.master.record.databases ++ c.args.entry ∷ []) = search rules in
    let slots_are : c.push.new.self.items ≡ c.self.inside.slots.items ++ c.args.slot ∷ [] = search rules in
    subst (λ (slots : List (Option KeptStore)). AreStanding b (record { master = c.put.new.self; slots = slots })) (sym slots_are)
    (added-put s c.args.entry c.args.slot c.put.new.self adds (c.in_ok-put.ensures.put ∙ next_is) here joins (c.in_ok-put.ensures.stands t) (c.put.ensures.crash t))

pub returns-in_err-push-clause-touches : goal.returns-in_err-push-clause-touches
returns-in_err-push-clause-touches g c t = none-touched (g.D.Device.disk c.args.dev.now)

pub returns-in_err-next-clause-touches : goal.returns-in_err-next-clause-touches
returns-in_err-next-clause-touches g c t = none-touched (g.D.Device.disk c.args.dev.now)

pub returns-in_err-put-clause-touches : goal.returns-in_err-put-clause-touches
returns-in_err-put-clause-touches g c t = master-touched (c.put.ensures.crash t)

pub returns-clause-touches : goal.returns-clause-touches
returns-clause-touches g c t = master-touched (c.put.ensures.crash t)
