use Rattle.std.proofs.Common.{rules, ◌≡◌, ◌⊎◌, ◌∙◌, inl, sym, subst}
use Rattle.bk_device.specs.Compose.{effect_weaken}
use Rattle.bk_device.specs.Effects.{Effect}
use Rattle.bk_master.specs.Spelling.{KeepsRecord}
use Rattle.bk_stores.specs.Records.{owned}
use Rattle.bk_stores.specs.StandLaws.{rest-crash}
use Rattle.bk_stores.specs.Standing.{AreStanding}
use Rattle.bk_stores.specs.Stores.{AreStores, IsOurs, Kept, LeavesStores, sealed_at, fixed_of}
use Rattle.bk_stores.specs.TouchLaws.{master-touched, none-touched}
use Rattle.bk_stores.proofs.Owned.{owned-crash, owned-keeps, owned-put, owned-stands}
use Rattle.bk_stores.proofs.stores.Stores.put_own.Goals as goal

pub returns-in_err-next-clause-crash : goal.returns-in_err-next-clause-crash
returns-in_err-next-clause-crash g c t tolds is = effect_weaken (λ image here. inl here) (rest-crash (g.D.Device.disk c.args.dev.now) c.args.self.now tolds is)

pub put-requires-clause-keeps : goal.put-requires-clause-keeps
put-requires-clause-keeps g c =
    let next_is : c.in_ok-next.next ≡ owned c.args.self.now.master.record c.args.own = search rules in
    subst KeepsRecord (sym next_is) (owned-keeps c.args.self.now.master.record c.args.own c.requires.own c.requires.keeps)

pub returns-in_err-put-clause-crash : goal.returns-in_err-put-clause-crash
returns-in_err-put-clause-crash g c t tolds is =
    let a = g.D.Device.disk c.args.dev.now in
    let b = g.D.Device.disk c.put.new.dev in
    let s : Kept = record { master = c.self.inside.master; slots = c.self.inside.slots.items } in
    let here = subst (λ (k : Kept). AreStores a k tolds) (sym c.self.view_is) is in
    let next_is : c.in_ok-next.next ≡ owned c.self.inside.master.record c.args.own = search rules in
    subst (λ (k : Kept). Effect IsOurs (λ image. LeavesStores (fixed_of k.master.record) (sealed_at k tolds) tolds image ⊎ LeavesStores (record (fixed_of k.master.record) { own = c.args.own }) (sealed_at k tolds) tolds image) a b) c.self.view_is
    (owned-crash s c.args.own tolds c.in_ok-next.next c.requires.own next_is here (c.put.ensures.crash t))

pub returns-clause-stands : goal.returns-clause-stands
returns-clause-stands g c t tolds is =
    let a = g.D.Device.disk c.args.dev.now in
    let s : Kept = record { master = c.self.inside.master; slots = c.self.inside.slots.items } in
    let here = subst (λ (k : Kept). AreStores a k tolds) (sym c.self.view_is) is in
    let next_is : c.in_ok-next.next ≡ owned c.self.inside.master.record c.args.own = search rules in
    owned-stands s c.args.own tolds c.put.new.self c.requires.own (c.in_ok-put.ensures.put ∙ next_is) here (c.in_ok-put.ensures.stands t) (c.put.ensures.crash t)

pub returns-clause-crash : goal.returns-clause-crash
returns-clause-crash g c t tolds is =
    let a = g.D.Device.disk c.args.dev.now in
    let b = g.D.Device.disk c.put.new.dev in
    let s : Kept = record { master = c.self.inside.master; slots = c.self.inside.slots.items } in
    let here = subst (λ (k : Kept). AreStores a k tolds) (sym c.self.view_is) is in
    let next_is : c.in_ok-next.next ≡ owned c.self.inside.master.record c.args.own = search rules in
    subst (λ (k : Kept). Effect IsOurs (λ image. LeavesStores (fixed_of k.master.record) (sealed_at k tolds) tolds image ⊎ LeavesStores (record (fixed_of k.master.record) { own = c.args.own }) (sealed_at k tolds) tolds image) a b) c.self.view_is
    (owned-crash s c.args.own tolds c.in_ok-next.next c.requires.own next_is here (c.put.ensures.crash t))

pub returns-clause-standing : goal.returns-clause-standing
returns-clause-standing g c t =
    let a = g.D.Device.disk c.args.dev.now in
    let s : Kept = record { master = c.self.inside.master; slots = c.self.inside.slots.items } in
    let here = subst (λ (k : Kept). AreStanding a k) (sym c.self.view_is) (c.requires.standing t) in
    let next_is : c.in_ok-next.next ≡ owned c.self.inside.master.record c.args.own = search rules in
    owned-put s c.args.own c.put.new.self (c.in_ok-put.ensures.put ∙ next_is) here (c.in_ok-put.ensures.stands t) (c.put.ensures.crash t)

pub returns-in_err-next-clause-touches : goal.returns-in_err-next-clause-touches
returns-in_err-next-clause-touches g c t = none-touched (g.D.Device.disk c.args.dev.now)

pub returns-in_err-put-clause-touches : goal.returns-in_err-put-clause-touches
returns-in_err-put-clause-touches g c t = master-touched (c.put.ensures.crash t)

pub returns-clause-touches : goal.returns-clause-touches
returns-clause-touches g c t = master-touched (c.put.ensures.crash t)
