use Rattle.std.proofs.Common.{rules, ◌≡◌, ◌∙◌, ◌<◌, ◌^◌, sym, subst}
use Rattle.bk_device.specs.Effects.{Effect}
use Rattle.bk_master.specs.declared.record.Record.{Record}
use Rattle.bk_master.specs.Spelling.{KeepsRecord}
use Rattle.bk_segments.specs.Files.{AreDurable as LogsAreDurable}
use Rattle.bk_stores.specs.AddLaws.{begun-keeps}
use Rattle.bk_stores.specs.Records.{SharesNone, begun}
use Rattle.bk_stores.specs.StandLaws.{rest-crash}
use Rattle.bk_stores.specs.Standing.{AreStanding}
use Rattle.bk_stores.specs.Stores.{AreStores, IsOurs, Kept, LeavesStores, at_paths, sealed_at, fixed_of}
use Rattle.bk_stores.specs.TouchLaws.{master-touched, none-touched}
use Rattle.bk_stores.proofs.Begun.{begun-crash, begun-free, begun-put, begun-stands}
use Rattle.bk_stores.proofs.stores.Stores.begin_store.Goals as goal

pub returns-in_err-next-clause-crash : goal.returns-in_err-next-clause-crash
returns-in_err-next-clause-crash g c t tolds is shares = rest-crash (g.D.Device.disk c.args.dev.now) c.args.self.now tolds is

pub put-requires-clause-keeps : goal.put-requires-clause-keeps
put-requires-clause-keeps g c =
    let next_is : c.in_ok-next.next ≡ begun c.args.self.now.master.record c.args.paths.now = search rules in
    subst KeepsRecord (sym next_is) (begun-keeps c.args.self.now.master.record c.args.paths.now c.requires.small c.requires.ready.keeps)

pub returns-in_err-put-clause-crash : goal.returns-in_err-put-clause-crash
returns-in_err-put-clause-crash g c t tolds is shares =
    let a = g.D.Device.disk c.args.dev.now in
    let b = g.D.Device.disk c.put.new.dev in
    let s : Kept = record { master = c.self.inside.master; slots = c.self.inside.slots.items } in
    let here = subst (λ (k : Kept). AreStores a k tolds) (sym c.self.view_is) is in
    let none = subst (λ (k : Kept). SharesNone k.master.record.databases tolds (at_paths c.args.paths.now)) (sym c.self.view_is) shares in
    let next_is : c.in_ok-next.next ≡ begun c.self.inside.master.record c.args.paths.now = search rules in
    let few : c.self.inside.master.record.next < 2 ^ 32 = search rules in
    subst (λ (k : Kept). Effect IsOurs (LeavesStores (fixed_of k.master.record) (sealed_at k tolds) tolds) a b) c.self.view_is (begun-crash s tolds c.args.paths.now c.in_ok-next.next few c.requires.small next_is here none (c.put.ensures.crash t))

pub returns-clause-stands : goal.returns-clause-stands
returns-clause-stands g c t tolds is shares =
    let a = g.D.Device.disk c.args.dev.now in
    let s : Kept = record { master = c.self.inside.master; slots = c.self.inside.slots.items } in
    let here = subst (λ (k : Kept). AreStores a k tolds) (sym c.self.view_is) is in
    let none = subst (λ (k : Kept). SharesNone k.master.record.databases tolds (at_paths c.args.paths.now)) (sym c.self.view_is) shares in
    let next_is : c.in_ok-next.next ≡ begun c.self.inside.master.record c.args.paths.now = search rules in
    let few : c.self.inside.master.record.next < 2 ^ 32 = search rules in
    begun-stands s tolds c.args.paths.now c.put.new.self few c.requires.small (c.in_ok-put.ensures.put ∙ next_is) here none (c.in_ok-put.ensures.stands t) (c.put.ensures.crash t)

pub returns-clause-crash : goal.returns-clause-crash
returns-clause-crash g c t tolds is shares =
    let a = g.D.Device.disk c.args.dev.now in
    let b = g.D.Device.disk c.put.new.dev in
    let s : Kept = record { master = c.self.inside.master; slots = c.self.inside.slots.items } in
    let here = subst (λ (k : Kept). AreStores a k tolds) (sym c.self.view_is) is in
    let none = subst (λ (k : Kept). SharesNone k.master.record.databases tolds (at_paths c.args.paths.now)) (sym c.self.view_is) shares in
    let next_is : c.in_ok-next.next ≡ begun c.self.inside.master.record c.args.paths.now = search rules in
    let few : c.self.inside.master.record.next < 2 ^ 32 = search rules in
    subst (λ (k : Kept). Effect IsOurs (LeavesStores (fixed_of k.master.record) (sealed_at k tolds) tolds) a b) c.self.view_is (begun-crash s tolds c.args.paths.now c.in_ok-next.next few c.requires.small next_is here none (c.put.ensures.crash t))

pub returns-clause-standing : goal.returns-clause-standing
returns-clause-standing g c t =
    let a = g.D.Device.disk c.args.dev.now in
    let s : Kept = record { master = c.self.inside.master; slots = c.self.inside.slots.items } in
    let here = subst (λ (k : Kept). AreStanding a k) (sym c.self.view_is) (c.requires.standing t) in
    let next_is : c.in_ok-next.next ≡ begun c.self.inside.master.record c.args.paths.now = search rules in
    let small : c.put.new.self.record.next < 2 ^ 32 = subst (λ (n : Record). n.next < 2 ^ 32) (sym c.in_ok-put.ensures.put) c.in_ok-next.ensures.small in
    begun-put s c.args.paths.now c.put.new.self (c.in_ok-put.ensures.put ∙ next_is) small here (c.in_ok-put.ensures.stands t) (c.put.ensures.crash t)

pub returns-clause-free : goal.returns-clause-free
returns-clause-free g c t tolds is =
    let a = g.D.Device.disk c.args.dev.now in
    let s : Kept = record { master = c.self.inside.master; slots = c.self.inside.slots.items } in
    let here = subst (λ (k : Kept). AreStores a k tolds) (sym c.self.view_is) is in
    let few : s.master.record.next < 2 ^ 32 = search rules in
    subst (λ (k : Kept). LogsAreDurable k.master.record.next (g.D.Device.disk c.put.new.dev)) c.self.view_is (begun-free s tolds few here (c.put.ensures.crash t))

pub returns-in_err-next-clause-touches : goal.returns-in_err-next-clause-touches
returns-in_err-next-clause-touches g c t = none-touched (g.D.Device.disk c.args.dev.now)

pub returns-in_err-put-clause-touches : goal.returns-in_err-put-clause-touches
returns-in_err-put-clause-touches g c t = master-touched (c.put.ensures.crash t)

pub returns-clause-touches : goal.returns-clause-touches
returns-clause-touches g c t = master-touched (c.put.ensures.crash t)
