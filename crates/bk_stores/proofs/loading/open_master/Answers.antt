use Rattle.std.proofs.Common.{inl, inr, sym, ◌∙◌}
use Rattle.bk_device.specs.Calls.{ChangesNothing}
use Rattle.bk_device.specs.Compose.{effect_then}
use Rattle.bk_device.specs.Disk.{IsSettled}
use Rattle.bk_device.specs.Laws.{nothing_then}
use Rattle.bk_master.specs.Master.{IsMaster, made_file}
use Rattle.bk_stores.specs.Loading.{HoldsInstance, Opens}
use Rattle.bk_stores.specs.TouchLaws.{master-touched}
use Rattle.bk_stores.proofs.Loaded.{found-stands, instance-moved, made-stands, opened-own, opens-made, opens-nothing, opens-synced, settled-moved, load-touched, no-instance-moved}
use Rattle.bk_stores.proofs.loading.open_master.Goals as goal

pub returns-in_err-sync_own-clause-crash : goal.returns-in_err-sync_own-clause-crash
returns-in_err-sync_own-clause-crash g c t settled fixed tolds is = opens-synced c.args.number fixed tolds settled is (c.sync_own.ensures.crash t)

pub returns-in_err-master-clause-crash : goal.returns-in_err-master-clause-crash
returns-in_err-master-clause-crash g c t settled fixed tolds is =
    let disk = g.D.Device.disk in
    let call : ChangesNothing (disk c.args.dev.now) (disk c.sync_own.new.dev) = c.in_ok-sync_own.ensures.effect t in
    let first : Opens c.args.number fixed tolds (disk c.args.dev.now) (disk c.sync_own.new.dev) = opens-nothing c.args.number fixed tolds settled is call in
    let here : IsSettled (disk c.sync_own.new.dev) = settled-moved call settled in
    let holds : HoldsInstance c.args.number fixed (disk c.sync_own.new.dev).files tolds = instance-moved c.args.number fixed tolds call is in
    elim holds [
      | inl none ↦ effect_then first (opens-made c.args.number fixed tolds none.1 none.2 (c.load.ensures.crash t none.0 (here made_file)))
      | inr some ↦ effect_then first (opens-nothing c.args.number fixed tolds here (inr some) (c.load.ensures.effect t some.2.is_record.made))
    ]

pub returns-clause-stands : goal.returns-clause-stands
returns-clause-stands g c t settled fixed tolds is =
    let disk = g.D.Device.disk in
    let call : ChangesNothing (disk c.args.dev.now) (disk c.sync_own.new.dev) = c.in_ok-sync_own.ensures.effect t in
    let here : IsSettled (disk c.sync_own.new.dev) = settled-moved call settled in
    let holds : HoldsInstance c.args.number fixed (disk c.sync_own.new.dev).files tolds = instance-moved c.args.number fixed tolds call is in
    let master : IsMaster (disk c.load.new.dev) c.in_ok-master.master = c.in_ok-master.ensures.stands t (inr (c.in_ok-sync_own.ensures.durable t)) in
    elim holds [
      | inl none ↦ made-stands c.in_ok-master.master tolds c.args.number here none.2 (c.load.ensures.crash t none.0 (here made_file)) (c.in_ok-master.ensures.fresh t none.0) master
      | inr some ↦ found-stands c.in_ok-master.master tolds some.0 here some.2 (c.load.ensures.effect t some.2.is_record.made) (c.in_ok-master.ensures.loaded t some.2.is_record.made) master
    ]

pub returns-clause-crash : goal.returns-clause-crash
returns-clause-crash g c t settled fixed tolds is =
    let disk = g.D.Device.disk in
    let call : ChangesNothing (disk c.args.dev.now) (disk c.sync_own.new.dev) = c.in_ok-sync_own.ensures.effect t in
    let first : Opens c.args.number fixed tolds (disk c.args.dev.now) (disk c.sync_own.new.dev) = opens-nothing c.args.number fixed tolds settled is call in
    let here : IsSettled (disk c.sync_own.new.dev) = settled-moved call settled in
    let holds : HoldsInstance c.args.number fixed (disk c.sync_own.new.dev).files tolds = instance-moved c.args.number fixed tolds call is in
    elim holds [
      | inl none ↦ effect_then first (opens-made c.args.number fixed tolds none.1 none.2 (c.load.ensures.crash t none.0 (here made_file)))
      | inr some ↦ effect_then first (opens-nothing c.args.number fixed tolds here (inr some) (c.load.ensures.effect t some.2.is_record.made))
    ]

pub returns-clause-fixed : goal.returns-clause-fixed
returns-clause-fixed g c t fixed tolds is =
    let disk = g.D.Device.disk in
    let b = disk c.sync_own.new.dev in
    let call : ChangesNothing (disk c.args.dev.now) b = c.in_ok-sync_own.ensures.effect t in
    let holds : HoldsInstance c.args.number fixed b.files tolds = instance-moved c.args.number fixed tolds call is in
    opened-own c.args.number fixed tolds b.files c.in_ok-master.master holds (c.in_ok-master.ensures.fresh t) (c.in_ok-master.ensures.loaded t)

pub returns-in_err-sync_own-clause-touches : goal.returns-in_err-sync_own-clause-touches
returns-in_err-sync_own-clause-touches g c t = master-touched (c.sync_own.ensures.crash t)

pub returns-in_err-master-clause-touches : goal.returns-in_err-master-clause-touches
returns-in_err-master-clause-touches g c t = load-touched c.args.number (c.in_ok-sync_own.ensures.effect t) (c.in_ok-sync_own.ensures.durable t) (c.load.ensures.effect t) (c.load.ensures.crash t)

pub returns-clause-touches : goal.returns-clause-touches
returns-clause-touches g c t = load-touched c.args.number (c.in_ok-sync_own.ensures.effect t) (c.in_ok-sync_own.ensures.durable t) (c.load.ensures.effect t) (c.load.ensures.crash t)

pub returns-clause-no_instance : goal.returns-clause-no_instance
returns-clause-no_instance g c t = λ is. c.in_ok-master.ensures.no_instance t (no-instance-moved (c.in_ok-sync_own.ensures.effect t) is)

pub returns-clause-still : goal.returns-clause-still
returns-clause-still g c t made =
    let call : ChangesNothing (g.D.Device.disk c.args.dev.now) (g.D.Device.disk c.sync_own.new.dev) = c.in_ok-sync_own.ensures.effect t in
    nothing_then (g.met.D.Device.lawful t c.args.dev.now) call (c.load.ensures.effect t (λ none. made (sym (call.files made_file) ∙ none)))
