use Rattle.std.proofs.Common.{rules, ◌≡◌, ◌∙◌, ap, subst}
use Rattle.std.specs.Prelude.{IsErrOf}
use Rattle.bk_device.specs.Calls.{ChangesNothing}
use Rattle.bk_device.specs.Compose.{effect_then, effect_weaken}
use Rattle.bk_device.specs.Effects.{Effect}
use Rattle.bk_device.specs.Laws.{nothing_then}
use Rattle.bk_device.specs.declared.trouble.Trouble.TheVariants as trouble
use Rattle.bk_master.specs.declared.record.Record.{Record}
use Rattle.bk_stores.specs.Loading.{shut}
use Rattle.bk_stores.specs.Quiet.{AreQuiet}
use Rattle.bk_stores.specs.QuietLaws.{quiet-moved, quiet-record}
use Rattle.bk_stores.specs.Stores.{AreStores, IsOurs, LeavesStores, sealed_at, Fixed}
use Rattle.bk_stores.specs.declared.error.LoadError.TheVariants as load
use Rattle.bk_stores.proofs.Loaded.{shut-leaves}
use Rattle.bk_stores.proofs.stores.Stores.load.Goals as goal

pub returns-in_err-master-clause-broken : goal.returns-in_err-master-clause-broken
returns-in_err-master-clause-broken g c t broken settled fixed tolds is =
    let its : IsErrOf c.open_master.result load.Broken = search rules in
    c.open_master.ensures.broken t its fixed tolds is

pub returns-in_err-settle_in-clause-broken : goal.returns-in_err-settle_in-clause-broken
returns-in_err-settle_in-clause-broken g c t broken settled fixed tolds is =
    let its : IsErrOf c.settle_in.result trouble.Broken = search rules in
    let here : AreStores (g.D.Device.disk c.open_master.new.dev) (shut c.in_ok-master.master) tolds = c.in_ok-master.ensures.stands t settled fixed tolds is in
    c.settle_in.ensures.broken its tolds here.standing.entries

pub returns-in_err-settle_in-clause-crash : goal.returns-in_err-settle_in-clause-crash
returns-in_err-settle_in-clause-crash g c t settled fixed tolds is =
    let here : AreStores (g.D.Device.disk c.open_master.new.dev) (shut c.in_ok-master.master) tolds = c.in_ok-master.ensures.stands t settled fixed tolds is in
    effect_then (c.open_master.ensures.crash t settled fixed tolds is)
    (effect_weaken (λ image left. shut-leaves c.args.number fixed c.in_ok-master.master tolds image here.standing.entries.count left)
    (subst (λ (o : Fixed). Effect IsOurs (LeavesStores o (sealed_at (shut c.in_ok-master.master) tolds) tolds) (g.D.Device.disk c.open_master.new.dev) (g.D.Device.disk c.settle_in.new.dev)) (c.in_ok-master.ensures.fixed t fixed tolds is) (c.settle_in.ensures.crash t tolds here)))

pub returns-clause-stands : goal.returns-clause-stands
returns-clause-stands g c t settled fixed tolds is =
    let here : AreStores (g.D.Device.disk c.open_master.new.dev) (shut c.in_ok-master.master) tolds = c.in_ok-master.ensures.stands t settled fixed tolds is in
    c.in_ok-settle_in.ensures.stands t tolds here

pub returns-clause-crash : goal.returns-clause-crash
returns-clause-crash g c t settled fixed tolds is =
    let here : AreStores (g.D.Device.disk c.open_master.new.dev) (shut c.in_ok-master.master) tolds = c.in_ok-master.ensures.stands t settled fixed tolds is in
    effect_then (c.open_master.ensures.crash t settled fixed tolds is)
    (effect_weaken (λ image left. shut-leaves c.args.number fixed c.in_ok-master.master tolds image here.standing.entries.count left)
    (subst (λ (o : Fixed). Effect IsOurs (LeavesStores o (sealed_at (shut c.in_ok-master.master) tolds) tolds) (g.D.Device.disk c.open_master.new.dev) (g.D.Device.disk c.settle_in.new.dev)) (c.in_ok-master.ensures.fixed t fixed tolds is) (c.settle_in.ensures.crash t tolds here)))

pub returns-clause-fixed : goal.returns-clause-fixed
returns-clause-fixed g c t fixed tolds is = c.in_ok-settle_in.ensures.fixed ∙ c.in_ok-master.ensures.fixed t fixed tolds is

pub returns-in_err-settle_in-clause-touches : goal.returns-in_err-settle_in-clause-touches
returns-in_err-settle_in-clause-touches g c t = effect_then (c.open_master.ensures.touches t) (c.settle_in.ensures.touches t)

pub returns-clause-touches : goal.returns-clause-touches
returns-clause-touches g c t = effect_then (c.open_master.ensures.touches t) (c.settle_in.ensures.touches t)

pub returns-clause-made : goal.returns-clause-made
returns-clause-made g c t = (c.in_ok-settle_in.ensures.standing t).master.made

pub returns-clause-still : goal.returns-clause-still
returns-clause-still g c t settled quiet =
    let a = g.D.Device.disk c.args.dev.now in
    let b = g.D.Device.disk c.open_master.new.dev in
    let call : ChangesNothing a b = c.in_ok-master.ensures.still t quiet.is_record.made in
    let here : AreQuiet b.files = quiet-moved call quiet in
    let same : c.in_ok-master.master.record ≡ here.«record» = quiet-record c.in_ok-master.master (c.in_ok-master.ensures.master t) here in
    nothing_then (g.met.D.Device.lawful t c.args.dev.now) call (c.in_ok-settle_in.ensures.still t (ap (λ (r : Record). r.unfinished) same ∙ here.none))
