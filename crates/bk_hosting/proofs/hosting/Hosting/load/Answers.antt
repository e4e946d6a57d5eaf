use Rattle.std.proofs.Common.{rules, ◌≡◌, ◌∙◌, ℕ, List, ap, sym, subst}
use Rattle.std.specs.Prelude.{IsErrOf}
use Rattle.bk_device.specs.Compose.{effect_then}
use Rattle.bk_device.specs.Disk.{Disk}
use Rattle.bk_device.specs.Effects.{Effect}
use Rattle.bk_device.specs.Laws.{nothing_then}
use Rattle.bk_device.specs.declared.trouble.Trouble.TheVariants as trouble
use Rattle.bk_hosted.specs.Hosted.{Hosted}
use Rattle.bk_master.specs.declared.record.Own.{Own}
use Rattle.bk_stores.specs.declared.error.LoadError.TheVariants as loading
use Rattle.bk_stores.specs.QuietLaws.{quiet-moved}
use Rattle.bk_stores.specs.Stores.{Fixed, IsOurs, fixed_of}
use Rattle.bk_hosting.specs.declared.hosting.State.{State}
use Rattle.bk_hosting.specs.Loading.{IsOpening, IsPartly, LeavesUndoing}
use Rattle.bk_hosting.proofs.Loaded.{Held, held, loaded-opening, loaded-partly, loaded-undoing}
use Rattle.bk_hosting.proofs.hosting.Hosting.load.Goals as goal

-- an own part that is the same
as-own : {a b : Disk} {one other : Own} (number : ℕ) (hosted : List Hosted) → other ≡ one → Effect IsOurs (LeavesUndoing number other hosted) a b → Effect IsOurs (LeavesUndoing number one hosted) a b
as-own {a} {b} number hosted same effect = subst (λ (o : Own). Effect IsOurs (LeavesUndoing number o hosted) a b) same effect

pub returns-in_err-stores-clause-crash : goal.returns-in_err-stores-clause-crash
returns-in_err-stores-clause-crash g c = λ tells settled own hosted holds.
    let a = g.D.Device.disk c.args.dev.now in
    let its : Held c.args.number own a.files hosted = held c.args.number own a.files hosted holds in
    loaded-undoing a (g.D.Device.disk c.load.new.dev) c.args.number own hosted its (c.load.ensures.crash tells settled its.fixed its.tolds its.holds)

pub returns-in_err-stores-clause-broken : goal.returns-in_err-stores-clause-broken
returns-in_err-stores-clause-broken g c = λ tells broken settled own hosted holds.
    let its : Held c.args.number own (g.D.Device.disk c.args.dev.now).files hosted = held c.args.number own (g.D.Device.disk c.args.dev.now).files hosted holds in
    let err : IsErrOf c.load.result loading.Broken = search rules in
    c.load.ensures.broken tells err settled its.fixed its.tolds its.holds

pub open_all-requires-clause-partly : goal.open_all-requires-clause-partly
open_all-requires-clause-partly g c κs within =
    subst (λ (ss : List State). IsPartly (record { stores = c.in_ok-stores.stores; states = ss })) (sym c.new.ensures.items) (loaded-partly c.in_ok-stores.stores c.in_ok-stores.ensures.ready c.in_ok-stores.ensures.shut)

pub returns-in_err-open_all-clause-crash : goal.returns-in_err-open_all-clause-crash
returns-in_err-open_all-clause-crash g c = λ tells settled own hosted holds.
    let a = g.D.Device.disk c.args.dev.now in
    let b = g.D.Device.disk c.load.new.dev in
    let its : Held c.args.number own a.files hosted = held c.args.number own a.files hosted holds in
    let first = loaded-undoing a b c.args.number own hosted its (c.load.ensures.crash tells settled its.fixed its.tolds its.holds) in
    let same : fixed_of c.in_ok-stores.stores.master.record ≡ its.fixed = c.in_ok-stores.ensures.fixed tells its.fixed its.tolds its.holds in
    let opening : IsOpening b (record { stores = c.in_ok-stores.stores; states = c.new.result.items }) hosted = subst (λ (ss : List State). IsOpening b (record { stores = c.in_ok-stores.stores; states = ss }) hosted) (sym c.new.ensures.items)
    (loaded-opening b c.in_ok-stores.stores its.tolds hosted (c.in_ok-stores.ensures.stands tells settled its.fixed its.tolds its.holds) (ap (λ (f : Fixed). f.stored) same ∙ its.stored) its.tells its.some) in
    effect_then first (as-own c.args.number hosted (ap (λ (f : Fixed). f.own) same ∙ its.is_own) (c.open_all.ensures.crash tells c.args.number hosted opening))

pub returns-in_err-open_all-clause-broken : goal.returns-in_err-open_all-clause-broken
returns-in_err-open_all-clause-broken g c = λ tells broken settled own hosted holds.
    let a = g.D.Device.disk c.args.dev.now in
    let b = g.D.Device.disk c.load.new.dev in
    let its : Held c.args.number own a.files hosted = held c.args.number own a.files hosted holds in
    let same : fixed_of c.in_ok-stores.stores.master.record ≡ its.fixed = c.in_ok-stores.ensures.fixed tells its.fixed its.tolds its.holds in
    let opening : IsOpening b (record { stores = c.in_ok-stores.stores; states = c.new.result.items }) hosted = subst (λ (ss : List State). IsOpening b (record { stores = c.in_ok-stores.stores; states = ss }) hosted) (sym c.new.ensures.items)
    (loaded-opening b c.in_ok-stores.stores its.tolds hosted (c.in_ok-stores.ensures.stands tells settled its.fixed its.tolds its.holds) (ap (λ (f : Fixed). f.stored) same ∙ its.stored) its.tells its.some) in
    let err : IsErrOf c.open_all.result trouble.Broken = search rules in
    c.open_all.ensures.broken tells err hosted opening

pub returns-clause-stands : goal.returns-clause-stands
returns-clause-stands g c = λ tells settled own hosted holds.
    let a = g.D.Device.disk c.args.dev.now in
    let b = g.D.Device.disk c.load.new.dev in
    let its : Held c.args.number own a.files hosted = held c.args.number own a.files hosted holds in
    let same : fixed_of c.in_ok-stores.stores.master.record ≡ its.fixed = c.in_ok-stores.ensures.fixed tells its.fixed its.tolds its.holds in
    let opening : IsOpening b (record { stores = c.in_ok-stores.stores; states = c.new.result.items }) hosted = subst (λ (ss : List State). IsOpening b (record { stores = c.in_ok-stores.stores; states = ss }) hosted) (sym c.new.ensures.items)
    (loaded-opening b c.in_ok-stores.stores its.tolds hosted (c.in_ok-stores.ensures.stands tells settled its.fixed its.tolds its.holds) (ap (λ (f : Fixed). f.stored) same ∙ its.stored) its.tells its.some) in
    c.in_ok-open_all.ensures.stands tells hosted opening

pub returns-clause-own : goal.returns-clause-own
returns-clause-own g c = λ tells settled own hosted holds.
    let its : Held c.args.number own (g.D.Device.disk c.args.dev.now).files hosted = held c.args.number own (g.D.Device.disk c.args.dev.now).files hosted holds in
    let same : fixed_of c.in_ok-stores.stores.master.record ≡ its.fixed = c.in_ok-stores.ensures.fixed tells its.fixed its.tolds its.holds in
    c.in_ok-open_all.ensures.own ∙ ap (λ (f : Fixed). f.own) same ∙ its.is_own

pub returns-clause-crash : goal.returns-clause-crash
returns-clause-crash g c = λ tells settled own hosted holds.
    let a = g.D.Device.disk c.args.dev.now in
    let b = g.D.Device.disk c.load.new.dev in
    let its : Held c.args.number own a.files hosted = held c.args.number own a.files hosted holds in
    let first = loaded-undoing a b c.args.number own hosted its (c.load.ensures.crash tells settled its.fixed its.tolds its.holds) in
    let same : fixed_of c.in_ok-stores.stores.master.record ≡ its.fixed = c.in_ok-stores.ensures.fixed tells its.fixed its.tolds its.holds in
    let opening : IsOpening b (record { stores = c.in_ok-stores.stores; states = c.new.result.items }) hosted = subst (λ (ss : List State). IsOpening b (record { stores = c.in_ok-stores.stores; states = ss }) hosted) (sym c.new.ensures.items)
    (loaded-opening b c.in_ok-stores.stores its.tolds hosted (c.in_ok-stores.ensures.stands tells settled its.fixed its.tolds its.holds) (ap (λ (f : Fixed). f.stored) same ∙ its.stored) its.tells its.some) in
    effect_then first (as-own c.args.number hosted (ap (λ (f : Fixed). f.own) same ∙ its.is_own) (c.open_all.ensures.crash tells c.args.number hosted opening))

pub returns-clause-touches : goal.returns-clause-touches
returns-clause-touches g c = λ tells. effect_then (c.load.ensures.touches tells) (c.open_all.ensures.touches tells)

pub returns-in_err-open_all-clause-touches : goal.returns-in_err-open_all-clause-touches
returns-in_err-open_all-clause-touches g c = λ tells. effect_then (c.load.ensures.touches tells) (c.open_all.ensures.touches tells)

pub returns-clause-still : goal.returns-clause-still
returns-clause-still g c = λ tells settled quiet.
    let call = c.in_ok-stores.ensures.still tells settled quiet in
    nothing_then (g.met.D.Device.lawful tells c.args.dev.now) call (c.in_ok-open_all.ensures.still tells (quiet-moved call quiet))

pub returns-clause-made : goal.returns-clause-made
returns-clause-made g c = λ tells. (c.in_ok-open_all.ensures.standing tells).master.made
