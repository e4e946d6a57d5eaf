use Rattle.std.proofs.Common.{rules, ◌≡◌, ◌∙◌, Some}
use Rattle.std.proofs.lemmas.Result.{IfOk-weaker}
use Rattle.std.specs.Prelude.{slice_get, IsErrOf}
use Rattle.bk_stores.specs.Parking.{IsParked, Spells}
use Rattle.bk_stores.specs.Stores.{HoldsNote}
use Rattle.bk_device.specs.declared.trouble.Trouble.TheVariants.{Broken}
use Rattle.bk_stores.proofs.Noted.{holds-spells, parked-note, read-parked, told-at}
use Rattle.bk_stores.proofs.stores.Stores.noted.Goals as goal

pub returns-in_err-bytes-clause-broken : goal.returns-in_err-bytes-clause-broken
returns-in_err-bytes-clause-broken g c t broken tolds is =
    let a = g.D.Device.disk c.args.dev.now in
    let s = c.args.self.now in
    let it = c.store_at-number.ensures in
    let also : slice_get s.master.record.databases c.args.at ≡ Some it.0 = search rules in
    let told = told-at s tolds c.args.at c.requires.parked.0 is c.requires.parked.1 in
    let holds : HoldsNote c.store_at-number.result told.0 a.files = parked-note s tolds c.args.at c.store_at-number.result c.requires.parked.0 it.0 told.0 is c.requires.parked.1 c.requires.parked.2 also it.2 told.1 in
    let its : IsErrOf c.note_of.result Broken = search rules in
    c.note_of.ensures.broken t its holds.log holds.log_is

pub returns-clause-broken : goal.returns-clause-broken
returns-clause-broken g c t broken tolds is =
    let a = g.D.Device.disk c.args.dev.now in
    let s = c.args.self.now in
    let it = c.store_at-number.ensures in
    let also : slice_get s.master.record.databases c.args.at ≡ Some it.0 = search rules in
    let told = told-at s tolds c.args.at c.requires.parked.0 is c.requires.parked.1 in
    let holds : HoldsNote c.store_at-number.result told.0 a.files = parked-note s tolds c.args.at c.store_at-number.result c.requires.parked.0 it.0 told.0 is c.requires.parked.1 c.requires.parked.2 also it.2 told.1 in
    let spells : Spells c.deref.result.now holds.known told.0.note = holds-spells c.store_at-number.result told.0 a.files c.deref.result.now holds (c.deref.ensures.value ∙ c.in_ok-bytes.ensures.note t holds.log holds.log_is) in
    c.spelled_in.ensures.broken broken holds.known told.0.note spells

pub returns-clause-tells : goal.returns-clause-tells
returns-clause-tells g c t tolds told is told_is =
    let a = g.D.Device.disk c.args.dev.now in
    let s = c.args.self.now in
    let it = c.store_at-number.ensures in
    let also : slice_get s.master.record.databases c.args.at ≡ Some it.0 = search rules in
    let holds : HoldsNote c.store_at-number.result told a.files = parked-note s tolds c.args.at c.store_at-number.result c.requires.parked.0 it.0 told is c.requires.parked.1 c.requires.parked.2 also it.2 told_is in
    let spells : Spells c.deref.result.now holds.known told.note = holds-spells c.store_at-number.result told a.files c.deref.result.now holds (c.deref.ensures.value ∙ c.in_ok-bytes.ensures.note t holds.log holds.log_is) in
    IfOk-weaker c.spelled_in.result (λ x. (x.0 ≡ holds.known) × (x.1.items ≡ told.note)) (λ x. IsParked x.0 x.1.items told)
    (λ x same. read-parked c.store_at-number.result told a.files x.0 x.1.items holds same.0 same.1)
    (c.spelled_in.ensures.told holds.known told.note spells)
