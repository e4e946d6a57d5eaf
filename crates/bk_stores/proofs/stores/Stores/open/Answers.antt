use Rattle.std.proofs.Common.{rules, ◌≡◌, ◌<◌, ◌∙◌, ℕ, List, Option, Some, None, length, set, true, ap, sym, subst, arith}
use Rattle.std.specs.Prelude.{slice_get, IsErrOf}
use Rattle.bk_reopening.specs.declared.error.OpenError.TheVariants.{Foreign}
use Rattle.bk_master.specs.declared.record.Entry.{Entry}
use Rattle.bk_reopening.specs.Reopening.{IsClosed, Recovers, settled}
use Rattle.bk_store.specs.Store.{Kept as KeptStore}
use Rattle.bk_store.specs.Told.{Told}
use Rattle.bk_stores.specs.ListLaws.{got, got-inside, got-one}
use Rattle.bk_reopening.specs.OpeningQuiet.{IsQuiet}
use Rattle.bk_stores.specs.Making.{IsSealed}
use Rattle.bk_stores.specs.QuietLaws.{quiet-entry}
use Rattle.bk_stores.specs.Standing.{AreStanding, AreUnused, IsStanding}
use Rattle.bk_stores.specs.StandingLaws.{opened-standing}
use Rattle.bk_stores.specs.Stores.{AreStores, IsShut, Kept}
use Rattle.bk_stores.specs.TouchLaws.{database-touched}
use Rattle.bk_stores.proofs.Opened.{opened-crash, opened-stands, opened-unused, shut-closed}
use Rattle.bk_stores.proofs.stores.Stores.open.Goals as goal

pub returns-in_err-opened-clause-crash : goal.returns-in_err-opened-clause-crash
returns-in_err-opened-clause-crash g c t tolds told is told_is =
    let disk = g.D.Device.disk in
    let a = disk c.args.dev.now in
    let r = c.args.self.now.master.record in
    let it = c.store_at-number.ensures in
    let e : Entry = it.0 in
    let n = c.store_at-number.result in
    let there : slice_get r.databases c.args.at ≡ Some e = search rules in
    let stored : e.is_stored ≡ true = subst (λ (f : Entry). f.is_stored ≡ true) (got-one r.databases c.args.at c.requires.stored.0 e c.requires.stored.1 there) c.requires.stored.2 in
    let shut : IsShut a e told = is.standing.stand c.args.at e None told (there, told_is) c.requires.shut in
    let closed : IsClosed n told a = subst (λ (m : ℕ). IsClosed m told a) it.2 (shut-closed a e told stored shut) in
    let effect : Recovers e.store told a (disk c.load.new.dev) = subst (λ (m : ℕ). Recovers m told a (disk c.load.new.dev)) (sym it.2) (c.load.ensures.crash t told closed) in
    opened-crash c.args.self.now tolds c.args.at e told is (there, told_is) stored c.requires.shut effect

pub returns-in_err-opened-clause-broken : goal.returns-in_err-opened-clause-broken
returns-in_err-opened-clause-broken g c t broken tolds is =
    let inside : c.args.at < length tolds = let less = got-inside c.args.self.now.slots c.args.at None c.requires.shut in omega (arith, less, is.standing.count) in
    let one = got tolds c.args.at inside in
    let told : Told = one.0 in
    let told_is = one.1 in
    let disk = g.D.Device.disk in
    let a = disk c.args.dev.now in
    let r = c.args.self.now.master.record in
    let it = c.store_at-number.ensures in
    let e : Entry = it.0 in
    let n = c.store_at-number.result in
    let there : slice_get r.databases c.args.at ≡ Some e = search rules in
    let stored : e.is_stored ≡ true = subst (λ (f : Entry). f.is_stored ≡ true) (got-one r.databases c.args.at c.requires.stored.0 e c.requires.stored.1 there) c.requires.stored.2 in
    let shut : IsShut a e told = is.standing.stand c.args.at e None told (there, told_is) c.requires.shut in
    let closed : IsClosed n told a = subst (λ (m : ℕ). IsClosed m told a) it.2 (shut-closed a e told stored shut) in
    let foreign : IsErrOf c.load.result Foreign = search rules in
    c.load.ensures.foreign t foreign told closed

pub returns-in_err-store-clause-crash : goal.returns-in_err-store-clause-crash
returns-in_err-store-clause-crash g c t tolds told is told_is =
    let disk = g.D.Device.disk in
    let a = disk c.args.dev.now in
    let r = c.args.self.now.master.record in
    let it = c.store_at-number.ensures in
    let e : Entry = it.0 in
    let n = c.store_at-number.result in
    let there : slice_get r.databases c.args.at ≡ Some e = search rules in
    let stored : e.is_stored ≡ true = subst (λ (f : Entry). f.is_stored ≡ true) (got-one r.databases c.args.at c.requires.stored.0 e c.requires.stored.1 there) c.requires.stored.2 in
    let shut : IsShut a e told = is.standing.stand c.args.at e None told (there, told_is) c.requires.shut in
    let closed : IsClosed n told a = subst (λ (m : ℕ). IsClosed m told a) it.2 (shut-closed a e told stored shut) in
    let effect : Recovers e.store told a (disk c.load.new.dev) = subst (λ (m : ℕ). Recovers m told a (disk c.load.new.dev)) (sym it.2) (c.load.ensures.crash t told closed) in
    opened-crash c.args.self.now tolds c.args.at e told is (there, told_is) stored c.requires.shut effect

pub returns-in_err-store-clause-broken : goal.returns-in_err-store-clause-broken
returns-in_err-store-clause-broken g c t broken tolds is =
    let inside : c.args.at < length tolds = let less = got-inside c.args.self.now.slots c.args.at None c.requires.shut in omega (arith, less, is.standing.count) in
    let one = got tolds c.args.at inside in
    let told : Told = one.0 in
    let told_is = one.1 in
    let a = g.D.Device.disk c.args.dev.now in
    let r = c.args.self.now.master.record in
    let it = c.store_at-number.ensures in
    let e : Entry = it.0 in
    let there : slice_get r.databases c.args.at ≡ Some e = search rules in
    let stored : e.is_stored ≡ true = subst (λ (f : Entry). f.is_stored ≡ true) (got-one r.databases c.args.at c.requires.stored.0 e c.requires.stored.1 there) c.requires.stored.2 in
    let shut : IsShut a e told = is.standing.stand c.args.at e None told (there, told_is) c.requires.shut in
    let closed : IsClosed c.store_at-number.result told a = subst (λ (m : ℕ). IsClosed m told a) it.2 (shut-closed a e told stored shut) in
    let store = c.in_ok-opened.opened in
    let unused = opened-unused c.args.self.now tolds c.args.at e told store is (there, told_is) stored c.requires.shut (c.in_ok-opened.ensures.stands t told closed) in
    let none : AreUnused c.args.self.now.slots store.paged.facts.files → ⊥ = search rules in
    none unused

pub returns-clause-standing : goal.returns-clause-standing
returns-clause-standing g c t =
    let b = g.D.Device.disk c.load.new.dev in
    let s = c.args.self.now in
    let it = c.store_at-number.ensures in
    let e : Entry = it.0 in
    let there : slice_get s.master.record.databases c.args.at ≡ Some e = search rules in
    let store = c.in_ok-opened.opened in
    let stands : IsStanding b e store = record { number = c.in_ok-opened.ensures.ends.0 ∙ sym it.2; fit = c.in_ok-opened.ensures.fit; standing = c.in_ok-opened.ensures.standing t } in
    let unused : AreUnused s.slots store.paged.facts.files = c.in_ok-store.ensures.unused in
    let after = opened-standing s c.args.at e store (c.requires.standing t) c.requires.shut there stands unused (c.in_ok-opened.ensures.touches t) in
    let same : c.in_ok-store.store ≡ store = c.in_ok-store.ensures.same in
    let slots_are : c.put_slot.new.slots.items ≡ set c.self.inside.slots.items c.args.at (Some store) = c.put_slot.ensures ∙ ap (λ (own : KeptStore). set c.self.inside.slots.items c.args.at (Some own)) same in
    subst (λ (slots : List (Option KeptStore)). AreStanding b (record { master = c.self.inside.master; slots = slots })) (sym slots_are)
    (subst (λ (k : Kept). AreStanding b (record k { slots = set k.slots c.args.at (Some store) })) (sym c.self.view_is) after)

pub returns-clause-stands : goal.returns-clause-stands
returns-clause-stands g c t tolds told is told_is =
    let disk = g.D.Device.disk in
    let a = disk c.args.dev.now in
    let r = c.args.self.now.master.record in
    let it = c.store_at-number.ensures in
    let e : Entry = it.0 in
    let n = c.store_at-number.result in
    let there : slice_get r.databases c.args.at ≡ Some e = search rules in
    let stored : e.is_stored ≡ true = subst (λ (f : Entry). f.is_stored ≡ true) (got-one r.databases c.args.at c.requires.stored.0 e c.requires.stored.1 there) c.requires.stored.2 in
    let shut : IsShut a e told = is.standing.stand c.args.at e None told (there, told_is) c.requires.shut in
    let closed : IsClosed n told a = subst (λ (m : ℕ). IsClosed m told a) it.2 (shut-closed a e told stored shut) in
    let effect : Recovers e.store told a (disk c.load.new.dev) = subst (λ (m : ℕ). Recovers m told a (disk c.load.new.dev)) (sym it.2) (c.load.ensures.crash t told closed) in
    let b = disk c.load.new.dev in
    let store = c.in_ok-opened.opened in
    let number : store.paged.log.db ≡ e.store = c.in_ok-opened.ensures.ends.0 ∙ sym it.2 in
    let after = opened-stands c.args.self.now tolds c.args.at e told store is (there, told_is) stored effect number c.in_ok-opened.ensures.fit (c.in_ok-opened.ensures.stands t told closed) in
    let same : c.in_ok-store.store ≡ store = c.in_ok-store.ensures.same in
    let slots_are : c.put_slot.new.slots.items ≡ set c.self.inside.slots.items c.args.at (Some store) = c.put_slot.ensures ∙ ap (λ (own : KeptStore). set c.self.inside.slots.items c.args.at (Some own)) same in
    subst (λ (slots : List (Option KeptStore)). AreStores b (record { master = c.self.inside.master; slots = slots }) (set tolds c.args.at (settled told))) (sym slots_are)
    (subst (λ (k : Kept). AreStores b (record k { slots = set k.slots c.args.at (Some store) }) (set tolds c.args.at (settled told))) (sym c.self.view_is) after)

pub returns-clause-crash : goal.returns-clause-crash
returns-clause-crash g c t tolds told is told_is =
    let disk = g.D.Device.disk in
    let a = disk c.args.dev.now in
    let r = c.args.self.now.master.record in
    let it = c.store_at-number.ensures in
    let e : Entry = it.0 in
    let n = c.store_at-number.result in
    let there : slice_get r.databases c.args.at ≡ Some e = search rules in
    let stored : e.is_stored ≡ true = subst (λ (f : Entry). f.is_stored ≡ true) (got-one r.databases c.args.at c.requires.stored.0 e c.requires.stored.1 there) c.requires.stored.2 in
    let shut : IsShut a e told = is.standing.stand c.args.at e None told (there, told_is) c.requires.shut in
    let closed : IsClosed n told a = subst (λ (m : ℕ). IsClosed m told a) it.2 (shut-closed a e told stored shut) in
    let effect : Recovers e.store told a (disk c.load.new.dev) = subst (λ (m : ℕ). Recovers m told a (disk c.load.new.dev)) (sym it.2) (c.load.ensures.crash t told closed) in
    opened-crash c.args.self.now tolds c.args.at e told is (there, told_is) stored c.requires.shut effect

pub returns-clause-opens : goal.returns-clause-opens
returns-clause-opens g c =
    let x : Kept = record { master = c.self.inside.master; slots = c.self.inside.slots.items } in
    let store = c.in_ok-store.store in
    let opened = c.in_ok-opened.ensures in
    let sealed : IsSealed c.in_ok-opened.opened = record { fit = opened.fit; all = opened.ends.1 } in (
      store,
      ap (λ (slots : List (Option KeptStore)). record x { slots = slots }) c.put_slot.ensures ∙ ap (λ (k : Kept). record k { slots = set k.slots c.args.at (Some store) }) c.self.view_is,
      subst IsSealed (sym c.in_ok-store.ensures.same) sealed,
    )

pub returns-clause-touches : goal.returns-clause-touches
returns-clause-touches g c t = database-touched c.store_at-number.result (c.load.ensures.mine t)

pub returns-in_err-opened-clause-touches : goal.returns-in_err-opened-clause-touches
returns-in_err-opened-clause-touches g c t = database-touched c.store_at-number.result (c.load.ensures.mine t)

pub returns-in_err-store-clause-touches : goal.returns-in_err-store-clause-touches
returns-in_err-store-clause-touches g c t = database-touched c.store_at-number.result (c.load.ensures.mine t)

pub returns-clause-still : goal.returns-clause-still
returns-clause-still g c t quiet =
    let a = g.D.Device.disk c.args.dev.now in
    let s : Kept = c.args.self.now in
    let it = c.store_at-number.ensures in
    let e : Entry = it.0 in
    let there : slice_get s.master.record.databases c.args.at ≡ Some e = search rules in
    let stored : e.is_stored ≡ true = subst (λ (f : Entry). f.is_stored ≡ true) (got-one s.master.record.databases c.args.at c.requires.stored.0 e c.requires.stored.1 there) c.requires.stored.2 in
    c.in_ok-opened.ensures.still t (subst (λ (m : ℕ). IsQuiet m a.files) it.2 (quiet-entry s.master c.args.at e (c.requires.standing t).master quiet there stored))
