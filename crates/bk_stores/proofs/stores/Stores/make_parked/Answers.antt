use Rattle.std.proofs.Common.{rules, ◌≡◌, ◌<◌, ◌^◌, ℕ, [], sym, subst}
use Rattle.bk_device.specs.Compose.{effect_then}
use Rattle.bk_device.specs.Effects.{Effect}
use Rattle.bk_master.specs.declared.record.Record.{Record}
use Rattle.bk_paged.specs.Names.{IsOwn}
use Rattle.bk_segments.specs.Files.{AreDurable as LogsAreDurable}
use Rattle.bk_stores.specs.Records.{begun, parked_entry}
use Rattle.bk_stores.specs.Stores.{AreStores, IsShut, Kept}
use Rattle.bk_stores.specs.TouchLaws.{own-touched}
use Rattle.bk_stores.proofs.Created.{beside-crash, beside-standing, beside-stands}
use Rattle.bk_stores.proofs.Parked.{shares-none, unused-none}
use Rattle.bk_stores.proofs.stores.Stores.make_parked.Goals as goal

pub returns-in_err-begin_store-clause-crash : goal.returns-in_err-begin_store-clause-crash
returns-in_err-begin_store-clause-crash g c t tolds is = c.begin_store.ensures.crash t tolds is (shares-none c.args.self.now.master.record.databases tolds)

pub returns-in_err-make_note-clause-crash : goal.returns-in_err-make_note-clause-crash
returns-in_err-make_note-clause-crash g c t tolds is =
    let disk = g.D.Device.disk in
    let s : Kept = c.args.self.now in
    let then : Kept = c.begin_store.new.self in
    let next : ℕ = s.master.record.next in
    let few : next < 2 ^ 32 = search rules in
    let begun_is : then.master.record ≡ begun s.master.record [] = search rules in
    let slots_are : then.slots ≡ s.slots = search rules in
    let record_is : c.record.result.now ≡ s.master.record = search rules in
    let effect : Effect (IsOwn next []) (λ _. Unit {0}) (disk c.begin_store.new.dev) (disk c.make_note.new.dev) =
    subst (λ (x : Record). Effect (IsOwn x.next []) (λ _. Unit {0}) (disk c.begin_store.new.dev) (disk c.make_note.new.dev)) record_is (c.make_note.ensures.crash t) in
    let shares = shares-none s.master.record.databases tolds in
    let here : AreStores (disk c.begin_store.new.dev) then tolds = c.in_ok-begin_store.ensures.stands t tolds is shares in
    effect_then (c.begin_store.ensures.crash t tolds is shares) (beside-crash s then tolds [] [] begun_is slots_are few is.standing.entries shares here effect)

pub returns-clause-standing : goal.returns-clause-standing
returns-clause-standing g c t =
    let disk = g.D.Device.disk in
    let s : Kept = c.args.self.now in
    let then : Kept = c.begin_store.new.self in
    let next : ℕ = s.master.record.next in
    let few : next < 2 ^ 32 = search rules in
    let begun_is : then.master.record ≡ begun s.master.record [] = search rules in
    let slots_are : then.slots ≡ s.slots = search rules in
    let record_is : c.record.result.now ≡ s.master.record = search rules in
    let effect : Effect (IsOwn next []) (λ _. Unit {0}) (disk c.begin_store.new.dev) (disk c.make_note.new.dev) =
    subst (λ (x : Record). Effect (IsOwn x.next []) (λ _. Unit {0}) (disk c.begin_store.new.dev) (disk c.make_note.new.dev)) record_is (c.make_note.ensures.crash t) in
    beside-standing s then [] [] begun_is slots_are (c.requires.standing t).numbers (unused-none s.slots) (c.in_ok-begin_store.ensures.standing t) effect

pub returns-clause-stands : goal.returns-clause-stands
returns-clause-stands g c t tolds is =
    let disk = g.D.Device.disk in
    let s : Kept = c.args.self.now in
    let then : Kept = c.begin_store.new.self in
    let next : ℕ = s.master.record.next in
    let few : next < 2 ^ 32 = search rules in
    let begun_is : then.master.record ≡ begun s.master.record [] = search rules in
    let slots_are : then.slots ≡ s.slots = search rules in
    let record_is : c.record.result.now ≡ s.master.record = search rules in
    let effect : Effect (IsOwn next []) (λ _. Unit {0}) (disk c.begin_store.new.dev) (disk c.make_note.new.dev) =
    subst (λ (x : Record). Effect (IsOwn x.next []) (λ _. Unit {0}) (disk c.begin_store.new.dev) (disk c.make_note.new.dev)) record_is (c.make_note.ensures.crash t) in
    let shares = shares-none s.master.record.databases tolds in
    let here : AreStores (disk c.begin_store.new.dev) then tolds = c.in_ok-begin_store.ensures.stands t tolds is shares in
    beside-stands s then tolds [] [] begun_is few is.standing.entries shares here effect

pub returns-clause-shut : goal.returns-clause-shut
returns-clause-shut g c t tolds told is parked =
    let disk = g.D.Device.disk in
    let s : Kept = c.args.self.now in
    let record_is : c.record.result.now ≡ s.master.record = search rules in
    let free : LogsAreDurable s.master.record.next (disk c.begin_store.new.dev) = c.in_ok-begin_store.ensures.free t tolds is in
    let made : LogsAreDurable c.record.result.now.next (disk c.begin_store.new.dev) = subst (λ (x : Record). LogsAreDurable x.next (disk c.begin_store.new.dev)) (sym record_is) free in
    subst (λ (x : Record). IsShut (disk c.make_note.new.dev) (parked_entry x.next) told) record_is (c.in_ok-make_note.ensures.shut t made told parked)

pub returns-clause-crash : goal.returns-clause-crash
returns-clause-crash g c t tolds is =
    let disk = g.D.Device.disk in
    let s : Kept = c.args.self.now in
    let then : Kept = c.begin_store.new.self in
    let next : ℕ = s.master.record.next in
    let few : next < 2 ^ 32 = search rules in
    let begun_is : then.master.record ≡ begun s.master.record [] = search rules in
    let slots_are : then.slots ≡ s.slots = search rules in
    let record_is : c.record.result.now ≡ s.master.record = search rules in
    let effect : Effect (IsOwn next []) (λ _. Unit {0}) (disk c.begin_store.new.dev) (disk c.make_note.new.dev) =
    subst (λ (x : Record). Effect (IsOwn x.next []) (λ _. Unit {0}) (disk c.begin_store.new.dev) (disk c.make_note.new.dev)) record_is (c.make_note.ensures.crash t) in
    let shares = shares-none s.master.record.databases tolds in
    let here : AreStores (disk c.begin_store.new.dev) then tolds = c.in_ok-begin_store.ensures.stands t tolds is shares in
    effect_then (c.begin_store.ensures.crash t tolds is shares) (beside-crash s then tolds [] [] begun_is slots_are few is.standing.entries shares here effect)

pub returns-in_err-make_note-clause-touches : goal.returns-in_err-make_note-clause-touches
returns-in_err-make_note-clause-touches g c t = effect_then (c.begin_store.ensures.touches t) (own-touched c.record.result.now.next [] (c.make_note.ensures.crash t))

pub returns-clause-touches : goal.returns-clause-touches
returns-clause-touches g c t = effect_then (c.begin_store.ensures.touches t) (own-touched c.record.result.now.next [] (c.make_note.ensures.crash t))
