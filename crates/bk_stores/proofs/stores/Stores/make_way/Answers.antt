use Rattle.std.proofs.Common.{rules, ◌≡◌, ◌<◌, ◌^◌, List, ℕ, map, refl, sym, subst}
use Rattle.bk_device.specs.Compose.{effect_then}
use Rattle.bk_device.specs.Effects.{Effect, IsName}
use Rattle.bk_filling.specs.Removing.{AreGone, IsPart}
use Rattle.bk_master.specs.declared.record.Record.{Record}
use Rattle.bk_segments.specs.Files.{control_file}
use Rattle.bk_side.specs.Names.{data_file as data_name}
use Rattle.bk_stores.specs.Records.{begun}
use Rattle.bk_stores.specs.StandLaws.{rest-crash}
use Rattle.bk_stores.specs.Standing.{AreUnused}
use Rattle.bk_stores.specs.Stores.{AreStores, at_paths}
use Rattle.bk_stores.specs.TouchLaws.{none-touched, parts-touched}
use Rattle.bk_stores.proofs.Created.{beside-crash, beside-standing, beside-stands, no-control, parts-named, paths-small, shares-at}
use Rattle.bk_stores.proofs.stores.Stores.make_way.Goals as goal

pub returns-in_err-paths-clause-crash : goal.returns-in_err-paths-clause-crash
returns-in_err-paths-clause-crash g c t tolds is shares = rest-crash (g.D.Device.disk c.args.dev.now) c.args.self.now tolds is

pub begin_store-requires-clause-small : goal.begin_store-requires-clause-small
begin_store-requires-clause-small g c =
    let paths_are : c.deref.result.now ≡ map (λ f. f.path) c.args.spec.now.storage.files = search rules in
    paths-small c.args.spec.now c.deref.result.now c.requires.may paths_are

pub returns-in_err-begin_store-clause-crash : goal.returns-in_err-begin_store-clause-crash
returns-in_err-begin_store-clause-crash g c t tolds is shares =
    let paths_are : c.deref.result.now ≡ map (λ f. f.path) c.args.spec.now.storage.files = search rules in
    c.begin_store.ensures.crash t tolds is (shares-at c.args.self.now.master.record.databases tolds c.args.spec.now.storage.files c.deref.result.now paths_are shares)

pub returns-in_err-remove_parts-clause-crash : goal.returns-in_err-remove_parts-clause-crash
returns-in_err-remove_parts-clause-crash g c t tolds is shares =
    let disk = g.D.Device.disk in
    let r = c.args.self.now.master.record in
    let files = c.args.spec.now.storage.files in
    let paths_are : c.deref.result.now ≡ map (λ f. f.path) files = search rules in
    let again_are : c.deref-2.result.now ≡ map (λ f. f.path) files = search rules in
    let few : r.next < 2 ^ 32 = search rules in
    let begun_is : c.begin_store.new.self.master.record ≡ begun r c.deref.result.now = search rules in
    let slots_are : c.begin_store.new.self.slots ≡ c.args.self.now.slots = search rules in
    let record_is : c.record.result.now ≡ r = search rules in
    let effect : Effect (IsPart r.next (map data_name c.deref-2.result.now)) (λ _. Unit {0}) (disk c.begin_store.new.dev) (disk c.remove_parts.new.dev) =
    subst (λ (x : Record). Effect (IsPart x.next (map data_name c.deref-2.result.now)) (λ _. Unit {0}) (disk c.begin_store.new.dev) (disk c.remove_parts.new.dev)) record_is (c.remove_parts.ensures.crash t) in
    let shares1 = shares-at r.databases tolds files c.deref.result.now paths_are shares in
    let shares2 = shares-at r.databases tolds files c.deref-2.result.now again_are shares in
    let here : AreStores (disk c.begin_store.new.dev) c.begin_store.new.self tolds = c.in_ok-begin_store.ensures.stands t tolds is shares1 in
    effect_then (c.begin_store.ensures.crash t tolds is shares1)
    (beside-crash c.args.self.now c.begin_store.new.self tolds c.deref.result.now (at_paths c.deref-2.result.now) begun_is slots_are few is.standing.entries shares2 here (parts-named r.next c.deref-2.result.now effect))

pub returns-clause-none : goal.returns-clause-none
returns-clause-none g c t =
    let disk = g.D.Device.disk in
    let next = c.args.self.now.master.record.next in
    let record_is : c.record.result.now ≡ c.args.self.now.master.record = search rules in
    let gone : AreGone (IsName (control_file next)) (disk c.remove_parts.new.dev) = subst (λ (x : Record). AreGone (IsName (control_file x.next)) (disk c.remove_parts.new.dev)) record_is (c.in_ok-remove_parts.ensures.control t) in
    let both = gone (control_file next) refl in
    (no-control ((disk c.remove_parts.new.dev).files (control_file next)) both.0, both.1)

pub returns-clause-stands : goal.returns-clause-stands
returns-clause-stands g c t tolds is shares =
    let disk = g.D.Device.disk in
    let r = c.args.self.now.master.record in
    let files = c.args.spec.now.storage.files in
    let paths_are : c.deref.result.now ≡ map (λ f. f.path) files = search rules in
    let again_are : c.deref-2.result.now ≡ map (λ f. f.path) files = search rules in
    let few : r.next < 2 ^ 32 = search rules in
    let begun_is : c.begin_store.new.self.master.record ≡ begun r c.deref.result.now = search rules in
    let slots_are : c.begin_store.new.self.slots ≡ c.args.self.now.slots = search rules in
    let record_is : c.record.result.now ≡ r = search rules in
    let effect : Effect (IsPart r.next (map data_name c.deref-2.result.now)) (λ _. Unit {0}) (disk c.begin_store.new.dev) (disk c.remove_parts.new.dev) =
    subst (λ (x : Record). Effect (IsPart x.next (map data_name c.deref-2.result.now)) (λ _. Unit {0}) (disk c.begin_store.new.dev) (disk c.remove_parts.new.dev)) record_is (c.remove_parts.ensures.crash t) in
    let shares1 = shares-at r.databases tolds files c.deref.result.now paths_are shares in
    let shares2 = shares-at r.databases tolds files c.deref-2.result.now again_are shares in
    let here : AreStores (disk c.begin_store.new.dev) c.begin_store.new.self tolds = c.in_ok-begin_store.ensures.stands t tolds is shares1 in
    beside-stands c.args.self.now c.begin_store.new.self tolds c.deref.result.now (at_paths c.deref-2.result.now) begun_is few is.standing.entries shares2 here (parts-named r.next c.deref-2.result.now effect)

pub returns-clause-crash : goal.returns-clause-crash
returns-clause-crash g c t tolds is shares =
    let disk = g.D.Device.disk in
    let r = c.args.self.now.master.record in
    let files = c.args.spec.now.storage.files in
    let paths_are : c.deref.result.now ≡ map (λ f. f.path) files = search rules in
    let again_are : c.deref-2.result.now ≡ map (λ f. f.path) files = search rules in
    let few : r.next < 2 ^ 32 = search rules in
    let begun_is : c.begin_store.new.self.master.record ≡ begun r c.deref.result.now = search rules in
    let slots_are : c.begin_store.new.self.slots ≡ c.args.self.now.slots = search rules in
    let record_is : c.record.result.now ≡ r = search rules in
    let effect : Effect (IsPart r.next (map data_name c.deref-2.result.now)) (λ _. Unit {0}) (disk c.begin_store.new.dev) (disk c.remove_parts.new.dev) =
    subst (λ (x : Record). Effect (IsPart x.next (map data_name c.deref-2.result.now)) (λ _. Unit {0}) (disk c.begin_store.new.dev) (disk c.remove_parts.new.dev)) record_is (c.remove_parts.ensures.crash t) in
    let shares1 = shares-at r.databases tolds files c.deref.result.now paths_are shares in
    let shares2 = shares-at r.databases tolds files c.deref-2.result.now again_are shares in
    let here : AreStores (disk c.begin_store.new.dev) c.begin_store.new.self tolds = c.in_ok-begin_store.ensures.stands t tolds is shares1 in
    effect_then (c.begin_store.ensures.crash t tolds is shares1)
    (beside-crash c.args.self.now c.begin_store.new.self tolds c.deref.result.now (at_paths c.deref-2.result.now) begun_is slots_are few is.standing.entries shares2 here (parts-named r.next c.deref-2.result.now effect))

pub returns-clause-standing : goal.returns-clause-standing
returns-clause-standing g c t =
    let disk = g.D.Device.disk in
    let s = c.args.self.now in
    let then = c.begin_store.new.self in
    let files = c.args.spec.now.storage.files in
    let again_are : c.deref-2.result.now ≡ map (λ f. f.path) files = search rules in
    let begun_is : then.master.record ≡ begun s.master.record c.deref.result.now = search rules in
    let slots_are : then.slots ≡ s.slots = search rules in
    let record_is : c.record.result.now ≡ s.master.record = search rules in
    let effect : Effect (IsPart s.master.record.next (map data_name c.deref-2.result.now)) (λ _. Unit {0}) (disk c.begin_store.new.dev) (disk c.remove_parts.new.dev) =
    subst (λ (x : Record). Effect (IsPart x.next (map data_name c.deref-2.result.now)) (λ _. Unit {0}) (disk c.begin_store.new.dev) (disk c.remove_parts.new.dev)) record_is (c.remove_parts.ensures.crash t) in
    let unused = subst (λ (paths : List (List ℕ)). AreUnused s.slots (at_paths paths)) (sym again_are) (c.requires.unused t) in
    beside-standing s then c.deref.result.now (at_paths c.deref-2.result.now) begun_is slots_are (c.requires.standing t).numbers unused (c.in_ok-begin_store.ensures.standing t) (parts-named s.master.record.next c.deref-2.result.now effect)

pub returns-in_err-paths-clause-touches : goal.returns-in_err-paths-clause-touches
returns-in_err-paths-clause-touches g c t = none-touched (g.D.Device.disk c.args.dev.now)

pub returns-in_err-remove_parts-clause-touches : goal.returns-in_err-remove_parts-clause-touches
returns-in_err-remove_parts-clause-touches g c t = effect_then (c.begin_store.ensures.touches t) (parts-touched c.record.result.now.next c.deref-2.result.now (c.remove_parts.ensures.crash t))

pub returns-clause-touches : goal.returns-clause-touches
returns-clause-touches g c t = effect_then (c.begin_store.ensures.touches t) (parts-touched c.record.result.now.next c.deref-2.result.now (c.remove_parts.ensures.crash t))
