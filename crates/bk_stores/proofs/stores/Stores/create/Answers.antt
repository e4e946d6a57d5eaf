use Rattle.std.proofs.Common.{rules, List, [], ◌∷◌, ◌++◌, Option, ap, ◌≡◌, ◌<◌, ◌^◌, ◌∙◌, ◌⊎◌, ℕ, map, Some, inl, sym, subst, true}
use Rattle.bk_device.specs.Compose.{effect_then, effect_weaken}
use Rattle.bk_device.specs.Disk.{IsDurable}
use Rattle.bk_device.specs.Effects.{Effect}
use Rattle.bk_master.specs.declared.record.Record.{Record}
use Rattle.bk_paged.specs.Making.{HoldsNone}
use Rattle.bk_paged.specs.Names.{IsOwn}
use Rattle.bk_segments.specs.Files.{control_file}
use Rattle.bk_store.specs.Making.{Makes, founded}
use Rattle.bk_store.specs.Store.{Kept as KeptStore}
use Rattle.bk_store.specs.Told.{LeavesRecords, data_file, data_files}
use Rattle.bk_stores.specs.Making.{IsSealed, MayAdd, more_stored}
use Rattle.bk_stores.specs.Records.{begun, stored_entry}
use Rattle.bk_stores.specs.Standing.{Joins}
use Rattle.bk_stores.specs.Stores.{AreStores, fixed_of}
use Rattle.bk_stores.specs.TouchLaws.{own-touched}
use Rattle.bk_stores.proofs.Created.{on-ok, beside-crash, beside-standing, beside-stands, creates-as, may-add, may-join, unused-files}
use Rattle.bk_stores.proofs.stores.Stores.create.Goals as goal

pub returns-in_err-number-clause-crash : goal.returns-in_err-number-clause-crash
returns-in_err-number-clause-crash g c t tolds is shares = effect_weaken (λ image here. inl here) (c.make_way.ensures.crash t tolds is shares)

pub returns-in_err-store-clause-crash : goal.returns-in_err-store-clause-crash
returns-in_err-store-clause-crash g c t tolds is shares =
    let disk = g.D.Device.disk in
    let r = c.args.self.now.master.record in
    let files = c.args.spec.storage.files in
    let paths = map (λ f. f.path) files in
    let few : r.next < 2 ^ 32 = search rules in
    let begun_is : c.make_way.new.self.master.record ≡ begun r paths = search rules in
    let slots_are : c.make_way.new.self.slots ≡ c.args.self.now.slots = search rules in
    let here : AreStores (disk c.make_way.new.dev) c.make_way.new.self tolds = c.in_ok-number.ensures.stands t tolds is shares in
    let number_is : c.in_ok-number.number ≡ r.next = search rules in
    let effect : Effect (IsOwn r.next (map data_file files)) (λ image. HoldsNone r.next image ⊎ LeavesRecords r.next 0 (founded c.args.spec c.args.time c.args.branch) image) (disk c.make_way.new.dev) (disk c.create.new.dev) = subst (λ (n : ℕ). Makes n (founded c.args.spec c.args.time c.args.branch) (disk c.make_way.new.dev) (disk c.create.new.dev)) number_is (c.create.ensures.crash t) in
    effect_weaken (λ image left. inl left) (effect_then (c.make_way.ensures.crash t tolds is shares)
    (beside-crash c.args.self.now c.make_way.new.self tolds paths (map data_file files) begun_is slots_are few is.standing.entries shares here effect))

pub add-requires-clause-standing : goal.add-requires-clause-standing
add-requires-clause-standing g c t =
    let disk = g.D.Device.disk in
    let s = c.args.self.now in
    let then = c.make_way.new.self in
    let r = s.master.record in
    let files = c.args.spec.storage.files in
    let paths = map (λ f. f.path) files in
    let begun_is : then.master.record ≡ begun r paths = search rules in
    let slots_are : then.slots ≡ s.slots = search rules in
    let number_is : c.in_ok-number.number ≡ r.next = search rules in
    let effect : Effect (IsOwn r.next (map data_file files)) (λ image. HoldsNone r.next image ⊎ LeavesRecords r.next 0 (founded c.args.spec c.args.time c.args.branch) image) (disk c.make_way.new.dev) (disk c.create.new.dev) = subst (λ (n : ℕ). Makes n (founded c.args.spec c.args.time c.args.branch) (disk c.make_way.new.dev) (disk c.create.new.dev)) number_is (c.create.ensures.crash t) in
    beside-standing s then paths (map data_file files) begun_is slots_are (c.requires.standing t).numbers (unused-files s.slots files (c.requires.unused t)) (c.in_ok-number.ensures.standing t) effect

pub add-requires-clause-joins : goal.add-requires-clause-joins
add-requires-clause-joins g c t =
    let d = g.D.Device.disk c.create.new.dev in
    let s = c.args.self.now in
    let then = c.make_way.new.self in
    let r = s.master.record in
    let files = c.args.spec.storage.files in
    let paths = map (λ f. f.path) files in
    let begun_is : then.master.record ≡ begun r paths = search rules in
    let slots_are : then.slots ≡ s.slots = search rules in
    let number_is : c.in_ok-number.number ≡ r.next = search rules in
    let store = c.in_ok-store.store in
    let number : store.paged.log.db ≡ r.next = c.in_ok-store.ensures.ends.0 ∙ number_is in
    let joins : Joins d then.master.record.databases then.slots (stored_entry r.next) (Some store) =
    may-join s then paths c.args.spec c.args.time c.args.branch store d begun_is slots_are (c.requires.standing t).numbers (unused-files s.slots files (c.requires.unused t)) c.in_ok-store.ensures.fit number (c.in_ok-store.ensures.stands t) in
    subst (λ (n : ℕ). Joins d then.master.record.databases then.slots (stored_entry n) (Some store)) (sym number_is) joins

pub returns-clause-fixed : goal.returns-clause-fixed
returns-clause-fixed g c =
    let paths = map (λ f. f.path) c.args.spec.storage.files in
    let begun_is : c.make_way.new.self.master.record ≡ begun c.args.self.now.master.record paths = search rules in
    on-ok c.add.result (λ same. same ∙ ap (λ (x : Record). more_stored (fixed_of x) true) begun_is) c.add.ensures.fixed

pub returns-clause-opens : goal.returns-clause-opens
returns-clause-opens g c =
    let slots_are : c.make_way.new.self.slots ≡ c.args.self.now.slots = search rules in
    let store = c.in_ok-store.store in
    let sealed : IsSealed store = record { fit = c.in_ok-store.ensures.fit; all = c.in_ok-store.ensures.ends.1 } in
    on-ok c.add.result (λ slots. (store, slots ∙ ap (λ (sl : List (Option KeptStore)). sl ++ Some store ∷ []) slots_are, sealed)) c.add.ensures.slots

pub returns-clause-stands : goal.returns-clause-stands
returns-clause-stands g c t tolds is shares =
    let disk = g.D.Device.disk in
    let r = c.args.self.now.master.record in
    let files = c.args.spec.storage.files in
    let paths = map (λ f. f.path) files in
    let few : r.next < 2 ^ 32 = search rules in
    let begun_is : c.make_way.new.self.master.record ≡ begun r paths = search rules in
    let slots_are : c.make_way.new.self.slots ≡ c.args.self.now.slots = search rules in
    let here : AreStores (disk c.make_way.new.dev) c.make_way.new.self tolds = c.in_ok-number.ensures.stands t tolds is shares in
    let number_is : c.in_ok-number.number ≡ r.next = search rules in
    let effect : Effect (IsOwn r.next (map data_file files)) (λ image. HoldsNone r.next image ⊎ LeavesRecords r.next 0 (founded c.args.spec c.args.time c.args.branch) image) (disk c.make_way.new.dev) (disk c.create.new.dev) = subst (λ (n : ℕ). Makes n (founded c.args.spec c.args.time c.args.branch) (disk c.make_way.new.dev) (disk c.create.new.dev)) number_is (c.create.ensures.crash t) in
    let new = founded c.args.spec c.args.time c.args.branch in
    let entries = is.standing.entries in
    let between : AreStores (disk c.create.new.dev) c.make_way.new.self tolds = beside-stands c.args.self.now c.make_way.new.self tolds paths (map data_file files) begun_is few entries shares here effect in
    let store = c.in_ok-store.store in
    let ends : (store.paged.log.db ≡ r.next) × (store.paged.log.stored ≡ store.paged.log.end) = let e = c.in_ok-store.ensures.ends in (e.0 ∙ number_is, e.1) in
    let may_add : MayAdd (disk c.create.new.dev) c.make_way.new.self tolds (stored_entry r.next) (Some store) new = may-add c.args.self.now c.make_way.new.self tolds paths c.args.spec c.args.time c.args.branch store (disk c.create.new.dev) begun_is few entries shares c.in_ok-store.ensures.fit ends (c.in_ok-store.ensures.stands t) in
    let may : MayAdd (disk c.create.new.dev) c.make_way.new.self tolds (stored_entry c.in_ok-number.number) (Some store) new = subst (λ (n : ℕ). MayAdd (disk c.create.new.dev) c.make_way.new.self tolds (stored_entry n) (Some store) new) (sym number_is) may_add in
    c.add.ensures.stands t tolds new between may

pub returns-clause-crash : goal.returns-clause-crash
returns-clause-crash g c t tolds is shares =
    let disk = g.D.Device.disk in
    let r = c.args.self.now.master.record in
    let files = c.args.spec.storage.files in
    let paths = map (λ f. f.path) files in
    let few : r.next < 2 ^ 32 = search rules in
    let begun_is : c.make_way.new.self.master.record ≡ begun r paths = search rules in
    let slots_are : c.make_way.new.self.slots ≡ c.args.self.now.slots = search rules in
    let here : AreStores (disk c.make_way.new.dev) c.make_way.new.self tolds = c.in_ok-number.ensures.stands t tolds is shares in
    let number_is : c.in_ok-number.number ≡ r.next = search rules in
    let effect : Effect (IsOwn r.next (map data_file files)) (λ image. HoldsNone r.next image ⊎ LeavesRecords r.next 0 (founded c.args.spec c.args.time c.args.branch) image) (disk c.make_way.new.dev) (disk c.create.new.dev) = subst (λ (n : ℕ). Makes n (founded c.args.spec c.args.time c.args.branch) (disk c.make_way.new.dev) (disk c.create.new.dev)) number_is (c.create.ensures.crash t) in
    let new = founded c.args.spec c.args.time c.args.branch in
    let entries = is.standing.entries in
    let between : AreStores (disk c.create.new.dev) c.make_way.new.self tolds = beside-stands c.args.self.now c.make_way.new.self tolds paths (map data_file files) begun_is few entries shares here effect in
    let store = c.in_ok-store.store in
    let ends : (store.paged.log.db ≡ r.next) × (store.paged.log.stored ≡ store.paged.log.end) = let e = c.in_ok-store.ensures.ends in (e.0 ∙ number_is, e.1) in
    let may_add : MayAdd (disk c.create.new.dev) c.make_way.new.self tolds (stored_entry r.next) (Some store) new = may-add c.args.self.now c.make_way.new.self tolds paths c.args.spec c.args.time c.args.branch store (disk c.create.new.dev) begun_is few entries shares c.in_ok-store.ensures.fit ends (c.in_ok-store.ensures.stands t) in
    let may : MayAdd (disk c.create.new.dev) c.make_way.new.self tolds (stored_entry c.in_ok-number.number) (Some store) new = subst (λ (n : ℕ). MayAdd (disk c.create.new.dev) c.make_way.new.self tolds (stored_entry n) (Some store) new) (sym number_is) may_add in
    effect_then (effect_weaken (λ image left. inl left) (effect_then (c.make_way.ensures.crash t tolds is shares)
    (beside-crash c.args.self.now c.make_way.new.self tolds paths (map data_file files) begun_is slots_are few entries shares here effect)))
    (creates-as c.args.self.now c.make_way.new.self tolds true new (disk c.create.new.dev) (disk c.add.new.dev) (ap fixed_of begun_is) slots_are (c.add.ensures.crash t tolds new between may))

pub create-requires-clause-durable : goal.create-requires-clause-durable
create-requires-clause-durable g c t =
    let disk = g.D.Device.disk in
    let number_is : c.in_ok-number.number ≡ c.args.self.now.master.record.next = search rules in
    let none = c.in_ok-number.ensures.none t in
    subst (λ (n : ℕ). IsDurable (disk c.make_way.new.dev) (control_file n)) (sym number_is) none.1

pub returns-in_err-store-clause-touches : goal.returns-in_err-store-clause-touches
returns-in_err-store-clause-touches g c t = effect_then (c.make_way.ensures.touches t) (own-touched c.in_ok-number.number (data_files (founded c.args.spec c.args.time c.args.branch)) (c.create.ensures.crash t))

pub returns-clause-touches : goal.returns-clause-touches
returns-clause-touches g c t = effect_then (effect_then (c.make_way.ensures.touches t) (own-touched c.in_ok-number.number (data_files (founded c.args.spec c.args.time c.args.branch)) (c.create.ensures.crash t))) (c.add.ensures.touches t)
