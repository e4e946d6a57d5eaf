use Rattle.std.proofs.Common.{rules, ◌≡◌, ◌∙◌, List, Option, Some, length, refl, slice_get, sym, ap}
use Rattle.std.proofs.lemmas.Option.{slice_get_read}
use Rattle.bk_paged.specs.Names.{names_of}
use Rattle.bk_side.specs.Names.{IsData, data_file}
use Rattle.bk_store.specs.Store.{Kept as KeptStore}
use Rattle.bk_stores.proofs.Named.{each-all, each-more}
use Rattle.bk_stores.proofs.stores.Stores.is_unused.Goals as goal

pub returns-then-uses-clause-all : goal.returns-then-uses-clause-all
returns-then-uses-clause-all c none =
    let items = c.deref-slot-items.result.now in
    let i = c.loop-slot.slot-index in
    let slot : Option KeptStore = c.slot-item.result in
    let there : slice_get items i ≡ Some slot = slice_get_read items (length items) i slot refl c.loop-slot-test.true c.slot-item.is in
    let are : items ≡ c.args.self.now.slots = search rules in
    let one = c.uses.ensures.uses c.if-uses.true in
    absurd (none i one.0 (ap (λ (slots : List (Option KeptStore)). slice_get slots i) (sym are) ∙ there ∙ ap (λ (o : Option KeptStore). let some : Option (Option KeptStore) = Some o in some) one.1) one.2)

pub loop-slot-preserved : goal.loop-slot-preserved
loop-slot-preserved c =
    let items = c.deref-slot-items.result.now in
    let i = c.loop-slot.slot-index in
    let slot : Option KeptStore = c.slot-item.result in
    let there : slice_get items i ≡ Some slot = slice_get_read items (length items) i slot refl c.loop-slot-test.true c.slot-item.is in
    each-more (λ (o : Option KeptStore). (s : KeptStore) → o ≡ Some s → IsData (names_of s.paged.facts.files) (data_file c.args.path.now) → ⊥) items i slot there (c.uses.ensures.none c.if-uses.false) c.loop-slot.invariant

pub returns-clause-unused : goal.returns-clause-unused
returns-clause-unused c is i store at its =
    let items = c.deref-slot-items.result.now in
    let are : items ≡ c.args.self.now.slots = search rules in
    let there : slice_get items i ≡ Some (Some store) = ap (λ (slots : List (Option KeptStore)). slice_get slots i) are ∙ at in
    each-all (λ (o : Option KeptStore). (s : KeptStore) → o ≡ Some s → IsData (names_of s.paged.facts.files) (data_file c.args.path.now) → ⊥) items c.loop-slot.slot-index c.loop-slot-test.false c.loop-slot.invariant i (Some store) there store refl its
