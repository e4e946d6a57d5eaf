use Rattle.std.proofs.Common.{rules, ◌≡◌, List, Some, subst}
use Rattle.bk_facts.specs.declared.facts.DataFile.{DataFile as DataFiles}
use Rattle.bk_paged.specs.Names.{names_of}
use Rattle.bk_side.specs.Names.{IsData, data_file}
use Rattle.bk_store.specs.Store.{Kept as KeptStore}
use Rattle.bk_stores.proofs.unused.uses.Goals as goal

pub returns-in-Some-clause-uses : goal.returns-in-Some-clause-uses
returns-in-Some-clause-uses c is =
    let store : KeptStore = c.in-Some.store in
    let there : c.args.slot.now ≡ Some store = search rules in
    let has : IsData (names_of store.paged.facts.files) (data_file c.args.path.now) = subst (λ (fs : List DataFiles). IsData (names_of fs) (data_file c.args.path.now)) c.files.ensures (c.has_path.ensures.has is) in
    (store, there, has)
