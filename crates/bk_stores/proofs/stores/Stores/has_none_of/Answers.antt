use Rattle.std.proofs.Common.{◌≡◌, ◌∙◌, List, ℕ, Some, length, refl, slice_get, sym, subst}
use Rattle.std.proofs.lemmas.Option.{slice_get_read}
use Rattle.bk_facts.specs.declared.facts.DataFile.{DataFile as DataFiles}
use Rattle.bk_paged.specs.Names.{names_of}
use Rattle.bk_side.specs.Names.{IsData, data_file}
use Rattle.bk_stores.specs.Standing.{IsUnused}
use Rattle.bk_stores.proofs.Named.{data-is, each-all, each-more, is-data}
use Rattle.bk_stores.proofs.stores.Stores.has_none_of.Goals as goal

pub returns-then-not-is_unused-clause-all : goal.returns-then-not-is_unused-clause-all
returns-then-not-is_unused-clause-all c none =
    let files = c.args.files.now in
    let k = c.loop-file.file-index in
    let f : DataFiles = c.file-item.result in
    let there : slice_get files k ≡ Some f = slice_get_read files (length files) k f refl c.loop-file-test.true c.file-item.is in
    let own : IsData (names_of files) (data_file f.path) = is-data files k f (data_file f.path) there refl in
    sym c.if-not-is_unused.true ∙ c.is_unused.ensures.all (λ i store at its. none i store at (data_file f.path) own its)

pub loop-file-preserved : goal.loop-file-preserved
loop-file-preserved c =
    let files = c.args.files.now in
    let k = c.loop-file.file-index in
    let f : DataFiles = c.file-item.result in
    let there : slice_get files k ≡ Some f = slice_get_read files (length files) k f refl c.loop-file-test.true c.file-item.is in
    each-more (λ (g : DataFiles). IsUnused c.args.self.now.slots (data_file g.path)) files k f there (c.is_unused.ensures.unused c.if-not-is_unused.false) c.loop-file.invariant

pub returns-clause-unused : goal.returns-clause-unused
returns-clause-unused c is i store at name own its =
    let files = c.args.files.now in
    let one = data-is files name own in
    let none = each-all (λ (g : DataFiles). IsUnused c.args.self.now.slots (data_file g.path)) files c.loop-file.file-index c.loop-file-test.false c.loop-file.invariant one.0 one.1 one.2 in
    subst (λ (n : List ℕ). IsData (names_of store.paged.facts.files) n → ⊥) one.3 (none i store at) its
