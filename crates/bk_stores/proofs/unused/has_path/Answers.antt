use Rattle.std.proofs.Common.{rules, ◌≡◌, ◌≤◌, Some, length, refl, slice_get}
use Rattle.std.proofs.lemmas.Option.{slice_get_read}
use Rattle.bk_facts.specs.declared.facts.DataFile.{DataFile as DataFiles}
use Rattle.bk_side.specs.Names.{data_file}
use Rattle.bk_stores.proofs.Named.{data-is, each-all, each-more, is-data}
use Rattle.bk_stores.proofs.unused.has_path.Goals as goal

pub returns-then-are_one-clause-has : goal.returns-then-are_one-clause-has
returns-then-are_one-clause-has c is =
    let files = c.args.files.now in
    let f : DataFiles = c.file-item.result in
    let there : slice_get files c.loop-file.file-index ≡ Some f = slice_get_read files (length files) c.loop-file.file-index f refl c.loop-file-test.true c.file-item.is in
    let same : data_file f.path ≡ data_file c.args.path.now = search rules in
    is-data files c.loop-file.file-index f (data_file c.args.path.now) there same

pub loop-file-preserved : goal.loop-file-preserved
loop-file-preserved c =
    let files = c.args.files.now in
    let f : DataFiles = c.file-item.result in
    let there : slice_get files c.loop-file.file-index ≡ Some f = slice_get_read files (length files) c.loop-file.file-index f refl c.loop-file-test.true c.file-item.is in
    let differ : data_file f.path ≡ data_file c.args.path.now → ⊥ = search rules in
    each-more (λ (g : DataFiles). data_file g.path ≡ data_file c.args.path.now → ⊥) files c.loop-file.file-index f there differ c.loop-file.invariant

pub returns-clause-none : goal.returns-clause-none
returns-clause-none c is has =
    let files = c.args.files.now in
    let one = data-is files (data_file c.args.path.now) has in
    let all : length files ≤ c.loop-file.file-index = search rules in
    each-all (λ (g : DataFiles). data_file g.path ≡ data_file c.args.path.now → ⊥) files c.loop-file.file-index all c.loop-file.invariant one.0 one.1 one.2 one.3
