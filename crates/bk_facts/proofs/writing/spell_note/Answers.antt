use Rattle.std.proofs.Common.{rules, ◌≡◌, ◌<◌, ◌^◌, ◌++◌, ℕ, List, sym, subst}
use Rattle.std.specs.List.{AllByRecursion}
use Rattle.bk_facts.specs.Facts.{AreFacts, IsDataFile, Notes, facts_bytes}
use Rattle.bk_facts.specs.FactLaws.{facts_read}
use Rattle.bk_facts.proofs.writing.spell_note.Goals as goal

pub returns-clause-notes : goal.returns-clause-notes
returns-clause-notes c =
    let small : c.args.facts.now.checkpoint < 2 ^ 64 = search rules in
    let files : AllByRecursion IsDataFile c.args.facts.now.files = subst (AllByRecursion IsDataFile) c.as_slice.ensures c.in_ok-append_files.ensures.fits in
    let are : AreFacts c.args.facts.now = record { checkpoint = small; few = c.requires.few; files = files } in
    let same : c.extend_from_slice.new.self.items ≡ facts_bytes c.args.facts.now ++ c.args.note.now = search rules in
    subst (λ (bytes : List ℕ). Notes bytes c.args.facts.now c.args.note.now) (sym same) (facts_read c.args.facts.now c.args.note.now are)
