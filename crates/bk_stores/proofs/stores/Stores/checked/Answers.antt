use Rattle.std.proofs.Common.{rules, ◌≡◌, ◌∙◌, List, true, false, refl, sym, subst}
use Rattle.bk_facts.specs.declared.facts.DataFile.{DataFile as DataFiles}
use Rattle.bk_stores.specs.Standing.{AreUnused}
use Rattle.bk_stores.proofs.stores.Stores.checked.Goals as goal

pub returns-then-has_none_of-clause-unused : goal.returns-then-has_none_of-clause-unused
returns-then-has_none_of-clause-unused c =
    let files_are : c.files-files.result.now ≡ c.args.store.paged.facts.files = search rules in
    subst (λ (fs : List DataFiles). AreUnused c.args.self.now.slots fs) files_are (c.has_none_of.ensures.unused c.if-has_none_of.true)

pub returns-else-has_none_of-clause-broken : goal.returns-else-has_none_of-clause-broken
returns-else-has_none_of-clause-broken c =
    let files_are : c.files-files.result.now ≡ c.args.store.paged.facts.files = search rules in (
      refl,
      λ unused.
          let own : AreUnused c.args.self.now.slots c.files-files.result.now = subst (λ (fs : List DataFiles). AreUnused c.args.self.now.slots fs) (sym files_are) unused in
          let both : false ≡ true = sym c.if-has_none_of.false ∙ c.has_none_of.ensures.all own in
          cc,
    )
