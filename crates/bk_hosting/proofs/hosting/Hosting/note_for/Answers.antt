use Rattle.std.proofs.Common.{rules, ◌≡◌, ◌∙◌, Some, true, false, subst}
use Rattle.std.specs.Prelude.{slice_get}
use Rattle.bk_master.specs.declared.record.Entry.{Entry}
use Rattle.bk_stores.specs.Standing.{AreUnused}
use Rattle.bk_hosting.specs.Hosting.{Kept}
use Rattle.bk_hosting.proofs.Answered.{answered}
use Rattle.bk_hosting.proofs.hosting.Hosting.note_for.Goals as goal

pub returns-clause-parked : goal.returns-clause-parked
returns-clause-parked c =
    answered c.note_of.result
    (λ _ got.
    let no : c.is_stored.result ≡ false = search rules in
    let its = c.is_stored.ensures in
    subst (λ (k : Kept). (e : Entry) × (slice_get k.stores.master.record.databases c.args.at ≡ Some e) × (e.is_stored ≡ false)) c.self.view_is (its.0, its.1, its.2 ∙ no))

pub returns-clause-unused : goal.returns-clause-unused
returns-clause-unused c =
    answered c.note_of.result
    (λ _ got.
    let yes : c.has_none_of.result ≡ true = search rules in
    let unused : AreUnused c.self.inside.stores.slots c.args.files.now = c.has_none_of.ensures.unused yes in
    subst (λ (k : Kept). AreUnused k.stores.slots c.args.files.now) c.self.view_is unused)
