use Rattle.std.proofs.Common.{◌≡◌, List, ◌∙◌, subst}
use Rattle.std.proofs.lemmas.Result.{on_ok_weaker}
use Rattle.bk_device.specs.Effects.{Effect}
use Rattle.bk_facts.specs.declared.facts.DataFile.{DataFile}
use Rattle.bk_facts.specs.declared.facts.Facts.{Facts}
use Rattle.bk_side.specs.Names.{side_file, IsOwn as IsOfSide}
use Rattle.bk_paged.specs.Making.{AreGone}
use Rattle.bk_paged.specs.Names.{names_of}
use Rattle.bk_paged.proofs.Ends.{anyway}
use Rattle.bk_paged.proofs.Made.{control_durable}
use Rattle.bk_paged.proofs.Removed.{control_same, found_none, found_some, pages_left, reading_left}
use Rattle.bk_paged.proofs.removing.remove_named.Goals as goal

pub returns-in_err-facts-clause-crash : goal.returns-in_err-facts-clause-crash
returns-in_err-facts-clause-crash g c t durable files names = reading_left c.args.db files (g.D.Device.disk c.args.dev.now) (g.D.Device.disk c.find_facts.new.dev) names (c.find_facts.ensures.crash t durable)

pub returns-in_default-clause-gone : goal.returns-in_default-clause-gone
returns-in_default-clause-gone g c t files names = absurd (found_none (λ (facts : Facts). facts.files ≡ files) c.in_ok-facts.field-0 c.in_default.is (c.in_ok-facts.ensures.found t files names))

pub returns-in_default-clause-crash : goal.returns-in_default-clause-crash
returns-in_default-clause-crash g c t durable files names = reading_left c.args.db files (g.D.Device.disk c.args.dev.now) (g.D.Device.disk c.find_facts.new.dev) names (c.find_facts.ensures.crash t durable)

pub returns-clause-gone : goal.returns-clause-gone
returns-clause-gone g c t files names =
    let d = g.D.Device.disk c.remove_pages.new.dev in
    let same = c.as_slice.ensures ∙ found_some (λ (facts : Facts). facts.files ≡ files) c.in_ok-facts.field-0 c.in-Some.facts c.in-Some.is (c.in_ok-facts.ensures.found t files names) in
    let Of : List DataFile → Type 0 = λ fs. AreGone (IsOfSide (side_file c.args.db) (names_of fs)) d in
    on_ok_weaker c.remove_pages.result (λ gone. subst Of same gone) (c.remove_pages.ensures.gone t)

pub returns-clause-control : goal.returns-clause-control
returns-clause-control g c t = anyway c.remove_pages.result (control_durable c.args.db c.as_slice.result.now (c.remove_pages.ensures.crash t) (c.in_ok-facts.ensures.control t))

pub returns-clause-crash : goal.returns-clause-crash
returns-clause-crash g c t durable files names =
    let b = g.D.Device.disk c.find_facts.new.dev in
    let d = g.D.Device.disk c.remove_pages.new.dev in
    let same = c.as_slice.ensures ∙ found_some (λ (facts : Facts). facts.files ≡ files) c.in_ok-facts.field-0 c.in-Some.facts c.in-Some.is (c.in_ok-facts.ensures.found t files names) in
    let Of : List DataFile → Type 0 = λ fs. Effect (IsOfSide (side_file c.args.db) (names_of fs)) (λ _. Unit {0}) b d in
    pages_left c.args.db files (g.D.Device.disk c.args.dev.now) b d names (c.find_facts.ensures.crash t durable) (subst Of same (c.remove_pages.ensures.crash t))

pub returns-clause-same : goal.returns-clause-same
returns-clause-same g c t =
    anyway c.remove_pages.result (control_same c.args.db c.as_slice.result.now (g.D.Device.disk c.find_facts.new.dev) (g.D.Device.disk c.remove_pages.new.dev) (c.remove_pages.ensures.crash t) ∙ c.in_ok-facts.ensures.same t)
