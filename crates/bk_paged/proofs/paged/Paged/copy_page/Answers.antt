use Rattle.std.proofs.Common.{sym, subst}
use Rattle.bk_paths.specs.Paths.{end_of}
use Rattle.bk_redo.specs.declared.place.PageAt.{PageAt}
use Rattle.bk_side.specs.Side.{pages_of}
use Rattle.bk_paged.specs.Holds.{IsStored}
use Rattle.bk_paged.specs.Leaving.{paged_none}
use Rattle.bk_paged.specs.Names.{IsThere}
use Rattle.bk_paged.specs.Paged.{IsPaged, Kept}
use Rattle.bk_paged.specs.StandLaws.{standing-kept}
use Rattle.bk_paged.proofs.Copied.{changed_stored, clean_stored}
use Rattle.bk_paged.proofs.Ends.{anyway, given}
use Rattle.bk_paged.proofs.Fetching.{nothing_crash, paged_kept, page_sound}
use Rattle.bk_paged.proofs.paged.Paged.copy_page.Goals as goal

pub returns-in-Some-clause-page : goal.returns-in-Some-clause-page
returns-in-Some-clause-page g c t stood is =
    let a = g.D.Device.disk c.args.dev.now in
    let at : PageAt = record { file = c.args.file; page = c.args.page } in
    let there = subst (λ (k : Kept). IsPaged a k stood) (sym c.self.view_is) is in
    changed_stored _ stood a at c.in-Some.ensures.0 c.in-Some.bytes there c.in-Some.ensures.1 c.in-Some.ensures.2

pub returns-in-Some-clause-crash : goal.returns-in-Some-clause-crash
returns-in-Some-clause-crash g c t stood is = paged_none c.args.self.now stood (g.D.Device.disk c.args.dev.now) is

pub returns-clause-stands : goal.returns-clause-stands
returns-clause-stands g c t stood is =
    anyway c.stored_page.result (paged_kept c.args.self.now stood (g.D.Device.disk c.args.dev.now) (g.D.Device.disk c.stored_page.new.dev) is (c.stored_page.ensures.effect t))

pub returns-clause-standing : goal.returns-clause-standing
returns-clause-standing g c t = anyway c.stored_page.result (standing-kept c.args.self.now (c.requires.standing t) (c.stored_page.ensures.effect t))

pub returns-clause-foreign : goal.returns-clause-foreign
returns-clause-foreign g c t foreign stood is =
    let a = g.D.Device.disk c.args.dev.now in
    let at : PageAt = record { file = c.args.file; page = c.args.page } in
    let At : Kept → Type 0 = λ k. IsPaged a k stood in
    let There : Kept → Type 0 = λ k. IsThere k.facts.files at in
    c.stored_page.ensures.foreign t foreign (page_sound _ stood a at (subst At (sym c.self.view_is) is) (subst There (sym c.self.view_is) c.requires.there))

pub returns-clause-page : goal.returns-clause-page
returns-clause-page g c t stood is =
    let a = g.D.Device.disk c.args.dev.now in
    let at : PageAt = record { file = c.args.file; page = c.args.page } in
    let At : Kept → Type 0 = λ k. IsPaged a k stood in
    let There : Kept → Type 0 = λ k. IsThere k.facts.files at in
    given c.stored_page.result (pages_of c.self.inside.side a.files (at.file, at.page)) (IsStored stood.records (end_of stood.records) at) (c.stored_page.ensures.page t)
    (clean_stored _ stood a at (subst At (sym c.self.view_is) is) (subst There (sym c.self.view_is) c.requires.there) c.in_default.ensures)

pub returns-clause-crash : goal.returns-clause-crash
returns-clause-crash g c t stood is = nothing_crash c.args.self.now stood (g.D.Device.disk c.args.dev.now) (g.D.Device.disk c.stored_page.new.dev) is (c.stored_page.ensures.effect t)
