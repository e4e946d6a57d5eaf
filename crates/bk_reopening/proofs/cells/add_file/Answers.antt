use Rattle.std.proofs.Common.{◌≡◌, ◌<◌, ℕ, sym, subst, arith}
use Rattle.std.proofs.lemmas.Result.{err_from_is_err_and}
use Rattle.bk_lemmas.specs.Tests.{same_error}
use Rattle.bk_paged.specs.Names.{pages_in}
use Rattle.bk_reopening.specs.Cells.{AreFound, HoldsCells}
use Rattle.bk_reopening.specs.declared.error.OpenError.TheVariants.{Foreign}
use Rattle.bk_reopening.proofs.Found.{found-file}
use Rattle.bk_reopening.proofs.cells.add_file.Goals as goal

-- the page that lies in a frame holds the cells, so its rows are added
pub loop-page-preserved : goal.loop-page-preserved
loop-page-preserved c = λ cells held found.
    let there = c.in-Some.ensures in
    let holds = subst (HoldsCells cells c.args.file c.loop-page.page) (sym there.2) (held there.0 c.args.file c.loop-page.page there.1) in
    c.in_ok-add_page.ensures.found cells c.args.paged.now.facts.files holds (c.loop-page.invariant cells held found)

pub returns-in_default-clause-foreign : goal.returns-in_default-clause-foreign
returns-in_default-clause-foreign c = λ is cells held whole.
    let low : c.loop-page.page < pages_in c.args.paged.now.facts.files c.args.file = omega arith in
    let there = whole (record { file = c.args.file; page = c.loop-page.page }) low in
    c.in_default.ensures there.0 there.1

pub returns-in_err-add_page-clause-foreign : goal.returns-in_err-add_page-clause-foreign
returns-in_err-add_page-clause-foreign c =
    let p = err_from_is_err_and c.from_residual.result c.from_residual.ensures.1 in
    rw (p.1, p.2) (λ is cells held whole.
    let there = c.in-Some.ensures in
    let holds = subst (HoldsCells cells c.args.file c.loop-page.page) (sym there.2) (held there.0 c.args.file c.loop-page.page there.1) in
    c.in_err-add_page.ensures.foreign (same_error c.in_err-add_page.field-0.0 Foreign is) cells holds)

pub returns-clause-found : goal.returns-clause-found
returns-clause-found c = λ cells held found.
    let files = c.args.paged.now.facts.files in
    let Upto : ℕ → Type 0 = λ (n : ℕ). AreFound cells files c.args.file n 0 c.loop-page.rows.items in
    let all : c.loop-page.page ≡ pages_in c.args.paged.now.facts.files c.args.file = omega arith in
    found-file cells files c.loop-page.rows.items c.args.file (subst Upto all (c.loop-page.invariant cells held found))
