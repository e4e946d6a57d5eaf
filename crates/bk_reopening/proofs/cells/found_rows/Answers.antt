use Rattle.std.proofs.Common.{◌≡◌, ℕ, ◌+◌, List, length, sym, subst, ap, arith}
use Rattle.std.proofs.lemmas.Result.{err_from_is_err_and}
use Rattle.bk_facts.specs.declared.facts.DataFile.{DataFile}
use Rattle.bk_lemmas.specs.Tests.{same_error}
use Rattle.bk_reopening.specs.Cells.{AreFound}
use Rattle.bk_reopening.specs.declared.error.OpenError.TheVariants.{Foreign}
use Rattle.bk_reopening.proofs.Found.{found-all, found-none}
use Rattle.bk_reopening.proofs.cells.found_rows.Goals as goal

pub loop-i-init : goal.loop-i-init
loop-i-init c = λ cells held. subst (AreFound cells c.args.paged.now.facts.files 1 0 0) (sym c.new-rows.ensures.items) (found-none cells c.args.paged.now.facts.files)

pub loop-i-preserved : goal.loop-i-preserved
loop-i-preserved c = λ cells held.
    let At : ℕ → Type 0 = λ (n : ℕ). AreFound cells c.args.paged.now.facts.files n 0 0 c.loop-i.rows.items in
    let Next : ℕ → Type 0 = λ (n : ℕ). AreFound cells c.args.paged.now.facts.files (n + 1) 0 0 c.add_file.new.rows.items in
    subst Next c.in-Ok.ensures.1 (c.in_ok-add_file.ensures.found cells held (subst At (sym c.in-Ok.ensures.1) (c.loop-i.invariant cells held)))

pub returns-in_err-add_file-clause-foreign : goal.returns-in_err-add_file-clause-foreign
returns-in_err-add_file-clause-foreign c =
    let p = err_from_is_err_and c.from_residual.result c.from_residual.ensures.1 in
    rw (p.1, p.2) (λ is cells held whole few. c.in_err-add_file.ensures.foreign (same_error c.in_err-add_file.field-0.0 Foreign is) cells held whole)

pub returns-clause-all : goal.returns-clause-all
returns-clause-all c = λ cells held.
    let files = c.args.paged.now.facts.files in
    let Upto : ℕ → Type 0 = λ (n : ℕ). AreFound cells c.args.paged.now.facts.files (n + 1) 0 0 c.loop-i.rows.items in
    let all : c.loop-i.i ≡ length c.args.paged.now.facts.files = omega (arith, ap (λ (fs : List DataFile). length fs) c.files-i-end.ensures) in
    found-all cells files c.loop-i.rows.items (subst Upto all (c.loop-i.invariant cells held))
