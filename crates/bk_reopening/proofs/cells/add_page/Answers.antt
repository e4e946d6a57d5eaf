use Rattle.std.proofs.Common.{ℕ, ◌+◌, sym, subst, arith}
use Rattle.std.proofs.lemmas.Result.{err_from_is_err_and}
use Rattle.bk_lemmas.specs.Tests.{same_error}
use Rattle.bk_reopening.specs.Cells.{AreFound}
use Rattle.bk_reopening.specs.declared.error.OpenError.TheVariants.{Foreign}
use Rattle.bk_reopening.proofs.Found.{found-page}
use Rattle.bk_reopening.proofs.cells.add_page.Goals as goal

pub loop-n-preserved : goal.loop-n-preserved
loop-n-preserved c = λ cells files holds found.
    let Old : ℕ → Type 0 = λ n. AreFound cells files c.args.file c.args.page n c.loop-n.rows.items in
    let New : ℕ → Type 0 = λ n. AreFound cells files c.args.file c.args.page (n + 1) c.add_slot.new.rows.items in
    subst New c.in-Some.ensures.0 (c.in_ok-add_slot.ensures.found cells files holds (subst Old (sym c.in-Some.ensures.0) (c.loop-n.invariant cells files holds found)))

pub returns-in_err-add_slot-clause-foreign : goal.returns-in_err-add_slot-clause-foreign
returns-in_err-add_slot-clause-foreign c =
    let p = err_from_is_err_and c.from_residual.result c.from_residual.ensures.1 in
    rw (p.1, p.2) (λ is cells holds. c.in_err-add_slot.ensures.foreign (same_error c.in_err-add_slot.field-0.0 Foreign is) cells holds)

pub returns-clause-found : goal.returns-clause-found
returns-clause-found c = λ cells files holds found.
    let Upto : ℕ → Type 0 = λ n. AreFound cells files c.args.file c.args.page n c.loop-n.rows.items in
    found-page cells files c.loop-n.rows.items c.args.file c.args.page (subst Upto (omega arith) (c.loop-n.invariant cells files holds found))
