use Rattle.std.proofs.Common.{◌≡◌, ℕ, ◌+◌, false, List, map, length, sym, ◌∙◌, ap}
use Rattle.std.specs.Prelude.{nat_le}
use Rattle.std.proofs.lemmas.List.{length-map}
use Rattle.std.proofs.lemmas.Result.{err_from_is_err_and}
use Rattle.bk_lemmas.specs.Tests.{same_error}
use Rattle.bk_machine.specs.Checks.{last_number}
use Rattle.bk_shown.specs.Shown.{pending_of}
use Rattle.bk_shown.specs.declared.error.TakeError.TheVariants.{Unfit}
use Rattle.bk_shown.specs.declared.shown.Written.{Written}
use Rattle.bk_media_plans.proofs.Recoveries.{numbers-there, pending-told}
use Rattle.bk_media_plans.proofs.planning_restore.last_of.Goals as goal

pub returns-in_err-writes-clause-unfit : goal.returns-in_err-writes-clause-unfit
returns-in_err-writes-clause-unfit c =
    let p = err_from_is_err_and c.from_residual.result c.from_residual.ensures.1 in
    rw (p.1, p.2) (λ is leaves. pending-told c.args.log.now c.args.at leaves (c.in_err-writes.ensures.unfit (same_error c.in_err-writes.field-0.0 Unfit is)))

pub returns-then-not-are_left-clause-unfit : goal.returns-then-not-are_left-clause-unfit
returns-then-not-are_left-clause-unfit c = λ unfit leaves.
    let writes : List Written = c.in_ok-writes.writes.items in
    let count : c.len-count.result ≡ length writes = c.len-count.ensures ∙ c.in_ok-writes.writes.ok.0 in
    let few : nat_le (c.args.at + (length writes + 1)) last_number ≡ false =
    ap (λ (n : ℕ). nat_le (c.args.at + (n + 1)) last_number) (sym count) ∙ (sym c.are_left.ensures ∙ c.if-not-are_left.true) in
    numbers-there c.args.log.now c.args.at writes leaves c.in_ok-writes.ensures.pending few

pub returns-clause-ends : goal.returns-clause-ends
returns-clause-ends c =
    let writes : List Written = c.in_ok-writes.writes.items in
    let count : c.len-count.result ≡ length writes = c.len-count.ensures ∙ c.in_ok-writes.writes.ok.0 in record {
      writes = map pending_of writes;
      are = c.in_ok-writes.ensures.pending;
      last_is = ap (λ (n : ℕ). c.args.at + n) (count ∙ sym (length-map writes pending_of));
    }
