use Rattle.std.proofs.Common.{sym, subst}
use Rattle.std.proofs.lemmas.Result.{err_from_is_err_and}
use Rattle.bk_lemmas.specs.Tests.{same_error}
use Rattle.bk_shown.specs.declared.error.TakeError.TheVariants.{Unfit}
use Rattle.bk_media_plans.specs.Found.{Found}
use Rattle.bk_media_plans.specs.Restoring.{LeavesRecovery}
use Rattle.bk_media_plans.proofs.planning_restore.bringing_up.Goals as goal

pub returns-in_err-last-clause-unfit : goal.returns-in_err-last-clause-unfit
returns-in_err-last-clause-unfit c =
    let p = err_from_is_err_and c.from_residual-in_err-last.result c.from_residual-in_err-last.ensures.1 in
    rw (p.1, p.2) (λ is keeps leaves. c.in_err-last.ensures.unfit (same_error c.in_err-last.field-0.0 Unfit is) (subst (λ (f : Found). LeavesRecovery f.log c.args.header.last) (sym c.set.view_is) leaves))
