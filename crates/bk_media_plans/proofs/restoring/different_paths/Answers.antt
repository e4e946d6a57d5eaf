use Rattle.std.proofs.Common.{◌∙◌, sym, ap, subst}
use Rattle.bk_plans.specs.Checking.{IsCheck}
use Rattle.bk_media_plans.specs.SetPaths.{file_check}
use Rattle.bk_media_plans.proofs.SetFiles.{different-found}
use Rattle.bk_media_plans.proofs.restoring.different_paths.Goals as goal

pub returns : goal.returns
returns c = subst (IsCheck (λ u. u) c.refuse_file.result) (ap file_check c.first_repeated.ensures ∙ sym (different-found c.args.files.now)) c.refuse_file.ensures
