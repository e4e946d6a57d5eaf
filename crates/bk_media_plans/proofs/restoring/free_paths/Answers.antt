use Rattle.std.proofs.Common.{◌∙◌, sym, ap, map, subst}
use Rattle.bk_machine.specs.Checks.{paths_of, others}
use Rattle.bk_plans.specs.Checking.{IsCheck}
use Rattle.bk_media_plans.specs.SetPaths.{file_check}
use Rattle.bk_kept.specs.Keeps.{database_of}
use Rattle.bk_media_plans.proofs.SetFiles.{free-found}
use Rattle.bk_media_plans.proofs.restoring.free_paths.Goals as goal

pub returns : goal.returns
returns c =
    subst (IsCheck (λ u. u) c.refuse_file.result)
    (ap file_check c.first_used.ensures ∙ sym (free-found (paths_of (others (map database_of c.args.databases.now) c.args.name.now)) c.args.files.now)) c.refuse_file.ensures
