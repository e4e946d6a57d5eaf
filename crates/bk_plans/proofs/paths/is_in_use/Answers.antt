use Rattle.std.proofs.Common.{sym, ◌∙◌}
use Rattle.bk_plans.proofs.InUse.{any_has_path}
use Rattle.bk_plans.proofs.paths.is_in_use.Goals as goal

pub returns : goal.returns
returns c = c.any_has_file.ensures ∙ sym (any_has_path c.args.path.now c.args.databases.now)
