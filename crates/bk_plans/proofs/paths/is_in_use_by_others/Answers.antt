use Rattle.std.proofs.Common.{sym, ◌∙◌}
use Rattle.bk_plans.proofs.InUse.{others_have_path}
use Rattle.bk_plans.proofs.paths.is_in_use_by_others.Goals as goal

pub returns : goal.returns
returns c = c.any_other_has_file.ensures ∙ sym (others_have_path c.args.name.now c.args.path.now c.args.databases.now)
