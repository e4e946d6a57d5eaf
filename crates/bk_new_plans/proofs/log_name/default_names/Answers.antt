use Rattle.bk_machine.specs.NewFileLaws.{default_log-named}
use Rattle.bk_new_plans.proofs.log_name.default_names.Goals as goal

pub name_in-requires : goal.name_in-requires
name_in-requires c = rw c.in_ok-path.ensures (default_log-named c.args.database.now)
