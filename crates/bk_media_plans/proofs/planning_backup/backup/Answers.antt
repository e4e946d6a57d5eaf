use Rattle.bk_media_plans.proofs.BackupParts.{parts-keep}
use Rattle.bk_media_plans.proofs.planning_backup.backup.Goals as goal

pub returns-clause-keeps : goal.returns-clause-keeps
returns-clause-keeps c = parts-keep c.args.database.now c.args.sets c.args.job.now _ c.requires.path c.in_ok-parts.ensures.parts
