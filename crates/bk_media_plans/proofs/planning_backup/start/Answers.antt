use Rattle.std.proofs.Common.{refl}
use Rattle.bk_media_plans.proofs.BackupParts.{start-keeps, start-of}
use Rattle.bk_media_plans.proofs.planning_backup.start.Goals as goal

pub returns-clause-parts : goal.returns-clause-parts
returns-clause-parts c =
    (start-of c.args.database.now c.args.sets c.args.job.now _ _ _ _ c.new-parts.ensures.items c.in_ok-push_draw.ensures c.in_ok-push_mark.ensures c.in_ok-push_job.ensures, refl, refl)

pub returns-clause-keeps : goal.returns-clause-keeps
returns-clause-keeps c =
    start-keeps c.args.database.now c.args.sets c.args.job.now _ c.requires.path
    (start-of c.args.database.now c.args.sets c.args.job.now _ _ _ _ c.new-parts.ensures.items c.in_ok-push_draw.ensures c.in_ok-push_mark.ensures c.in_ok-push_job.ensures)
