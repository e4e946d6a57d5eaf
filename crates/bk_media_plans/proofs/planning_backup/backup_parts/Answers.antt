use Rattle.bk_media_plans.proofs.BackupParts.{backup-of}
use Rattle.bk_media_plans.proofs.planning_backup.backup_parts.Goals as goal

pub returns-clause-parts : goal.returns-clause-parts
returns-clause-parts c =
    backup-of c.args.database.now c.args.sets c.args.job.now _ _ _ _ _ _ _ c.new-parts.ensures.items c.in_ok-push_draw.ensures c.in_ok-push_mark.ensures c.in_ok-push_stamp.ensures c.in_ok-push_set.ensures.seals c.in_ok-push_row.ensures.notes
    c.in_ok-push_base.ensures
