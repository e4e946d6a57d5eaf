use Rattle.bk_redo.proofs.worker.+sharing.Given as goal

abbrev pub decreases-join_mut+arg2 : goal.decreases-join_mut+arg2
decreases-join_mut+arg2 g l = l.ahead.workers

abbrev pub decreases-join_mut+arg3 : goal.decreases-join_mut+arg3
decreases-join_mut+arg3 g l = l.behind.workers

abbrev pub decreases-redo_share : goal.decreases-redo_share
decreases-redo_share g l = l.share.workers
