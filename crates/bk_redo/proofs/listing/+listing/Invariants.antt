use Rattle.bk_redo.proofs.listing.+listing.Given as goal

abbrev pub decreases-join_mut+arg2 : goal.decreases-join_mut+arg2
decreases-join_mut+arg2 g l = l.half

abbrev pub decreases-join_mut+arg3 : goal.decreases-join_mut+arg3
decreases-join_mut+arg3 g l = l.rest

abbrev pub decreases-list_share : goal.decreases-list_share
decreases-list_share g l = l.workers
