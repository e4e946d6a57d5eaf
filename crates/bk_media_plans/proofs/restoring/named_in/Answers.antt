use Rattle.bk_media_plans.proofs.restoring.named_in.Goals as goal

pub returns-clause-seen : goal.returns-clause-seen
returns-clause-seen c = λ w sees. c.in_ok-database.ensures.seen w sees
