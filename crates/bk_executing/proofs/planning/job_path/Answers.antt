use Rattle.std.proofs.lemmas.Result.{IfOk-weaker}
use Rattle.bk_executing.proofs.planning.job_path.Goals as goal

pub returns : goal.returns
returns c = IfOk-weaker c.path_seen.result _ _ (λ path is w has. is w (c.in_ok-seen.ensures.sees w has)) c.path_seen.ensures
