use Rattle.bk_hosted.proofs.Waiting.{front-waits}
use Rattle.bk_hosted.proofs.crash_laws.what_waits_may_be_lost.Goals as goal

pub returns : goal.returns
returns c = record { front = front-waits }
