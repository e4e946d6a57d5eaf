use Rattle.std.proofs.lemmas.Result.{IfOk-weaker}
use Rattle.bk_executing.specs.Closing.{RollsFirst, RollsSeen}
use Rattle.bk_executing.proofs.Closings.{seen-rolls}
use Rattle.bk_executing.proofs.closing.rolling_back.Goals as goal

pub returns-clause-act : goal.returns-clause-act
returns-clause-act c = IfOk-weaker c.rolling_back_seen.result (RollsSeen c.in_ok-seen.seen) (RollsFirst c.args.engine.now) (λ act rolls. seen-rolls c.in_ok-seen.seen c.args.engine.now act c.in_ok-seen.ensures.sees rolls) c.rolling_back_seen.ensures.act
