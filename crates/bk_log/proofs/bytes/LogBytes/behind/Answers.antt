use Rattle.std.proofs.Common.{◌∙◌}
use Rattle.bk_log.proofs.Parts.{behind_is}
use Rattle.bk_log.proofs.bytes.LogBytes.behind.Goals as goal

pub returns : goal.returns
returns c rs spelled are enough = behind_is c.args.all.items rs c.args.count c.place_of-start.result spelled (c.place_of-start.ensures.value rs (c.deref.ensures.value ∙ spelled) are enough)
