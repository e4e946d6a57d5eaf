use Rattle.std.proofs.Common.{◌∙◌, ap, sym}
use Rattle.bk_machine.specs.Closing.{count_open}
use Rattle.bk_executing.proofs.closing.count_open.Goals as goal

pub returns : goal.returns
returns c w has = c.count_seen-count.ensures ∙ ap count_open (sym (c.in_ok-seen.ensures.sees w has).databases)
