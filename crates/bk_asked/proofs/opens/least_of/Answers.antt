use Rattle.std.proofs.Common.{◌∙◌}
use Rattle.bk_asked.proofs.Opened.{least-folds}
use Rattle.bk_asked.proofs.opens.least_of.Goals as goal

pub returns : goal.returns
returns c = c.least_from.ensures ∙ least-folds c.args.transactions.now c.args.other
