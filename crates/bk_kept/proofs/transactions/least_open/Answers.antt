use Rattle.std.proofs.Common.{◌∙◌}
use Rattle.bk_kept.proofs.Least.{least-folds}
use Rattle.bk_kept.proofs.transactions.least_open.Goals as goal

pub returns : goal.returns
returns c = c.least_of.ensures ∙ least-folds c.args.transactions.now c.args.n
