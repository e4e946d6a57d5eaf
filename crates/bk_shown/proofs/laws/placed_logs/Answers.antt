use Rattle.std.proofs.Common.{subst}
use Rattle.bk_shown.proofs.Committed.{ValueFits, holds-all}
use Rattle.bk_shown.proofs.Keeps.{keeps-along, placed-join}
use Rattle.bk_shown.proofs.Starts.{keeps-none}
use Rattle.bk_shown.proofs.laws.placed_logs.Goals as goal

pub returns-clause-keeps : goal.returns-clause-keeps
returns-clause-keeps c = λ files rs n counts sound placed. keeps-along files _ rs 1 n counts sound placed keeps-none

pub returns-clause-lie : goal.returns-clause-lie
returns-clause-lie c = λ files rs n counts sound placed id at e. (holds-all files rs n counts sound placed keeps-none).cells id at e

pub returns-clause-more : goal.returns-clause-more
returns-clause-more c = λ files rs next first then. placed-join files _ rs next first then

pub returns-clause-values : goal.returns-clause-values
returns-clause-values c = λ files rs n counts sound placed table key value e. (subst (ValueFits (table, key)) e ((holds-all files rs n counts sound placed keeps-none).values (table, key))).1
