use Rattle.bk_side.proofs.Names.{paths_differ, not_side}
use Rattle.bk_side.proofs.name.name_law.Goals as goal

pub returns-clause-different : goal.returns-clause-different
returns-clause-different c = paths_differ

pub returns-clause-apart : goal.returns-clause-apart
returns-clause-apart c = not_side
