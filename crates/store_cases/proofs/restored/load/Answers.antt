use Rattle.store_cases.proofs.Names.{no-medium}
use Rattle.store_cases.proofs.restored.load.Goals as goal

pub returns-in-Ok-clause-elsewhere : goal.returns-in-Ok-clause-elsewhere
returns-in-Ok-clause-elsewhere c = λ own. no-medium c.in-Ok.medium.name c.args.path.now (rw c.in-Ok.is at c.load.ensures.name) own
