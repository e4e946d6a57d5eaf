use Rattle.std.proofs.Common.{rules}
use Rattle.bk_world.specs.Records.{database_made}
use Rattle.bk_store.specs.Store.{at_end}
use Rattle.bk_store.proofs.store.Store.found.Goals as goal

pub returns-clause-crash : goal.returns-clause-crash
returns-clause-crash g c t told is may = c.say_durably-done.ensures.crash t told (at_end c.args.self.now 0 (database_made c.args.time c.args.family c.args.branch)) is may (search rules)
