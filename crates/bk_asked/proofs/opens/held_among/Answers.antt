use Rattle.std.proofs.Common.{ap}
use Rattle.std.specs.Option.{option_map}
use Rattle.bk_asked.proofs.Opened.{held-kept}
use Rattle.bk_asked.proofs.opens.held_among.Goals as goal

pub returns-in-Some-clause-shows : goal.returns-in-Some-clause-shows
returns-in-Some-clause-shows c = λ leave history seen.
    held-kept history c.args.databases.now c.args.session c.loop-database.database-index c.database-item.result (option_map (λ t. t.now) c.open_of.result) c.in-Some.transaction.now c.loop-database-test.true
    c.database-item.is c.open_of.ensures (ap (option_map (λ t. t.now)) c.in-Some.is) leave seen
