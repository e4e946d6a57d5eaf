use Rattle.bk_machine.proofs.Writes.{catalog-still, query-still, refused-still, select-still, session-still, start-still, statement-writes, use-still}
use Rattle.bk_machine.proofs.statement_laws.what_statements_write_to.Goals as goal

pub returns : goal.returns
returns c = record { refused = refused-still; uses = use-still; sits = session-still; starts = start-still; selects = select-still; asks = query-still; lists = catalog-still; media = statement-writes }
