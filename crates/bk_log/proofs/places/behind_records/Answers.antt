use Rattle.bk_log.proofs.Parts.{tail_is}
use Rattle.bk_log.proofs.places.behind_records.Goals as goal

pub returns : goal.returns
returns c rs spelled are enough = tail_is c.args.bytes.now rs c.args.count c.place_of.result spelled (c.place_of.ensures.value rs spelled are enough)
