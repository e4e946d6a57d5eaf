use Rattle.bk_carried.proofs.Listed.{listed, listed-held, listed-rise, listed-there}
use Rattle.bk_carried.proofs.laws.extents_lie_in_order.Goals as goal

pub returns : goal.returns
returns c = record { listed = listed; there = listed-there; rise = listed-rise; held = listed-held }
