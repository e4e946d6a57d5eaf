use Rattle.bk_maps.proofs.Lists.{differential-after, bulk-after}
use Rattle.bk_maps.proofs.law.maps_law.Goals as goal

pub returns : goal.returns
returns c = record { differential = differential-after; bulk = bulk-after }
