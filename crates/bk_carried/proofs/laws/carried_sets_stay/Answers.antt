use Rattle.std.proofs.Common.{List, sym, subst}
use Rattle.bk_world.specs.Records.{Logged}
use Rattle.bk_carried.specs.Carried.{HoldsLog}
use Rattle.bk_carried.proofs.laws.carried_sets_stay.Goals as goal

pub returns : goal.returns
returns c = λ lines more body carries same. subst (λ (rs : List Logged). HoldsLog rs body) (sym same) carries
