use Rattle.bk_carried.proofs.Enough.{keeps-known, may-fill}
use Rattle.bk_carried.proofs.laws.sets_have_room.Goals as goal

pub returns : goal.returns
returns c = record { fills = may-fill; keeps = λ body spec is. keeps-known body is spec }
