use Rattle.bk_kept.proofs.Seated.{keeps-seated}
use Rattle.bk_kept.proofs.kept.Kept.seat.Goals as goal

pub returns-clause-seated : goal.returns-clause-seated
returns-clause-seated c = λ w keeps. keeps-seated w c.args.self.now c.args.session keeps
