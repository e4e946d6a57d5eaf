use Rattle.std.proofs.Common.{refl}
use Rattle.std.proofs.lemmas.Result.{on_ok_weaker}
use Rattle.bk_kept.proofs.Seated.{keeps-turned, on-err, keeps-left}
use Rattle.bk_kept.proofs.kept.Kept.turn.Goals as goal

pub returns-clause-turned : goal.returns-clause-turned
returns-clause-turned c = on_ok_weaker c.set_current.result (λ sessions w keeps.
    keeps-turned w c.args.self.now (record c.args.self.now { sessions = c.set_current.new.sessions }) c.args.name keeps refl refl refl refl sessions) c.set_current.ensures.ok

pub returns-clause-err : goal.returns-clause-err
returns-clause-err c = on-err c.set_current.result c.set_current.ensures.err (λ same w keeps.
    keeps-left w c.args.self.now (record c.args.self.now { sessions = c.set_current.new.sessions }) refl refl refl refl same keeps)
