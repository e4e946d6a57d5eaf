use Rattle.std.proofs.lemmas.Result.{on_ok_weaker}
use Rattle.bk_executing.proofs.following.do_stored.Goals as goal

pub returns-clause-does : goal.returns-clause-does
returns-clause-does g c tells = on_ok_weaker c.do_act.result (λ does w act stands is. does w act stands is.0) (c.do_act.ensures.does tells)

pub returns-clause-crash : goal.returns-clause-crash
returns-clause-crash g c tells w act acts stands is = c.do_act.ensures.crash tells w act acts stands is.0
