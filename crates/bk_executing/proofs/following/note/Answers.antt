use Rattle.bk_executing.proofs.Results.{of-ok, on-all}
use Rattle.bk_executing.proofs.PartsDone.{keeps-spelled, noted-cuts, noted-does}
use Rattle.bk_executing.proofs.following.note.Goals as goal

pub note-requires-clause-keeps : goal.note-requires-clause-keeps
note-requires-clause-keeps g c = keeps-spelled c.args.row.now c.requires.keeps

pub returns-clause-does : goal.returns-clause-does
returns-clause-does g c tells = on-all c.note.result (λ value ok. noted-does c.args.engine.now (g.D.Device.disk c.args.dev.now) (g.D.Device.disk c.note.new.dev) c.args.row.now (λ w stands. of-ok c.note.result value ok (c.note.ensures.stands tells w stands)))

pub returns-clause-crash : goal.returns-clause-crash
returns-clause-crash g c tells = noted-cuts c.args.engine.now (g.D.Device.disk c.args.dev.now) (g.D.Device.disk c.note.new.dev) c.args.row.now (c.note.ensures.crash tells)
