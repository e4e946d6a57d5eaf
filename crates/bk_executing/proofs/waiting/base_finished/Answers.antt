use Rattle.std.proofs.Common.{List, ℕ, subst}
use Rattle.bk_device.specs.Effects.{Effect}
use Rattle.bk_engine.specs.Acts.{CutsAct}
use Rattle.bk_engine.specs.Stands.{IsOurs, StandsFor}
use Rattle.bk_machine.specs.Acts.{based, done, noted}
use Rattle.bk_machine.specs.declared.history_row.HistoryRow.TheVariants as history
use Rattle.bk_executing.proofs.Results.{of-ok, on-all}
use Rattle.bk_executing.proofs.PartsDone.{keeps-spelled}
use Rattle.bk_executing.proofs.Waited.{based-cut, noted-cut}
use Rattle.bk_executing.proofs.waiting.base_finished.Goals as goal

pub note-requires-clause-keeps : goal.note-requires-clause-keeps
note-requires-clause-keeps g c = keeps-spelled (history.Backup c.args.row) c.requires.keeps

pub returns-in_err-note-clause-crash : goal.returns-in_err-note-clause-crash
returns-in_err-note-clause-crash g c tells w stands = noted-cut w c.args.name.now c.args.row c.args.base.now (c.note.ensures.crash tells w stands)

pub returns-clause-does : goal.returns-clause-does
returns-clause-does g c tells w stands =
    let v = done w (noted (history.Backup c.args.row)) in
    on-all c.base.result (λ value ok. subst (λ (x : List ℕ). StandsFor (g.D.Device.disk c.base.new.dev) c.base.new.self (done v (based x c.args.base.now))) c.as_str.ensures.spelling (of-ok c.base.result value ok (c.base.ensures.stands tells) v (c.in_ok-note.ensures.stands tells w stands) tt))

pub returns-clause-crash : goal.returns-clause-crash
returns-clause-crash g c tells w stands =
    let v = done w (noted (history.Backup c.args.row)) in
    based-cut w c.args.name.now c.args.row c.args.base.now (c.note.ensures.crash tells w stands)
    (subst (λ (x : List ℕ). Effect IsOurs (CutsAct v (based x c.args.base.now)) (g.D.Device.disk c.note.new.dev) (g.D.Device.disk c.base.new.dev)) c.as_str.ensures.spelling (c.base.ensures.crash tells v (c.in_ok-note.ensures.stands tells w stands)))
