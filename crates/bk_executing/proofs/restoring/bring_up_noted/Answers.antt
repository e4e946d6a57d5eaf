use Rattle.std.proofs.Common.{◌∷◌, [], sym, subst}
use Rattle.std.proofs.lemmas.Result.{err_from_is_err_and, on_ok_weaker}
use Rattle.bk_device.specs.Compose.{effect_then, effect_weaken}
use Rattle.bk_engine.specs.Stands.{StandsFor}
use Rattle.bk_machine.specs.Acts.{done_all, noted}
use Rattle.bk_machine.specs.ClosingLaws.{done-joined}
use Rattle.bk_machine.specs.declared.history_row.HistoryRow.TheVariants as history
use Rattle.bk_restarts.specs.CutLaws.{cut-act}
use Rattle.bk_executing.proofs.PartByPart.{cut-before, cut-behind}
use Rattle.bk_executing.proofs.PartsDone.{keeps-spelled}
use Rattle.bk_executing.proofs.Results.{not-broken}
use Rattle.bk_executing.proofs.restoring.bring_up_noted.Goals as goal

pub note-requires-clause-keeps : goal.note-requires-clause-keeps
note-requires-clause-keeps g c = keeps-spelled (history.Restore c.args.row) c.requires.keeps_row

pub returns-clause-does : goal.returns-clause-does
returns-clause-does g c tells w log acts stands there are =
    on_ok_weaker c.note.result (subst (StandsFor (g.D.Device.disk c.note.new.dev) c.bring_up.new.engine) (sym (done-joined w acts (noted (history.Restore c.args.row) ∷ []))))
    (c.note.ensures.stands tells (done_all w acts) (c.in_ok-bring_up.ensures.does tells w log acts stands there are))

pub returns-in_err-bring_up-clause-crash : goal.returns-in_err-bring_up-clause-crash
returns-in_err-bring_up-clause-crash g c tells w log acts stands there are =
    effect_weaken (λ image cut. cut-before w acts (noted (history.Restore c.args.row) ∷ []) image cut) (c.bring_up.ensures.crash tells w log acts stands there are)

pub returns-clause-crash : goal.returns-clause-crash
returns-clause-crash g c tells w log acts stands there are =
    effect_then (effect_weaken (λ image cut. cut-before w acts (noted (history.Restore c.args.row) ∷ []) image cut) (c.bring_up.ensures.crash tells w log acts stands there are))
    (effect_weaken (λ image cut. cut-behind w acts (noted (history.Restore c.args.row) ∷ []) image (cut-act (done_all w acts) (noted (history.Restore c.args.row)) [] image cut))
    (c.note.ensures.crash tells (done_all w acts) (c.in_ok-bring_up.ensures.does tells w log acts stands there are)))

pub returns-in_err-bring_up-clause-broken : goal.returns-in_err-bring_up-clause-broken
returns-in_err-bring_up-clause-broken g c tells =
    let p = err_from_is_err_and c.from_residual.result c.from_residual.ensures.1 in
    rw (p.1, p.2) (λ is. c.in_err-bring_up.ensures.broken tells is)

pub returns-clause-broken : goal.returns-clause-broken
returns-clause-broken g c tells is = absurd (not-broken c.note.result c.note.ensures.trouble is)
