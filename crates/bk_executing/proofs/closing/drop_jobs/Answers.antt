use Rattle.std.proofs.Common.{◌≡◌, sym, subst}
use Rattle.std.specs.Prelude.{OnOk}
use Rattle.std.proofs.lemmas.Result.{err_from_is_err_and}
use Rattle.bk_executing.proofs.Closings.{cuts-none, drops-by, idle-jobless}
use Rattle.bk_executing.proofs.closing.drop_jobs.Goals as goal

pub returns-in_err-drop_sets-clause-crash : goal.returns-in_err-drop_sets-clause-crash
returns-in_err-drop_sets-clause-crash g c tells w stands = cuts-none w (c.drop_sets.ensures.crash tells w stands)

pub returns-in_err-drop_sets-clause-still : goal.returns-in_err-drop_sets-clause-still
returns-in_err-drop_sets-clause-still g c tells w stands idle =
    let p = err_from_is_err_and c.from_residual.result c.from_residual.ensures.1 in
    let same = c.drop_sets.ensures.still tells w stands (idle-jobless w idle) in
    (same.0, subst (λ r. OnOk r (c.drop_sets.new.self ≡ c.args.engine.now)) (sym p.1) tt)

pub returns-clause-drops : goal.returns-clause-drops
returns-clause-drops g c tells w stands =
    drops-by c.runs_are_closed_one_by_one.ensures.drops w c.drop_sets.new.self c.in_ok-drop_sets.field-0 (c.drop_sets.ensures.crash tells w stands) (c.in_ok-drop_sets.ensures.stands tells w stands) (c.in_ok-drop_sets.ensures.idle tells w stands)

pub returns-clause-crash : goal.returns-clause-crash
returns-clause-crash g c tells w stands = cuts-none w (c.drop_sets.ensures.crash tells w stands)

pub returns-clause-still : goal.returns-clause-still
returns-clause-still g c tells w stands idle = c.in_ok-drop_sets.ensures.still tells w stands (idle-jobless w idle)
