use Rattle.std.proofs.Common.{◌≡◌, ap, subst, sym, Err}
use Rattle.std.proofs.lemmas.Result.{err_from_is_err_and}
use Rattle.bk_device.specs.declared.trouble.Trouble.TheVariants.{Broken}
use Rattle.bk_executing.specs.EngineStands.{StandsFor}
use Rattle.bk_console.proofs.Asking.{OnErr-from}
use Rattle.bk_console.proofs.Executing.{was-done, was-not_done}
use Rattle.bk_console.proofs.answers.execute_one.Goals as goal

pub returns-in_err-reply-clause-not_done : goal.returns-in_err-reply-clause-not_done
returns-in_err-reply-clause-not_done g c =
    OnErr-from _ (was-not_done _ g.D.Device.disk _ _ _ c.args.device.now c.at_rest.new.dev c.execute.new.dev c.at_rest.ensures.same c.in_err-reply.ensures.failed c.at_rest.ensures.crash)

pub returns-in_err-reply-clause-broken : goal.returns-in_err-reply-clause-broken
returns-in_err-reply-clause-broken g c t h w stands =
    let p = err_from_is_err_and c.from_residual.result c.from_residual.ensures.1 in
    let same : c.in_err-reply.field-0.0 ≡ Broken = cc (p.1, p.2, h) in
    c.in_err-reply.ensures.broken t (ap Err same) w (subst (λ d. StandsFor (g.D.Device.disk d) c.args.engine.now w) (sym c.at_rest.ensures.same) stands)

pub returns-clause-done : goal.returns-clause-done
returns-clause-done g c =
    was-done _ g.D.Device.disk _ _ _ c.args.device.now c.at_rest.new.dev c.execute.new.dev c.at_rest.ensures.same c.execute.new.engine c.in_ok-reply.reply c.at_rest-2.new.dev c.at_rest-2.ensures.same c.in_ok-reply.ensures.executed c.at_rest-2.ensures.crash
