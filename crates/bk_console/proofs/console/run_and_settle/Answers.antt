use Rattle.std.proofs.lemmas.Result.{err_from_is_err_and}
use Rattle.bk_console.proofs.Settling.{keeps-ours, over-failed, over-settled}
use Rattle.bk_console.proofs.console.run_and_settle.Goals as goal

pub returns-in_err-ended-clause-over : goal.returns-in_err-ended-clause-over
returns-in_err-ended-clause-over g c =
    let p = err_from_is_err_and c.from_residual.result c.from_residual.ensures.1 in
    let was = c.in_err-ended.ensures in
    rw (p.1, p.2) (record {
      executed = was.executed;
      begun = was.begun;
      fails = was.fails;
      not_an_instance = was.not_an_instance;
      no_instance = was.no_instance;
      unbroken = was.unbroken;
      unchanged = was.unchanged;
      others = was.others;
    })

pub returns-in_err-settle-clause-over : goal.returns-in_err-settle-clause-over
returns-in_err-settle-clause-over g c =
    let p = err_from_is_err_and c.from_residual-in_err-settle.result c.from_residual-in_err-settle.ensures.1 in
    let was = c.in_ok-ended.ensures in
    rw (p.1, p.2) (over-failed _ _ _ _ _ _ _ _ _ (λ t. g.met.D.Device.lawful t c.over_engine.new.device.device.now) (λ t. g.met.D.Device.lawful t c.settle.new.self.device.now)
    c.in_err-settle.ensures.narrows c.in_ok-ended.ended (record {
      executed = was.executed;
      begun = was.begun;
      fails = tt;
      not_an_instance = was.not_an_instance;
      no_instance = was.no_instance;
      unbroken = was.unbroken;
      unchanged = was.unchanged;
      others = was.others;
    }) (λ t. keeps-ours (c.in_err-settle.ensures.crash t)) c.in_err-settle.field-0.0)

pub returns-clause-over : goal.returns-clause-over
returns-clause-over g c =
    let was = c.in_ok-ended.ensures in
    over-settled _ _ _ _ _ _ _ _ _ (λ t. g.met.D.Device.lawful t c.over_engine.new.device.device.now) (λ t. g.met.D.Device.lawful t c.settle.new.self.device.now)
    c.in_ok-settle.ensures.narrows c.in_ok-ended.ended (record {
      executed = was.executed;
      begun = was.begun;
      fails = tt;
      not_an_instance = was.not_an_instance;
      no_instance = was.no_instance;
      unbroken = was.unbroken;
      unchanged = was.unchanged;
      others = was.others;
    }) (λ t. keeps-ours (c.in_ok-settle.ensures.crash t)) (λ t. (c.in_ok-settle.ensures.same t).files)
