use Rattle.std.proofs.Common.{inl, inr}
use Rattle.std.proofs.lemmas.Result.{err_from_is_err_and}
use Rattle.bk_device.specs.Laws.{durable_by_nothing}
use Rattle.bk_master.specs.Laws.{record_is_instance}
use Rattle.bk_master.proofs.Steps.{made_moved, no_instance_moved, broken_moved, load_crash}
use Rattle.bk_master.proofs.master.Master.load.Goals as goal

pub returns-in_err-master-clause-broken : goal.returns-in_err-master-clause-broken
returns-in_err-master-clause-broken g c t =
    let p = err_from_is_err_and c.from_residual-in_err-master.result c.from_residual-in_err-master.ensures.1 in
    let call = c.is_made.ensures.effect t in
    let made = made_moved call (c.in_ok-is_made.ensures.made t c.if-branch.true) in
    rw (p.1, p.2) (λ is. broken_moved call (c.in_err-master.ensures.broken t made is))

pub returns-in_ok-master-clause-stands : goal.returns-in_ok-master-clause-stands
returns-in_ok-master-clause-stands g c t before =
    let call = c.is_made.ensures.effect t in
    let made = c.in_ok-is_made.ensures.made t c.if-branch.true in
    elim before [
      | inl none ↦ absurd (made none)
      | inr durable ↦ c.in_ok-master.ensures.stands t (made_moved call made) (λ name own. durable_by_nothing name call (durable name own))
    ]

pub returns-in_ok-master-clause-no_instance : goal.returns-in_ok-master-clause-no_instance
returns-in_ok-master-clause-no_instance g c t no_instance =
    let call = c.is_made.ensures.effect t in
    record_is_instance (c.in_ok-master.ensures.loaded t (made_moved call no_instance.0)) (no_instance_moved call no_instance)

pub returns-in_ok-master-2-clause-crash : goal.returns-in_ok-master-2-clause-crash
returns-in_ok-master-2-clause-crash g c t none durable =
    load_crash c.args.number (g.D.Device.disk c.args.dev.now) (g.D.Device.disk c.is_made.new.dev) (g.D.Device.disk c.make.new.dev) (c.is_made.ensures.effect t) none durable (c.make.ensures.crash t)
