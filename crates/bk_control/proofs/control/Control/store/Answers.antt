use Rattle.std.proofs.lemmas.Result.{on_ok_weaker}
use Rattle.std.proofs.Common.{inl}
use Rattle.bk_device.specs.Compose.{effect_weaken}
use Rattle.bk_control.proofs.Puts.{put_after, ready_control}
use Rattle.bk_control.proofs.control.Control.store.Goals as goal

pub returns-in_err-make_ready-clause-crash : goal.returns-in_err-make_ready-clause-crash
returns-in_err-make_ready-clause-crash g c t = effect_weaken (λ image old. inl old) (c.make_ready.ensures.crash t)

pub returns-clause-crash : goal.returns-clause-crash
returns-clause-crash g c t =
    put_after c.args.self.now c.make_ready.new.self c.args.bytes.now (g.D.Device.disk c.args.dev.now) (g.D.Device.disk c.make_ready.new.dev) (g.D.Device.disk c.advance.new.dev) c.make_ready.ensures.name c.make_ready.ensures.content (c.make_ready.ensures.crash t) (c.advance.ensures.crash t)

pub returns-clause-stands : goal.returns-clause-stands
returns-clause-stands g c t = on_ok_weaker c.advance.result ready_control (c.advance.ensures.stands t)
