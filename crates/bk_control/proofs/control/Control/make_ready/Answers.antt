use Rattle.bk_control.proofs.Puts.{kept_after}
use Rattle.bk_control.proofs.control.Control.make_ready.Goals as goal

pub returns-clause-crash : goal.returns-clause-crash
returns-clause-crash g c t =
    kept_after c.args.self.now c.make_whole.new.self (g.D.Device.disk c.args.dev.now) (g.D.Device.disk c.make_whole.new.dev) (g.D.Device.disk c.leave_room.new.dev) c.make_whole.ensures.name c.make_whole.ensures.content (c.make_whole.ensures.crash t) (c.leave_room.ensures.crash t)
