use Rattle.bk_log.proofs.Steps.{stay_crash}
use Rattle.bk_log.proofs.log.Log.make_room.Goals as goal

pub returns-in_err-room-clause-crash : goal.returns-in_err-room-clause-crash
returns-in_err-room-clause-crash g c t = stay_crash c.args.self.now (g.D.Device.disk c.args.dev.now) (c.requires.stands t)

pub returns-in_err-reserve-clause-crash : goal.returns-in_err-reserve-clause-crash
returns-in_err-reserve-clause-crash g c t = stay_crash c.args.self.now (g.D.Device.disk c.args.dev.now) (c.requires.stands t)

pub returns-clause-crash : goal.returns-clause-crash
returns-clause-crash g c t = stay_crash c.args.self.now (g.D.Device.disk c.args.dev.now) (c.requires.stands t)
