use Rattle.std.proofs.Common.{ap}
use Rattle.bk_device.specs.Calls.{contents}
use Rattle.bk_control.proofs.Completing.{first_stands, second_stands, second_crash}
use Rattle.bk_control.proofs.whole.fill_up.Goals as goal

pub returns-in_err-lengthen-in-Second-clause-crash : goal.returns-in_err-lengthen-in-Second-clause-crash
returns-in_err-lengthen-in-Second-clause-crash g c t =
    let was = c.requires.holds t in
    second_crash c.args.name.now c.args.side c.args.is_open was.0 (g.D.Device.disk c.args.dev.now) (g.D.Device.disk c.file_len.new.dev) (g.D.Device.disk c.lengthen.new.dev) c.in-Second.is (c.requires.settled t) (c.file_len.ensures.effect t) was.1 (c.lengthen.ensures.crash t)

pub returns-in_ok-lengthen-in-Second-clause-crash : goal.returns-in_ok-lengthen-in-Second-clause-crash
returns-in_ok-lengthen-in-Second-clause-crash g c t =
    let was = c.requires.holds t in
    second_crash c.args.name.now c.args.side c.args.is_open was.0 (g.D.Device.disk c.args.dev.now) (g.D.Device.disk c.file_len.new.dev) (g.D.Device.disk c.lengthen.new.dev) c.in-Second.is (c.requires.settled t) (c.file_len.ensures.effect t) was.1 (c.lengthen.ensures.crash t)

pub returns-in_ok-add_second-in-First-clause-stands : goal.returns-in_ok-add_second-in-First-clause-stands
returns-in_ok-add_second-in-First-clause-stands g c t slot holds =
    first_stands c.args.side c.args.is_open slot _ _ _ c.in-First.is (ap contents ((c.file_len.ensures.effect t).files c.args.name.now)) holds (c.in_ok-add_second-in-First.ensures.stands t)

pub returns-in_ok-lengthen-in-Second-clause-stands : goal.returns-in_ok-lengthen-in-Second-clause-stands
returns-in_ok-lengthen-in-Second-clause-stands g c t slot holds =
    second_stands c.args.side c.args.is_open slot _ _ _ c.in-Second.is (ap contents ((c.file_len.ensures.effect t).files c.args.name.now)) holds (c.in_ok-lengthen-in-Second.ensures.lengthened t)
