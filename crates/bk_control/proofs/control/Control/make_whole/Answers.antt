use Rattle.std.proofs.Common.{subst, sym}
use Rattle.bk_control.specs.Control.{IsControl}
use Rattle.bk_control.proofs.Puts.{whole_done}
use Rattle.bk_control.proofs.control.Control.make_whole.Goals as goal

pub returns-in_ok-self-inside-clause-stands : goal.returns-in_ok-self-inside-clause-stands
returns-in_ok-self-inside-clause-stands g c t =
    let a = g.D.Device.disk c.args.dev.now in
    let is = subst (IsControl a) (sym c.self.view_is) (c.requires.stands t) in
    whole_done _ c.deref.result.now c.in_ok-self-inside.field-0 a (g.D.Device.disk c.fill_up.new.dev) is c.deref.ensures (c.in_ok-self-inside.ensures.stands t) (c.in_ok-self-inside.ensures.durable t)
