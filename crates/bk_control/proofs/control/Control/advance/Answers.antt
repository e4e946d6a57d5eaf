use Rattle.std.proofs.Common.{ap, subst, sym, ◌∙◌, inl, arith}
use Rattle.bk_control.specs.Control.{Kept, IsReady}
use Rattle.bk_control.proofs.Puts.{stands_before, put_crash, put_done}
use Rattle.bk_control.proofs.control.Control.advance.Goals as goal

pub rewrite-requires-clause-stands : goal.rewrite-requires-clause-stands
rewrite-requires-clause-stands g c t =
    let a = g.D.Device.disk c.args.dev.now in
    let is = subst (IsReady a) (sym c.self.view_is) (c.requires.stands t) in
    (_, stands_before c.other-side.result _ c.deref.result.now a is c.other-side.ensures c.deref.ensures, inl (omega arith))

pub returns-in_err-rewrite-clause-crash : goal.returns-in_err-rewrite-clause-crash
returns-in_err-rewrite-clause-crash g c t =
    put_crash c.args.self.now c.deref.result.now c.args.bytes.now (g.D.Device.disk c.args.dev.now) (g.D.Device.disk c.rewrite.new.dev) (c.requires.stands t) (c.deref.ensures ∙ ap (λ (k : Kept). k.name) c.self.view_is) (c.rewrite.ensures.crash t)

pub returns-clause-crash : goal.returns-clause-crash
returns-clause-crash g c t =
    put_crash c.args.self.now c.deref.result.now c.args.bytes.now (g.D.Device.disk c.args.dev.now) (g.D.Device.disk c.rewrite.new.dev) (c.requires.stands t) (c.deref.ensures ∙ ap (λ (k : Kept). k.name) c.self.view_is) (c.rewrite.ensures.crash t)

pub returns-clause-stands : goal.returns-clause-stands
returns-clause-stands g c t =
    let a = g.D.Device.disk c.args.dev.now in
    let is = subst (IsReady a) (sym c.self.view_is) (c.requires.stands t) in
    put_done c.other-side.result _ c.deref.result.now a (g.D.Device.disk c.rewrite.new.dev) _ c.args.bytes.now _ is c.other-side.ensures c.deref.ensures (omega arith) (c.in_ok-rewrite.ensures.rewritten t) (c.in_ok-rewrite.ensures.durable t) c.refill.ensures.items
