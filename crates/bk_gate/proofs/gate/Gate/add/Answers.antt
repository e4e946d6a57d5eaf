use Rattle.std.proofs.Common.{◌+◌, ◌∙◌, ap, sym, subst, length}
use Rattle.bk_gate.specs.Gate.{Kept, IsGate}
use Rattle.bk_gate.proofs.Gates.{keeps_named, added_gate}
use Rattle.bk_gate.proofs.gate.Gate.add.Goals as goal

pub returns-in-Ok-clause-stands : goal.returns-in-Ok-clause-stands
returns-in-Ok-clause-stands g c t =
    let Of : Kept → Type 0 = IsGate (g.D.Device.disk c.args.dev.now) in
    added_gate c.deref.result.now (c.unwrap_or-len.result + length c.args.bytes.now) c.deref.ensures (subst Of (sym c.self.view_is) (c.requires.stands t)) (c.in-Ok.ensures.quiet t) (c.in-Ok.ensures.room t)

pub returns-in-Ok-clause-crash : goal.returns-in-Ok-clause-crash
returns-in-Ok-clause-crash g c t =
    keeps_named c.args.self.now c.deref.result.now (g.D.Device.disk c.args.dev.now) (g.D.Device.disk c.add_blob.new.dev) (c.deref.ensures ∙ ap (λ (k : Kept). k.name) c.self.view_is) (c.add_blob.ensures.crash t)

pub returns-in-Err-clause-crash : goal.returns-in-Err-clause-crash
returns-in-Err-clause-crash g c t =
    keeps_named c.args.self.now c.deref.result.now (g.D.Device.disk c.args.dev.now) (g.D.Device.disk c.add_blob.new.dev) (c.deref.ensures ∙ ap (λ (k : Kept). k.name) c.self.view_is) (c.add_blob.ensures.crash t)
