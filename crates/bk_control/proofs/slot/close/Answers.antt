use Rattle.std.proofs.lemmas.Result.{on_ok_weaker}
use Rattle.std.proofs.Common.{ap, subst, sym, Bool, false, List, ℕ}
use Rattle.bk_device.specs.Calls.{contents}
use Rattle.bk_control.specs.Slots.{other}
use Rattle.bk_control.specs.Stands.{Stands}
use Rattle.bk_control.proofs.Steps.{close_step, close_end}
use Rattle.bk_control.proofs.slot.close.Goals as goal

pub returns-clause-crash : goal.returns-clause-crash
returns-clause-crash g c t =
    let disk = g.D.Device.disk in
    let name = c.args.name.now in
    let a = disk c.args.dev.now in
    let old = c.requires.stands t in
    let Open : Bool → Type 0 = λ is. Stands (other c.args.side) is old.0 (contents (a.files name)) in
    close_step name c.args.side old.0 c.place.result a (disk c.write_durably.new.dev) c.place.ensures (subst Open c.if-not-is_open.false old.1) (c.write_durably.ensures.crash t)

pub returns-clause-stands : goal.returns-clause-stands
returns-clause-stands g c t old stands =
    let Closed : List ℕ → Type 0 = λ file. Stands (other c.args.side) false old file in
    on_ok_weaker c.write_durably.result (λ wrote. subst Closed (sym (ap contents wrote)) (close_end c.args.side c.args.is_open old c.place.result _ c.place.ensures stands)) (c.write_durably.ensures.written t)
