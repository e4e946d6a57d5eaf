use Rattle.std.proofs.Common.{◌≡◌, ◌⊎◌, Some, sym, ap, subst, ◌∙◌}
use Rattle.bk_control.specs.Slots.{control_of}
use Rattle.bk_device.specs.Effects.{Effect, IsName}
use Rattle.bk_master.specs.Master.{Kept, IsMaster}
use Rattle.bk_master.specs.Spelling.{read_record}
use Rattle.bk_master.proofs.Steps.{put_none, put_crash, put_master}
use Rattle.bk_master.proofs.master.Master.put.Goals as goal

pub returns-in_err-bytes-clause-crash : goal.returns-in_err-bytes-clause-crash
returns-in_err-bytes-clause-crash g c t = put_none c.args.self.now c.args.next (g.D.Device.disk c.args.dev.now) (c.requires.stands t)

pub returns-in_err-put-clause-crash : goal.returns-in_err-put-clause-crash
returns-in_err-put-clause-crash g c t =
    let a = g.D.Device.disk c.args.dev.now in
    let b = g.D.Device.disk c.put.new.dev in
    let At : Kept → Type 0 = λ k. Effect (IsName k.control.name) (λ image. (control_of (image k.control.name) ≡ Some k.control.content) ⊎ (control_of (image k.control.name) ≡ Some c.deref.result.now)) a b in
    put_crash c.args.self.now c.args.next c.deref.result.now a b (c.requires.stands t) (ap read_record c.deref.ensures.value ∙ c.in_ok-bytes.ensures.read) (subst At c.self.view_is (c.put.ensures.crash t))

pub returns-clause-stands : goal.returns-clause-stands
returns-clause-stands g c t =
    let a = g.D.Device.disk c.args.dev.now in
    let Stands : Kept → Type 0 = λ k. IsMaster a k in
    let is = subst Stands (sym c.self.view_is) (c.requires.stands t) in
    put_master _ c.args.next _ c.deref.result.now a (g.D.Device.disk c.put.new.dev) c.put.new.self is c.put.ensures.name c.in_ok-put.ensures.content
    (ap read_record c.deref.ensures.value ∙ c.in_ok-bytes.ensures.read) (c.in_ok-put.ensures.stands t) (c.put.ensures.crash t)

pub returns-clause-crash : goal.returns-clause-crash
returns-clause-crash g c t =
    let a = g.D.Device.disk c.args.dev.now in
    let b = g.D.Device.disk c.put.new.dev in
    let At : Kept → Type 0 = λ k. Effect (IsName k.control.name) (λ image. (control_of (image k.control.name) ≡ Some k.control.content) ⊎ (control_of (image k.control.name) ≡ Some c.deref.result.now)) a b in
    put_crash c.args.self.now c.args.next c.deref.result.now a b (c.requires.stands t) (ap read_record c.deref.ensures.value ∙ c.in_ok-bytes.ensures.read) (subst At c.self.view_is (c.put.ensures.crash t))
