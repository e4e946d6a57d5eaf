use Rattle.std.proofs.Common.{◌≡◌, Option, Some, ap, ◌∙◌}
use Rattle.bk_master.specs.declared.record.Record.{Record}
use Rattle.bk_master.specs.Master.{fresh}
use Rattle.bk_master.specs.Spelling.{read_record}
use Rattle.bk_master.proofs.Steps.{Ready, make_second, made_master}
use Rattle.bk_master.proofs.master.Master.make.Goals as goal

pub returns-in_err-mark_made-clause-crash : goal.returns-in_err-mark_made-clause-crash
returns-in_err-mark_made-clause-crash g c t durable =
    let a = g.D.Device.disk c.args.dev.now in
    let b = g.D.Device.disk c.make_control.new.dev in
    let reads : read_record c.in_ok-control.control.content ≡ Some (fresh c.args.number) =
    ap read_record c.in_ok-control.ensures.content ∙ ap read_record c.deref.ensures.value ∙ c.in_ok-bytes.ensures.read ∙ ap (λ (r : Record). let some : Option Record = Some r in some) c.first_record-record.ensures in
    let is : Ready b c.args.number c.in_ok-control.control = record { control_name = c.in_ok-control.ensures.name; controls = c.in_ok-control.ensures.stands t; reads = reads } in
    make_second c.args.number a b (g.D.Device.disk c.mark_made.new.dev) c.in_ok-control.control (c.requires t) durable (c.make_control.ensures.crash t) is (c.mark_made.ensures.crash t)

pub returns-clause-stands : goal.returns-clause-stands
returns-clause-stands g c t =
    let b = g.D.Device.disk c.make_control.new.dev in
    let reads : read_record c.in_ok-control.control.content ≡ Some (fresh c.args.number) =
    ap read_record c.in_ok-control.ensures.content ∙ ap read_record c.deref.ensures.value ∙ c.in_ok-bytes.ensures.read ∙ ap (λ (r : Record). let some : Option Record = Some r in some) c.first_record-record.ensures in
    let is : Ready b c.args.number c.in_ok-control.control = record { control_name = c.in_ok-control.ensures.name; controls = c.in_ok-control.ensures.stands t; reads = reads } in
    rw c.first_record-record.ensures (made_master c.args.number _ b (g.D.Device.disk c.mark_made.new.dev) c.in_ok-control.control is (c.mark_made.ensures.crash t) (c.in_ok-mark_made.ensures.made t) (c.in_ok-mark_made.ensures.durable t))

pub returns-clause-crash : goal.returns-clause-crash
returns-clause-crash g c t durable =
    let a = g.D.Device.disk c.args.dev.now in
    let b = g.D.Device.disk c.make_control.new.dev in
    let reads : read_record c.in_ok-control.control.content ≡ Some (fresh c.args.number) =
    ap read_record c.in_ok-control.ensures.content ∙ ap read_record c.deref.ensures.value ∙ c.in_ok-bytes.ensures.read ∙ ap (λ (r : Record). let some : Option Record = Some r in some) c.first_record-record.ensures in
    let is : Ready b c.args.number c.in_ok-control.control = record { control_name = c.in_ok-control.ensures.name; controls = c.in_ok-control.ensures.stands t; reads = reads } in
    make_second c.args.number a b (g.D.Device.disk c.mark_made.new.dev) c.in_ok-control.control (c.requires t) durable (c.make_control.ensures.crash t) is (c.mark_made.ensures.crash t)
