use Rattle.std.proofs.Common.{◌∙◌, ap, sym, length}
use Rattle.bk_device.specs.Calls.{contents}
use Rattle.bk_device.specs.Laws.{nothing_then}
use Rattle.bk_gate.specs.BlobLaws.{stands_spans}
use Rattle.bk_gate.proofs.Reading.{read_stands, read_gate}
use Rattle.bk_gate.proofs.gate.Gate.load.Goals as goal

pub returns-in_err-len-clause-effect : goal.returns-in_err-len-clause-effect
returns-in_err-len-clause-effect g c = c.check.ensures.effect

pub returns-in_err-end-clause-effect : goal.returns-in_err-end-clause-effect
returns-in_err-end-clause-effect g c t = nothing_then (g.met.D.Device.lawful t c.args.dev.now) (c.check.ensures.effect t) (c.read_spans.ensures.effect t)

pub returns-in_err-is_closed-clause-effect : goal.returns-in_err-is_closed-clause-effect
returns-in_err-is_closed-clause-effect g c t =
    let lawful = g.met.D.Device.lawful t c.args.dev.now in
    nothing_then lawful (nothing_then lawful (c.check.ensures.effect t) (c.read_spans.ensures.effect t)) (c.read_closed.ensures.effect t)

pub returns-in_err-name_kept-clause-effect : goal.returns-in_err-name_kept-clause-effect
returns-in_err-name_kept-clause-effect g c t =
    let lawful = g.met.D.Device.lawful t c.args.dev.now in
    nothing_then lawful (nothing_then lawful (c.check.ensures.effect t) (c.read_spans.ensures.effect t)) (c.read_closed.ensures.effect t)

pub returns-clause-gate_file : goal.returns-clause-gate_file
returns-clause-gate_file g c = c.in_ok-len.ensures.gate_file

pub returns-clause-spans : goal.returns-clause-spans
returns-clause-spans g c t =
    let same = ap contents ((c.check.ensures.effect t).files c.args.name.now) in
    let size = c.in_ok-len.ensures.len t ∙ sym (ap length same) in
    sym (stands_spans _ _ _ (read_stands _ _ c.in_ok-len.len c.read_spans.new.spans.items c.in_ok-end.end same (c.in_ok-len.ensures.len t) (c.in_ok-end.ensures.lies t size) (c.in_ok-end.ensures.ends t size) c.in_ok-end.ensures.inside (c.in_ok-len.ensures.gate_file t)))

pub returns-clause-stands : goal.returns-clause-stands
returns-clause-stands g c t durable =
    let disk = g.D.Device.disk in
    record {
      at = read_gate c.in_ok-len.len c.read_spans.new.spans.items c.in_ok-end.end c.in_ok-is_closed.is_closed c.args.name.now _ (disk c.args.dev.now) (disk c.check.new.dev) (disk c.read_spans.new.dev) (disk c.read_closed.new.dev)
          (g.met.D.Device.lawful t c.args.dev.now) (c.check.ensures.effect t) (c.read_spans.ensures.effect t) (c.read_closed.ensures.effect t) c.in_ok-name_kept.ensures.ok durable (c.in_ok-len.ensures.len t) (c.in_ok-len.ensures.gate_file t)
          (c.in_ok-end.ensures.lies t) (c.in_ok-end.ensures.ends t) c.in_ok-end.ensures.inside (c.in_ok-is_closed.ensures.value t);
      room = λ n begun more. absurd (cc);
    }

pub returns-clause-effect : goal.returns-clause-effect
returns-clause-effect g c t =
    let lawful = g.met.D.Device.lawful t c.args.dev.now in
    nothing_then lawful (nothing_then lawful (c.check.ensures.effect t) (c.read_spans.ensures.effect t)) (c.read_closed.ensures.effect t)
