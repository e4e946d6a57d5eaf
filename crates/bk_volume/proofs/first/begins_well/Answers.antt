use Rattle.std.proofs.Common.{List, ℕ, refl, sym, ap, ◌∙◌}
use Rattle.bk_device.specs.Calls.{contents}
use Rattle.bk_volume.proofs.Sets.{first_none, first_other, letters_read}
use Rattle.bk_volume.proofs.first.begins_well.Goals as goal

pub returns-then-count-eq0-clause-value : goal.returns-then-count-eq0-clause-value
returns-then-count-eq0-clause-value g c t =
    let file = contents ((g.D.Device.disk c.args.dev.now).files c.args.gate.now.name) in
    sym (first_none file c.args.gate.now.spans (c.requires.gate_file t) (c.requires.spans t) (sym c.count.ensures ∙ c.if-count-eq0.true))

pub returns-then-len-ne8-clause-value : goal.returns-then-len-ne8-clause-value
returns-then-len-ne8-clause-value g c t =
    let file = contents ((g.D.Device.disk c.args.dev.now).files c.args.gate.now.name) in
    sym (first_other file c.args.gate.now.spans c.span-at.result (c.requires.gate_file t) (c.requires.spans t) c.span-at.ensures.span c.if-len-ne8.true)

pub returns-clause-value : goal.returns-clause-value
returns-clause-value g c t =
    let file = contents ((g.D.Device.disk c.args.dev.now).files c.args.gate.now.name) in
    c.eq.ensures ∙ letters_read _ c.read.new.buf _ file _ c.args.gate.now.spans c.span-at.result (c.requires.gate_file t) (c.requires.spans t) c.span-at.ensures.span c.if-len-ne8.false
    (c.in_ok-read.ensures.bytes t) refl refl (ap (λ (n : List ℕ). contents ((g.D.Device.disk c.args.dev.now).files n)) c.name.ensures)
