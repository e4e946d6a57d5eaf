use Rattle.std.proofs.Common.{ap, ◌∙◌}
use Rattle.bk_gate.specs.Gate.{Kept}
use Rattle.bk_segments.specs.Files.{segment_file}
use Rattle.bk_segments.proofs.Makes.{empty_at, segment_untouched, segment_made, segment_begun, begun_sealed}
use Rattle.bk_segments.proofs.making.begin_segment.Goals as goal

pub returns-in_err-name-clause-crash : goal.returns-in_err-name-clause-crash
returns-in_err-name-clause-crash g c t = segment_untouched (segment_file c.args.db c.args.n) (g.D.Device.disk c.args.dev.now)

pub returns-in_err-room-clause-crash : goal.returns-in_err-room-clause-crash
returns-in_err-room-clause-crash g c t = segment_untouched (segment_file c.args.db c.args.n) (g.D.Device.disk c.args.dev.now)

pub returns-in_err-gate-clause-crash : goal.returns-in_err-gate-clause-crash
returns-in_err-gate-clause-crash g c t =
    segment_made (segment_file c.args.db c.args.n) c.deref.result.now (g.D.Device.disk c.args.dev.now) (g.D.Device.disk c.make_gate.new.dev) (c.deref.ensures ∙ c.in_ok-name.ensures) (c.make_gate.ensures.crash t)

pub returns-in_err-reserve-clause-crash : goal.returns-in_err-reserve-clause-crash
returns-in_err-reserve-clause-crash g c t =
    segment_made (segment_file c.args.db c.args.n) c.deref.result.now (g.D.Device.disk c.args.dev.now) (g.D.Device.disk c.make_gate.new.dev) (c.deref.ensures ∙ c.in_ok-name.ensures) (c.make_gate.ensures.crash t)

pub returns-in_err-append_reserved-clause-crash : goal.returns-in_err-append_reserved-clause-crash
returns-in_err-append_reserved-clause-crash g c t =
    let b = g.D.Device.disk c.make_gate.new.dev in
    let named = c.deref.ensures ∙ c.in_ok-name.ensures in
    segment_begun (segment_file c.args.db c.args.n) c.deref.result.now c.reserve.new.self.name (g.D.Device.disk c.args.dev.now) b (g.D.Device.disk c.append_reserved.new.dev) named (ap (λ (k : Kept). k.name) c.reserve.ensures.same ∙ (c.in_ok-gate.ensures.name ∙ named)) (c.make_gate.ensures.crash t)
    (empty_at (segment_file c.args.db c.args.n) b c.in_ok-gate.gate (c.in_ok-gate.ensures.name ∙ named) (c.in_ok-gate.ensures.stands t) c.in_ok-gate.ensures.spans) (c.append_reserved.ensures.crash t)

pub returns-clause-sealed : goal.returns-clause-sealed
returns-clause-sealed g c t =
    let b = g.D.Device.disk c.make_gate.new.dev in
    let named = c.deref.ensures ∙ c.in_ok-name.ensures in
    begun_sealed (segment_file c.args.db c.args.n) c.reserve.new.self.name b (g.D.Device.disk c.append_reserved.new.dev) (ap (λ (k : Kept). k.name) c.reserve.ensures.same ∙ (c.in_ok-gate.ensures.name ∙ named))
    (empty_at (segment_file c.args.db c.args.n) b c.in_ok-gate.gate (c.in_ok-gate.ensures.name ∙ named) (c.in_ok-gate.ensures.stands t) c.in_ok-gate.ensures.spans) (c.in_ok-append_reserved.ensures.sealed t)

pub returns-clause-crash : goal.returns-clause-crash
returns-clause-crash g c t =
    let b = g.D.Device.disk c.make_gate.new.dev in
    let named = c.deref.ensures ∙ c.in_ok-name.ensures in
    segment_begun (segment_file c.args.db c.args.n) c.deref.result.now c.reserve.new.self.name (g.D.Device.disk c.args.dev.now) b (g.D.Device.disk c.append_reserved.new.dev) named (ap (λ (k : Kept). k.name) c.reserve.ensures.same ∙ (c.in_ok-gate.ensures.name ∙ named)) (c.make_gate.ensures.crash t)
    (empty_at (segment_file c.args.db c.args.n) b c.in_ok-gate.gate (c.in_ok-gate.ensures.name ∙ named) (c.in_ok-gate.ensures.stands t) c.in_ok-gate.ensures.spans) (c.append_reserved.ensures.crash t)
