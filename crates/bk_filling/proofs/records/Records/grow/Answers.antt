use Rattle.std.proofs.Common.{◌≤◌, ◌+◌, sym, subst}
use Rattle.bk_device.specs.Effects.{Effect}
use Rattle.bk_segments.specs.Files.{AreDurable, IsOwn, segment_file}
use Rattle.bk_filling.specs.contracts.records.Records.{the_view}
use Rattle.bk_filling.specs.Records.{HasRecords, IsBegun, Kept}
use Rattle.bk_filling.proofs.Blobs.{any_effect, durable_more, next_begun, next_records}
use Rattle.bk_filling.proofs.records.Records.grow.Goals as goal

pub returns-in_err-gate-clause-crash : goal.returns-in_err-gate-clause-crash
returns-in_err-gate-clause-crash g c t =
    let W : Kept → Type 0 = λ k. Effect (IsOwn k.db) (λ _. Unit {0}) (g.D.Device.disk c.args.dev.now) (g.D.Device.disk c.begin_segment.new.dev) in
    subst W c.self.view_is (any_effect c.self.inside.db (c.self.inside.back + 1) (g.D.Device.disk c.args.dev.now) (g.D.Device.disk c.begin_segment.new.dev) (c.begin_segment.ensures.crash t))

pub returns-clause-stands : goal.returns-clause-stands
returns-clause-stands g c t =
    let few : c.self.inside.back + 1 ≤ 65536 = subst (λ (k : Kept). k.back + 1 ≤ 65536) (sym c.self.view_is) c.requires.few in
    next_begun (the_view c.self.inside) c.in_ok-gate.gate (g.D.Device.disk c.args.dev.now) (g.D.Device.disk c.begin_segment.new.dev) few (subst (IsBegun (g.D.Device.disk c.args.dev.now)) (sym c.self.view_is) (c.requires.stands t)) c.in_ok-gate.ensures.name
    (c.in_ok-gate.ensures.stands t) (c.in_ok-gate.ensures.durable t) (c.in_ok-gate.ensures.sealed t) (c.begin_segment.ensures.crash t)

pub returns-clause-records : goal.returns-clause-records
returns-clause-records g c t records has =
    let few : c.self.inside.back + 1 ≤ 65536 = subst (λ (k : Kept). k.back + 1 ≤ 65536) (sym c.self.view_is) c.requires.few in
    next_records (the_view c.self.inside) c.in_ok-gate.gate records (g.D.Device.disk c.args.dev.now) (g.D.Device.disk c.begin_segment.new.dev) few (c.in_ok-gate.ensures.sealed t) (c.begin_segment.ensures.crash t)
    (subst (λ (k : Kept). HasRecords (g.D.Device.disk c.args.dev.now).files k records) (sym c.self.view_is) has)

pub returns-clause-crash : goal.returns-clause-crash
returns-clause-crash g c t =
    let W : Kept → Type 0 = λ k. Effect (IsOwn k.db) (λ _. Unit {0}) (g.D.Device.disk c.args.dev.now) (g.D.Device.disk c.begin_segment.new.dev) in
    subst W c.self.view_is (any_effect c.self.inside.db (c.self.inside.back + 1) (g.D.Device.disk c.args.dev.now) (g.D.Device.disk c.begin_segment.new.dev) (c.begin_segment.ensures.crash t))

pub returns-clause-durable : goal.returns-clause-durable
returns-clause-durable g c t =
    let a = g.D.Device.disk c.args.dev.now in
    let b = g.D.Device.disk c.begin_segment.new.dev in
    let W : Kept → Type 0 = λ k. AreDurable k.db a → AreDurable k.db b in
    subst W c.self.view_is (durable_more c.self.inside.db (segment_file c.self.inside.db (c.self.inside.back + 1)) a b (c.begin_segment.ensures.crash t) (c.in_ok-gate.ensures.durable t))
