use Rattle.std.proofs.lemmas.Result.{on_ok_weaker}
use Rattle.std.proofs.Common.{ℕ, ◌∙◌, subst}
use Rattle.std.specs.Prelude.{OnOk}
use Rattle.bk_device.specs.Compose.{effect_then}
use Rattle.bk_device.specs.Effects.{Effect}
use Rattle.bk_segments.specs.Files.{AreDurable, IsOwn}
use Rattle.bk_filling.proofs.records.Records.push.Goals as goal

pub returns-clause-crash : goal.returns-clause-crash
returns-clause-crash g c t =
    let At : ℕ → Type 0 = λ db. Effect (IsOwn db) (λ _. Unit {0}) (g.D.Device.disk c.make_room.new.dev) (g.D.Device.disk c.add.new.dev) in
    effect_then (c.make_room.ensures.crash t) (subst At c.in_ok-make_room.ensures.same.0 (c.add.ensures.crash t))

pub returns-clause-durable : goal.returns-clause-durable
returns-clause-durable g c t are =
    let a = g.D.Device.disk c.make_room.new.dev in
    let b = g.D.Device.disk c.add.new.dev in
    let At : ℕ → Type 0 = λ db. AreDurable db a → OnOk c.add.result (AreDurable db b) in
    subst At c.in_ok-make_room.ensures.same.0 (c.add.ensures.durable t) (c.in_ok-make_room.ensures.durable t are)

pub returns-clause-same : goal.returns-clause-same
returns-clause-same g c = on_ok_weaker c.add.result (λ same. (same.0 ∙ c.in_ok-make_room.ensures.same.0, same.1 ∙ c.in_ok-make_room.ensures.same.1)) c.add.ensures.same
