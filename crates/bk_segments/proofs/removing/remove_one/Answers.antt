use Rattle.std.proofs.lemmas.Result.{on_ok_weaker}
use Rattle.std.proofs.Common.{◌≡◌, ℕ, List, None, subst}
use Rattle.bk_device.specs.Compose.{effect_weaken}
use Rattle.bk_device.specs.Effects.{Effect, IsName}
use Rattle.bk_segments.proofs.removing.remove_one.Goals as goal

pub returns-clause-gone : goal.returns-clause-gone
returns-clause-gone g c t s there = on_ok_weaker c.remove_durably.result (subst (λ (n : List ℕ). (g.D.Device.disk c.remove_durably.new.dev).files n ≡ None) (c.name_of-name.ensures s there)) (c.remove_durably.ensures.removed t)

pub returns-clause-crash : goal.returns-clause-crash
returns-clause-crash g c t s there =
    let At : List ℕ → Type 0 = λ n. Effect (IsName n) (λ _. Unit {0}) (g.D.Device.disk c.args.dev.now) (g.D.Device.disk c.remove_durably.new.dev) in
    subst At (c.name_of-name.ensures s there) (effect_weaken (λ image here. tt) (c.remove_durably.ensures.crash t))
