use Rattle.std.proofs.Common.{ℕ, List, false, ap, subst, ◌∙◌}
use Rattle.bk_device.specs.Compose.{effect_none, effect_weaken}
use Rattle.bk_device.specs.Effects.{Effect, IsName}
use Rattle.bk_gate.specs.Gate.{Kept}
use Rattle.bk_volume.proofs.Steps.{add_none, medium_flag}
use Rattle.bk_volume.proofs.Sealed.{set_added_at, set_crash_at, medium_grown}
use Rattle.bk_volume.proofs.medium.Medium.seal_set.Goals as goal

pub returns-in_err-around-clause-crash : goal.returns-in_err-around-clause-crash
returns-in_err-around-clause-crash g c t = λ body is. add_none body (c.requires.stands t)

pub returns-in_err-reserve-clause-crash : goal.returns-in_err-reserve-clause-crash
returns-in_err-reserve-clause-crash g c t = λ body is. add_none body (c.requires.stands t)

pub returns-in_err-seal_around-clause-crash : goal.returns-in_err-seal_around-clause-crash
returns-in_err-seal_around-clause-crash g c t = λ body is.
    set_crash_at c.args.self.now.name c.reserve.new.self.name c.args.set.now c.args.header.now c.args.tables.now body c.in_ok-around.around.front.items c.in_ok-around.around.size.items
    (ap (λ (k : Kept). k.name) c.in_ok-reserve.ensures.same ∙ ap (λ (k : Kept). k.name) c.self.view_is)
    is c.in_ok-around.ensures.header c.in_ok-around.ensures.tables c.in_ok-around.ensures.front c.in_ok-around.ensures.size (c.requires.stands t).sets (c.seal_around.ensures.crash t)

pub returns-clause-crash : goal.returns-clause-crash
returns-clause-crash g c t = λ body is.
    set_crash_at c.args.self.now.name c.reserve.new.self.name c.args.set.now c.args.header.now c.args.tables.now body c.in_ok-around.around.front.items c.in_ok-around.around.size.items
    (ap (λ (k : Kept). k.name) c.in_ok-reserve.ensures.same ∙ ap (λ (k : Kept). k.name) c.self.view_is)
    is c.in_ok-around.ensures.header c.in_ok-around.ensures.tables c.in_ok-around.ensures.front c.in_ok-around.ensures.size (c.requires.stands t).sets (c.seal_around.ensures.crash t)

pub returns-clause-sets : goal.returns-clause-sets
returns-clause-sets g c t = λ body is.
    set_added_at c.args.self.now.name c.reserve.new.self.name c.args.set.now c.args.header.now c.args.tables.now body c.in_ok-around.around.front.items c.in_ok-around.around.size.items (g.D.Device.disk c.seal_around.new.dev)
    (ap (λ (k : Kept). k.name) c.in_ok-reserve.ensures.same ∙ ap (λ (k : Kept). k.name) c.self.view_is)
    is c.in_ok-around.ensures.header c.in_ok-around.ensures.tables c.in_ok-around.ensures.front c.in_ok-around.ensures.size (c.requires.stands t).sets (c.in_ok-seal_around.ensures.sealed t)

pub returns-clause-stands : goal.returns-clause-stands
returns-clause-stands g c t =
    medium_flag false (medium_grown c.args.self.now.name _ (g.D.Device.disk c.args.dev.now) (g.D.Device.disk c.seal_around.new.dev) c.reserve.new.self c.seal_around.new.gate
    (ap (λ (k : Kept). k.name) c.in_ok-reserve.ensures.same ∙ ap (λ (k : Kept). k.name) c.self.view_is) c.seal_around.ensures.name (c.requires.stands t).sets (c.in_ok-seal_around.ensures.sealed t) (c.in_ok-seal_around.ensures.stands t))

pub returns-in_err-around-clause-touches : goal.returns-in_err-around-clause-touches
returns-in_err-around-clause-touches g c t = effect_none (g.D.Device.disk c.args.dev.now) (λ image left. tt)

pub returns-in_err-reserve-clause-touches : goal.returns-in_err-reserve-clause-touches
returns-in_err-reserve-clause-touches g c t = effect_none (g.D.Device.disk c.args.dev.now) (λ image left. tt)

pub returns-in_err-seal_around-clause-touches : goal.returns-in_err-seal_around-clause-touches
returns-in_err-seal_around-clause-touches g c t =
    subst (λ (n : List ℕ). Effect (IsName n) (λ image. Unit {0}) (g.D.Device.disk c.args.dev.now) (g.D.Device.disk c.seal_around.new.dev))
    (ap (λ (k : Kept). k.name) c.in_ok-reserve.ensures.same ∙ ap (λ (k : Kept). k.name) c.self.view_is) (effect_weaken (λ image left. tt) (c.seal_around.ensures.crash t))

pub returns-clause-touches : goal.returns-clause-touches
returns-clause-touches g c t =
    subst (λ (n : List ℕ). Effect (IsName n) (λ image. Unit {0}) (g.D.Device.disk c.args.dev.now) (g.D.Device.disk c.seal_around.new.dev))
    (ap (λ (k : Kept). k.name) c.in_ok-reserve.ensures.same ∙ ap (λ (k : Kept). k.name) c.self.view_is) (effect_weaken (λ image left. tt) (c.seal_around.ensures.crash t))
