use Rattle.std.proofs.Common.{◌≡◌, sym, subst, ap, ◌∙◌, inl, inr, refl, List, ℕ}
use Rattle.bk_device.specs.Compose.{effect_weaken}
use Rattle.bk_gate.specs.Gate.{IsGate, Kept as KeptGate}
use Rattle.bk_gate.specs.Laws.{gate_reserved}
use Rattle.bk_side.specs.Names.{IsOwn, AreApart}
use Rattle.bk_side.specs.Side.{AreDurable}
use Rattle.bk_side.proofs.Finished.{settle_still}
use Rattle.bk_side.proofs.Sides.{own_durable, open_crash, open_shown, settle_crash, settle_shows}
use Rattle.bk_side.proofs.finishing.settle.Goals as goal

pub returns-in_err-sync_own-clause-crash : goal.returns-in_err-sync_own-clause-crash
returns-in_err-sync_own-clause-crash g c t = effect_weaken (λ image here. inl here) (c.sync_own.ensures.crash t)

pub returns-in_err-gate-clause-crash : goal.returns-in_err-gate-clause-crash
returns-in_err-gate-clause-crash g c t = open_crash (c.requires t) (c.sync_own.ensures.crash t) (c.in_ok-sync_own.ensures.same t) (c.in_ok-sync_own.ensures.durable t) (c.open.ensures.crash t (c.in_ok-sync_own.ensures.durable t c.args.name.now (inl refl)))

pub returns-in_err-reserve-clause-crash : goal.returns-in_err-reserve-clause-crash
returns-in_err-reserve-clause-crash g c t = open_crash (c.requires t) (c.sync_own.ensures.crash t) (c.in_ok-sync_own.ensures.same t) (c.in_ok-sync_own.ensures.durable t) (c.open.ensures.crash t (c.in_ok-sync_own.ensures.durable t c.args.name.now (inl refl)))

pub finish-requires-clause-stands : goal.finish-requires-clause-stands
finish-requires-clause-stands g c t =
    let Gate : KeptGate → Type 0 = λ k. IsGate (g.D.Device.disk c.open.new.dev) k in
    subst Gate (sym c.in_ok-reserve.ensures.same) (gate_reserved c.reserve.new.self.spare (c.in_ok-gate.ensures.stands t (c.in_ok-sync_own.ensures.durable t c.args.name.now (inl refl))))

pub finish-requires-clause-apart : goal.finish-requires-clause-apart
finish-requires-clause-apart g c t =
    let named : c.reserve.new.self.name ≡ c.args.name.now = ap (λ (k : KeptGate). k.name) c.in_ok-reserve.ensures.same ∙ c.in_ok-gate.ensures.name in
    let Apart : List ℕ → Type 0 = λ n. AreApart n c.args.names.now in
    subst Apart (sym named) (c.requires t)

pub finish-requires-clause-durable : goal.finish-requires-clause-durable
finish-requires-clause-durable g c t =
    let o = g.D.Device.disk c.open.new.dev in
    let named : c.reserve.new.self.name ≡ c.args.name.now = ap (λ (k : KeptGate). k.name) c.in_ok-reserve.ensures.same ∙ c.in_ok-gate.ensures.name in
    let Durable : List ℕ → Type 0 = λ n. AreDurable (IsOwn n c.args.names.now) o in
    let at = c.in_ok-sync_own.ensures.durable t c.args.name.now (inl refl) in
    subst Durable (sym named) (own_durable (c.requires t) (c.open.ensures.crash t at) (λ name data'. c.in_ok-sync_own.ensures.durable t name (inr data')) (c.in_ok-gate.ensures.durable t at))

pub returns-in_err-finish-clause-crash : goal.returns-in_err-finish-clause-crash
returns-in_err-finish-clause-crash g c t =
    let named : c.reserve.new.self.name ≡ c.args.name.now = ap (λ (k : KeptGate). k.name) c.in_ok-reserve.ensures.same ∙ c.in_ok-gate.ensures.name in
    let at = c.in_ok-sync_own.ensures.durable t c.args.name.now (inl refl) in
    settle_crash c.args.name.now c.reserve.new.self.name named
    (open_crash (c.requires t) (c.sync_own.ensures.crash t) (c.in_ok-sync_own.ensures.same t) (c.in_ok-sync_own.ensures.durable t) (c.open.ensures.crash t at))
    (open_shown (g.D.Device.disk c.args.dev.now) (c.requires t) (c.in_ok-sync_own.ensures.same t) (c.open.ensures.crash t at) (c.in_ok-gate.ensures.same t)) (c.finish.ensures.crash t)

pub returns-clause-same : goal.returns-clause-same
returns-clause-same g c t =
    let named : c.reserve.new.self.name ≡ c.args.name.now = ap (λ (k : KeptGate). k.name) c.in_ok-reserve.ensures.same ∙ c.in_ok-gate.ensures.name in
    let at = c.in_ok-sync_own.ensures.durable t c.args.name.now (inl refl) in
    settle_shows c.args.name.now c.reserve.new.self.name (g.D.Device.disk c.args.dev.now) (g.D.Device.disk c.open.new.dev) (g.D.Device.disk c.finish.new.dev) named (open_shown (g.D.Device.disk c.args.dev.now) (c.requires t) (c.in_ok-sync_own.ensures.same t) (c.open.ensures.crash t at) (c.in_ok-gate.ensures.same t)) (c.in_ok-finish.ensures.same t)

pub returns-clause-crash : goal.returns-clause-crash
returns-clause-crash g c t =
    let named : c.reserve.new.self.name ≡ c.args.name.now = ap (λ (k : KeptGate). k.name) c.in_ok-reserve.ensures.same ∙ c.in_ok-gate.ensures.name in
    let at = c.in_ok-sync_own.ensures.durable t c.args.name.now (inl refl) in
    settle_crash c.args.name.now c.reserve.new.self.name named
    (open_crash (c.requires t) (c.sync_own.ensures.crash t) (c.in_ok-sync_own.ensures.same t) (c.in_ok-sync_own.ensures.durable t) (c.open.ensures.crash t at))
    (open_shown (g.D.Device.disk c.args.dev.now) (c.requires t) (c.in_ok-sync_own.ensures.same t) (c.open.ensures.crash t at) (c.in_ok-gate.ensures.same t)) (c.finish.ensures.crash t)

pub returns-clause-still : goal.returns-clause-still
returns-clause-still g c t none =
    let named : c.reserve.new.self.name ≡ c.args.name.now = ap (λ (k : KeptGate). k.name) c.in_ok-reserve.ensures.same ∙ c.in_ok-gate.ensures.name in
    settle_still c.args.name.now c.reserve.new.self.name named (g.met.D.Device.lawful t c.args.dev.now) (c.in_ok-sync_own.ensures.effect t) (c.open.ensures.still t) (c.in_ok-finish.ensures.still t) none
