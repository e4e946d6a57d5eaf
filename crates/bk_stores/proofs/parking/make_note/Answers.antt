use Rattle.std.proofs.Common.{◌<◌, ◌+◌, ◌^◌, ◌∙◌, ℕ, [], refl, sym, subst, arith}
use Rattle.bk_device.specs.Compose.{effect_then}
use Rattle.bk_device.specs.Effects.{Effect}
use Rattle.bk_segments.specs.Files.{AreDurable as LogsAreDurable, LogIs, Logged, IsOwn as IsOfLog}
use Rattle.bk_stores.proofs.Answered.{both-ok}
use Rattle.bk_stores.proofs.Parked.{log-own, parked-shut}
use Rattle.bk_stores.proofs.parking.make_note.Goals as goal

pub returns-in_err-log-clause-crash : goal.returns-in_err-log-clause-crash
returns-in_err-log-clause-crash g c t = effect_then (c.remove_parts.ensures.crash t) (log-own c.args.number (c.begin.ensures.crash t))

pub returns-clause-shut : goal.returns-clause-shut
returns-clause-shut g c t durable told parked =
    let disk = g.D.Device.disk in
    let n : ℕ = c.args.number in
    let numbers = c.in_ok-log.ensures.numbers in
    let last : Effect (IsOfLog n) (λ _. Unit {0}) (disk c.begin.new.dev) (disk c.finish.new.dev) =
    subst (λ (m : ℕ). Effect (IsOfLog m) (λ _. Unit {0}) (disk c.begin.new.dev) (disk c.finish.new.dev)) numbers.0 (c.finish.ensures.crash t) in
    let first : LogsAreDurable n (disk c.begin.new.dev) = c.in_ok-log.ensures.durable t (c.in_ok-remove_parts.ensures.durable t durable) in
    let log : Logged = record { kept = c.in_ok-log.log.kept; records = []; note = c.deref.result.now } in
    let from = c.in_ok-bytes.ensures.fits.as_of.from in
    let small : c.in_ok-log.log.kept + 0 < 2 ^ 64 = omega (arith, numbers.1, from) in
    both-ok c.finish.result
    (λ stays holds.
    let after : LogsAreDurable n (disk c.finish.new.dev) = subst (λ (m : ℕ). LogsAreDurable m (disk c.finish.new.dev)) numbers.0 stays in
    let is : LogIs (disk c.finish.new.dev).files n log = subst (λ (m : ℕ). LogIs (disk c.finish.new.dev).files m log) numbers.0 holds in
    parked-shut n c.args.known.now c.args.note.now told log (c.in_ok-remove_parts.ensures.pages t) (effect_then (c.begin.ensures.crash t) last) after is (c.deref.ensures.value ∙ c.in_ok-bytes.ensures.bytes) refl parked)
    (c.finish.ensures.durable t (subst (λ (m : ℕ). LogsAreDurable m (disk c.begin.new.dev)) (sym numbers.0) first))
    (c.finish.ensures.log t [] (c.in_ok-log.ensures.none t) small)

pub returns-clause-crash : goal.returns-clause-crash
returns-clause-crash g c t =
    let disk = g.D.Device.disk in
    let last : Effect (IsOfLog c.args.number) (λ _. Unit {0}) (disk c.begin.new.dev) (disk c.finish.new.dev) =
    subst (λ (n : ℕ). Effect (IsOfLog n) (λ _. Unit {0}) (disk c.begin.new.dev) (disk c.finish.new.dev)) c.in_ok-log.ensures.numbers.0 (c.finish.ensures.crash t) in
    effect_then (c.remove_parts.ensures.crash t) (log-own c.args.number (effect_then (c.begin.ensures.crash t) last))
