use Rattle.std.proofs.Common.{◌≡◌, ◌≤◌, ◌<◌, ◌⊎◌, ◌+◌, ℕ, None, subst, ◌∙◌}
use Rattle.std.proofs.lemmas.Result.{err_from_is_err_and}
use Rattle.bk_device.specs.Calls.{ChangesNothing}
use Rattle.bk_device.specs.Compose.{effect_of_nothing}
use Rattle.bk_device.specs.Effects.{Effect}
use Rattle.bk_segments.specs.declared.error.LogError.TheVariants.{Foreign}
use Rattle.bk_lemmas.specs.Tests.{same_error}
use Rattle.bk_log.specs.Log.{Kept}
use Rattle.bk_segments.specs.Files.{HasNoRest, IsBeside, control_file, segment_file}
use Rattle.bk_segments.specs.FileLaws.{control_not_segment, durable_settles}
use Rattle.bk_log.proofs.Cuts.{load_still, load_then, load_stands, load_tidy, load_touches}
use Rattle.bk_log.proofs.Makes.{load_nothing}
use Rattle.bk_log.proofs.log.Log.load.Goals as goal

pub returns-in_err-log-clause-foreign : goal.returns-in_err-log-clause-foreign
returns-in_err-log-clause-foreign g c t =
    let p = err_from_is_err_and c.from_residual.result c.from_residual.ensures.1 in
    rw (p.1, p.2) (λ is. c.in_err-log.ensures.foreign t (same_error c.in_err-log.field-0.0 Foreign is))

pub returns-in_err-log-clause-crash : goal.returns-in_err-log-clause-crash
returns-in_err-log-clause-crash g c t durable = load_nothing c.args.db (g.D.Device.disk c.args.dev.now) (g.D.Device.disk c.open.new.dev) durable (c.open.ensures.effect t)

pub returns-in_err-tidy-clause-crash : goal.returns-in_err-tidy-clause-crash
returns-in_err-tidy-clause-crash g c t durable =
    load_then c.args.db c.in_ok-log.log (g.D.Device.disk c.args.dev.now) (g.D.Device.disk c.open.new.dev) (g.D.Device.disk c.tidy.new.dev) c.in_ok-log.ensures.db (c.in_ok-log.ensures.stands t (durable_settles c.args.db (g.D.Device.disk c.args.dev.now) durable)) (c.in_ok-log.ensures.loaded t) durable (c.open.ensures.effect t) (subst (λ (k : Kept). Effect (IsBeside c.args.db k.head) (λ _. Unit {0}) (g.D.Device.disk c.open.new.dev) (g.D.Device.disk c.tidy.new.dev)) c.log.view_is (c.tidy.ensures.crash t))

pub returns-clause-value : goal.returns-clause-value
returns-clause-value g c t settled =
    (load_stands c.args.db c.in_ok-log.log (g.D.Device.disk c.args.dev.now) (g.D.Device.disk c.open.new.dev) (g.D.Device.disk c.tidy.new.dev) c.in_ok-log.ensures.db (c.in_ok-log.ensures.stands t settled) (c.open.ensures.effect t) (subst (λ (k : Kept). Effect (IsBeside c.args.db k.head) (λ _. Unit {0}) (g.D.Device.disk c.open.new.dev) (g.D.Device.disk c.tidy.new.dev)) c.log.view_is (c.tidy.ensures.crash t))).1

pub returns-clause-stands : goal.returns-clause-stands
returns-clause-stands g c t settled =
    (load_stands c.args.db c.in_ok-log.log (g.D.Device.disk c.args.dev.now) (g.D.Device.disk c.open.new.dev) (g.D.Device.disk c.tidy.new.dev) c.in_ok-log.ensures.db (c.in_ok-log.ensures.stands t settled) (c.open.ensures.effect t) (subst (λ (k : Kept). Effect (IsBeside c.args.db k.head) (λ _. Unit {0}) (g.D.Device.disk c.open.new.dev) (g.D.Device.disk c.tidy.new.dev)) c.log.view_is (c.tidy.ensures.crash t))).0

pub returns-clause-tidy : goal.returns-clause-tidy
returns-clause-tidy g c t settled = load_tidy c.args.db c.in_ok-log.log.head (g.D.Device.disk c.args.dev.now).files (g.D.Device.disk c.tidy.new.dev).files (c.in_ok-log.ensures.holds t) (subst (λ (k : Kept). (n : ℕ) → k.head.gone ≤ n → n ≤ k.head.back + 1 → (n < k.head.front) ⊎ (k.head.back < n) → (g.D.Device.disk c.tidy.new.dev).files (segment_file c.args.db n) ≡ None) c.log.view_is (c.in_ok-tidy.ensures.gone t))

pub returns-clause-crash : goal.returns-clause-crash
returns-clause-crash g c t durable =
    load_then c.args.db c.in_ok-log.log (g.D.Device.disk c.args.dev.now) (g.D.Device.disk c.open.new.dev) (g.D.Device.disk c.tidy.new.dev) c.in_ok-log.ensures.db (c.in_ok-log.ensures.stands t (durable_settles c.args.db (g.D.Device.disk c.args.dev.now) durable)) (c.in_ok-log.ensures.loaded t) durable (c.open.ensures.effect t) (subst (λ (k : Kept). Effect (IsBeside c.args.db k.head) (λ _. Unit {0}) (g.D.Device.disk c.open.new.dev) (g.D.Device.disk c.tidy.new.dev)) c.log.view_is (c.tidy.ensures.crash t))

pub returns-clause-control : goal.returns-clause-control
returns-clause-control g c t = (c.tidy.ensures.crash t).others (control_file c.args.db) (λ at. control_not_segment c.args.db at.0 at.3) ∙ (c.open.ensures.effect t).files (control_file c.args.db)

pub returns-in_err-log-clause-touches : goal.returns-in_err-log-clause-touches
returns-in_err-log-clause-touches g c t = effect_of_nothing (λ image mine. tt) (c.open.ensures.effect t)

pub returns-in_err-tidy-clause-touches : goal.returns-in_err-tidy-clause-touches
returns-in_err-tidy-clause-touches g c t =
    load_touches c.args.db c.in_ok-log.log.head (g.D.Device.disk c.args.dev.now) (g.D.Device.disk c.open.new.dev) (g.D.Device.disk c.tidy.new.dev) (c.open.ensures.effect t)
    (subst (λ (k : Kept). Effect (IsBeside c.args.db k.head) (λ _. Unit {0}) (g.D.Device.disk c.open.new.dev) (g.D.Device.disk c.tidy.new.dev)) c.log.view_is (c.tidy.ensures.crash t))

pub returns-clause-touches : goal.returns-clause-touches
returns-clause-touches g c t =
    load_touches c.args.db c.in_ok-log.log.head (g.D.Device.disk c.args.dev.now) (g.D.Device.disk c.open.new.dev) (g.D.Device.disk c.tidy.new.dev) (c.open.ensures.effect t)
    (subst (λ (k : Kept). Effect (IsBeside c.args.db k.head) (λ _. Unit {0}) (g.D.Device.disk c.open.new.dev) (g.D.Device.disk c.tidy.new.dev)) c.log.view_is (c.tidy.ensures.crash t))

pub returns-in_err-tidy-clause-rests : goal.returns-in_err-tidy-clause-rests
returns-in_err-tidy-clause-rests g c t none =
    let b = g.D.Device.disk c.open.new.dev in
    let d = g.D.Device.disk c.tidy.new.dev in
    load_still c.args.db c.in_ok-log.log.head (g.met.D.Device.lawful t c.args.dev.now) none (c.in_ok-log.ensures.holds t) (c.open.ensures.effect t) (subst (λ (k : Kept). HasNoRest b.files c.args.db k.head → ChangesNothing b d) c.log.view_is (c.tidy.ensures.still t))

pub returns-clause-rests : goal.returns-clause-rests
returns-clause-rests g c t none =
    let b = g.D.Device.disk c.open.new.dev in
    let d = g.D.Device.disk c.tidy.new.dev in
    load_still c.args.db c.in_ok-log.log.head (g.met.D.Device.lawful t c.args.dev.now) none (c.in_ok-log.ensures.holds t) (c.open.ensures.effect t) (subst (λ (k : Kept). HasNoRest b.files c.args.db k.head → ChangesNothing b d) c.log.view_is (c.tidy.ensures.still t))
