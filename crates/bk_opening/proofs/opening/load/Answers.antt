use Rattle.std.proofs.Common.{◌≡◌, ℕ, None, arith, sym, ap, subst}
use Rattle.std.proofs.lemmas.Result.{err_from_is_err_and}
use Rattle.bk_device.specs.Compose.{effect_then}
use Rattle.bk_device.specs.Laws.{effect_after_nothing, nothing_then}
use Rattle.bk_lemmas.specs.Tests.{same_error}
use Rattle.bk_paged.specs.declared.error.PagedError.TheVariants.{Foreign}
use Rattle.bk_paged.specs.Holds.{recovered}
use Rattle.bk_paged.specs.Laws.{crash_as}
use Rattle.bk_paged.specs.Paged.{Kept, sealed_count}
use Rattle.bk_paged.specs.StandLaws.{nothing-touches, touches-as}
use Rattle.bk_opening.specs.Opening.{AreIn}
use Rattle.bk_opening.specs.QuietLaws.{quiet_same}
use Rattle.bk_opening.specs.TouchLaws.{log-touched, nothing-touched, own-touched}
use Rattle.bk_paths.specs.Paths.{kept_from}
use Rattle.bk_record.specs.Log.{IsLog}
use Rattle.bk_opening.proofs.Causes.{as_error, foreign_log, same_cause}
use Rattle.bk_opening.proofs.Loading.{settle_crash, still_durable, still_holds}
use Rattle.bk_opening.proofs.opening.load.Goals as goal

pub returns-in_err-settle-clause-foreign : goal.returns-in_err-settle-clause-foreign
returns-in_err-settle-clause-foreign g c t is stood durable holds =
    let p = err_from_is_err_and c.from_residual.result c.from_residual.ensures.1 in
    c.in_err-settle.ensures.foreign (as_error (foreign_log c.in_err-settle.field-0.0 p.0 p.2 (same_cause p.0 Foreign p.1 is)))

pub returns-in_err-settle-clause-crash : goal.returns-in_err-settle-clause-crash
returns-in_err-settle-clause-crash g c t stood durable holds = settle_crash c.args.db stood (g.D.Device.disk c.args.dev.now) (g.D.Device.disk c.settle.new.dev) durable holds (c.settle.ensures.crash t)

pub returns-in_err-opened-clause-foreign : goal.returns-in_err-opened-clause-foreign
returns-in_err-opened-clause-foreign g c t =
    let call = c.in_ok-settle.ensures.effect t in
    let p = err_from_is_err_and c.from_residual-in_err-opened.result c.from_residual-in_err-opened.ensures.1 in
    rw (p.1, p.2) (λ is stood durable holds. c.in_err-opened.ensures.foreign t (same_error c.in_err-opened.field-0.0 Foreign is) stood (still_durable c.args.db stood.files call durable) (still_holds c.args.db stood call holds))

pub returns-in_err-opened-clause-crash : goal.returns-in_err-opened-clause-crash
returns-in_err-opened-clause-crash g c t stood durable holds =
    let call = c.in_ok-settle.ensures.effect t in
    effect_after_nothing (g.met.D.Device.lawful t c.args.dev.now) call (c.open.ensures.crash t stood (still_durable c.args.db stood.files call durable) (still_holds c.args.db stood call holds))

pub returns-in_err-flush-clause-crash : goal.returns-in_err-flush-clause-crash
returns-in_err-flush-clause-crash g c t stood durable holds =
    let b = g.D.Device.disk c.open.new.dev in
    let d = g.D.Device.disk c.flush.new.dev in
    let call = c.in_ok-settle.ensures.effect t in
    let mine = still_durable c.args.db stood.files call durable in
    let there = still_holds c.args.db stood call holds in
    let p = c.in_ok-opened.opened.paged in
    let is = c.in_ok-opened.ensures.stands t stood mine there in
    effect_after_nothing (g.met.D.Device.lawful t c.args.dev.now) call
    (effect_then (c.open.ensures.crash t stood mine there)
    (crash_as c.args.db p.log.db _ (sealed_count p) (recovered stood) b d c.in_ok-opened.ensures.db (omega (arith, is.1)) (c.flush.ensures.crash t (recovered stood) is.0)))

pub returns-clause-crash : goal.returns-clause-crash
returns-clause-crash g c t stood durable holds =
    let b = g.D.Device.disk c.open.new.dev in
    let d = g.D.Device.disk c.flush.new.dev in
    let call = c.in_ok-settle.ensures.effect t in
    let mine = still_durable c.args.db stood.files call durable in
    let there = still_holds c.args.db stood call holds in
    let p = c.in_ok-opened.opened.paged in
    let is = c.in_ok-opened.ensures.stands t stood mine there in
    effect_after_nothing (g.met.D.Device.lawful t c.args.dev.now) call
    (effect_then (c.open.ensures.crash t stood mine there)
    (crash_as c.args.db p.log.db _ (sealed_count p) (recovered stood) b d c.in_ok-opened.ensures.db (omega (arith, is.1)) (c.flush.ensures.crash t (recovered stood) is.0)))

pub returns-clause-stands : goal.returns-clause-stands
returns-clause-stands g c t stood durable holds =
    let call = c.in_ok-settle.ensures.effect t in
    c.in_ok-flush.ensures.stands t (recovered stood) (c.in_ok-opened.ensures.stands t stood (still_durable c.args.db stood.files call durable) (still_holds c.args.db stood call holds)).0

pub returns-clause-whole : goal.returns-clause-whole
returns-clause-whole g c = subst (λ (k : Kept). AreIn k.facts.files k.pool) (sym c.in_ok-flush.ensures.same) c.in_ok-opened.ensures.whole

pub returns-clause-records : goal.returns-clause-records
returns-clause-records g c t stood durable holds =
    let call = c.in_ok-settle.ensures.effect t in
    let Of : ℕ → Type 0 = λ n. IsLog c.in_ok-opened.opened.records (kept_from n (recovered stood).records) None in
    subst Of (sym c.in_ok-flush.ensures.kept) (c.in_ok-opened.ensures.records t stood (still_durable c.args.db stood.files call durable) (still_holds c.args.db stood call holds))

pub returns-clause-touches : goal.returns-clause-touches
returns-clause-touches g c t =
    let p = c.in_ok-opened.opened.paged in
    let files : p.facts.files ≡ c.flush.new.self.facts.files = sym (ap (λ (k : Kept). k.facts.files) c.in_ok-flush.ensures.same) in
    touches-as c.flush.new.self p (sym c.in_ok-flush.ensures.sealed.0) files
    (effect_then (nothing-touches p (c.in_ok-settle.ensures.effect t)) (effect_then (c.in_ok-opened.ensures.touches t) (c.flush.ensures.touches t)))

pub returns-clause-still : goal.returns-clause-still
returns-clause-still g c t quiet =
    let lawful = g.met.D.Device.lawful t c.args.dev.now in
    let call = c.in_ok-settle.ensures.effect t in
    let here = quiet_same c.args.db call.files quiet in
    nothing_then lawful (nothing_then lawful call (c.in_ok-opened.ensures.still t here)) (c.flush.ensures.still t (c.in_ok-opened.ensures.none t here))

pub returns-in_err-settle-clause-mine : goal.returns-in_err-settle-clause-mine
returns-in_err-settle-clause-mine g c t = log-touched c.args.db (c.settle.ensures.crash t)

pub returns-in_err-opened-clause-mine : goal.returns-in_err-opened-clause-mine
returns-in_err-opened-clause-mine g c t = effect_then (nothing-touched c.args.db (c.in_ok-settle.ensures.effect t)) (c.open.ensures.mine t)

pub returns-in_err-flush-clause-mine : goal.returns-in_err-flush-clause-mine
returns-in_err-flush-clause-mine g c t =
    effect_then (effect_then (nothing-touched c.args.db (c.in_ok-settle.ensures.effect t)) (c.open.ensures.mine t)) (own-touched c.args.db c.in_ok-opened.opened.paged c.in_ok-opened.ensures.db (c.flush.ensures.touches t))

pub returns-clause-mine : goal.returns-clause-mine
returns-clause-mine g c t =
    effect_then (effect_then (nothing-touched c.args.db (c.in_ok-settle.ensures.effect t)) (c.open.ensures.mine t)) (own-touched c.args.db c.in_ok-opened.opened.paged c.in_ok-opened.ensures.db (c.flush.ensures.touches t))
