use Rattle.std.proofs.Common.{sym, subst}
use Rattle.std.proofs.lemmas.Result.{err_from_is_err_and}
use Rattle.bk_lemmas.specs.Tests.{same_error}
use Rattle.bk_paged.specs.Paged.{Touches}
use Rattle.bk_store.specs.Store.{IsStore, Kept}
use Rattle.bk_store.specs.Told.{stood_of}
use Rattle.bk_reopening.specs.QuietLaws.{records-quiet}
use Rattle.bk_reopening.specs.Reopening.{settled}
use Rattle.bk_reopening.specs.declared.error.OpenError.TheVariants.{Foreign}
use Rattle.bk_reopening.proofs.Causes.{as_error, foreign-paged, same_cause}
use Rattle.bk_reopening.proofs.Opened.{settled-now, store-is}
use Rattle.bk_reopening.proofs.Settled.{Laws, crash-settled, stands-settled}
use Rattle.bk_reopening.proofs.loading.load.Goals as goal

pub returns-in_err-opened-clause-foreign : goal.returns-in_err-opened-clause-foreign
returns-in_err-opened-clause-foreign g c t is told closed =
    let p = err_from_is_err_and c.from_residual.result c.from_residual.ensures.1 in
    let h = closed.holds in
    c.in_err-opened.ensures.foreign t (as_error (foreign-paged c.in_err-opened.field-0.0 p.0 p.2 (same_cause p.0 Foreign p.1 is))) (stood_of h.known told) closed.durable h.holds

pub returns-in_err-opened-clause-crash : goal.returns-in_err-opened-clause-crash
returns-in_err-opened-clause-crash g c t told closed =
    let laws : Laws = record { keeps = c.placed_logs.ensures.keeps; lie = c.placed_logs.ensures.lie; more = c.placed_logs.ensures.more } in
    let h = closed.holds in
    crash-settled c.settling_law.ensures.machine laws c.args.db h.known told (g.D.Device.disk c.args.dev.now) (g.D.Device.disk c.load.new.dev) h.noted h.log (c.load.ensures.crash t (stood_of h.known told) closed.durable h.holds)

pub returns-in_err-noted-clause-foreign : goal.returns-in_err-noted-clause-foreign
returns-in_err-noted-clause-foreign g c =
    let e = err_from_is_err_and c.from_residual-in_err-noted.result c.from_residual-in_err-noted.ensures.1 in
    let laws : Laws = record { keeps = c.placed_logs.ensures.keeps; lie = c.placed_logs.ensures.lie; more = c.placed_logs.ensures.more } in
    let o = c.in_ok-opened in
    rw (e.1, e.2) (λ t is told closed.
    let h = closed.holds in
    let now = settled-now c.settling_law.ensures.machine c.cells_law.ensures laws told h.known (g.D.Device.disk c.load.new.dev) o.opened.paged o.opened.records h.noted h.log (o.ensures.stands t (stood_of h.known told) closed.durable h.holds)
    (o.ensures.records t (stood_of h.known told) closed.durable h.holds) o.ensures.sealed o.ensures.whole in
    c.in_err-noted.ensures.foreign (same_error c.in_err-noted.field-0.0 Foreign is) h.known (settled told) now)

pub returns-in_err-noted-clause-crash : goal.returns-in_err-noted-clause-crash
returns-in_err-noted-clause-crash g c t told closed =
    let laws : Laws = record { keeps = c.placed_logs.ensures.keeps; lie = c.placed_logs.ensures.lie; more = c.placed_logs.ensures.more } in
    let h = closed.holds in
    crash-settled c.settling_law.ensures.machine laws c.args.db h.known told (g.D.Device.disk c.args.dev.now) (g.D.Device.disk c.load.new.dev) h.noted h.log (c.load.ensures.crash t (stood_of h.known told) closed.durable h.holds)

pub returns-clause-crash : goal.returns-clause-crash
returns-clause-crash g c t told closed =
    let laws : Laws = record { keeps = c.placed_logs.ensures.keeps; lie = c.placed_logs.ensures.lie; more = c.placed_logs.ensures.more } in
    let h = closed.holds in
    crash-settled c.settling_law.ensures.machine laws c.args.db h.known told (g.D.Device.disk c.args.dev.now) (g.D.Device.disk c.load.new.dev) h.noted h.log (c.load.ensures.crash t (stood_of h.known told) closed.durable h.holds)

-- what was read of the note is what was told, and all else stands under that
pub returns-clause-stands : goal.returns-clause-stands
returns-clause-stands g c t told closed =
    let laws : Laws = record { keeps = c.placed_logs.ensures.keeps; lie = c.placed_logs.ensures.lie; more = c.placed_logs.ensures.more } in
    let d = g.D.Device.disk c.load.new.dev in
    let o = c.in_ok-opened in
    let h = closed.holds in
    let is = o.ensures.stands t (stood_of h.known told) closed.durable h.holds in
    let now = settled-now c.settling_law.ensures.machine c.cells_law.ensures laws told h.known d o.opened.paged o.opened.records h.noted h.log is
    (o.ensures.records t (stood_of h.known told) closed.durable h.holds) o.ensures.sealed o.ensures.whole in
    let here = store-is d o.opened.paged o.opened.records c.in_ok-noted.shown h.known (settled told) c.in_ok-noted.noted c.in_ok-noted.ensures.tells now (stands-settled c.settling_law.ensures.machine h.known told o.opened.paged d h.log is)
    (c.in_ok-noted.ensures.shows h.known (settled told) now) c.in_ok-noted.ensures.early in
    subst (λ (s : Kept). IsStore d s (settled told)) (sym c.from_parts.ensures) here

pub returns-clause-touches : goal.returns-clause-touches
returns-clause-touches g c t = subst (λ (s : Kept). Touches s.paged (g.D.Device.disk c.args.dev.now) (g.D.Device.disk c.load.new.dev)) (sym c.from_parts.ensures) (c.in_ok-opened.ensures.touches t)

-- nothing is pending in what was told, so in no log that the files hold
pub returns-clause-rests : goal.returns-clause-rests
returns-clause-rests g c t told closed quiet finished = c.in_ok-opened.ensures.still t (records-quiet c.settling_law.ensures.machine c.settling_law.ensures.enough c.args.db told (g.D.Device.disk c.args.dev.now).files closed.holds quiet finished)
