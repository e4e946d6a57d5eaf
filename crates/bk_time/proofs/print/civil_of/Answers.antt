use Rattle.std.proofs.Common.{◌≡◌, ◌*◌, arith, pos, ◌*ℤ◌, w64, ap, ◌∙◌}
use Rattle.std.proofs.lemmas.Int.{to_z_pos}
use Rattle.jiff_core.specs.declared.civil.datetime.DateTime.{DateTime}
use Rattle.jiff_core.specs.Date.{IsYmd}
use Rattle.jiff_core.specs.Time.{IsHms}
use Rattle.jiff_core.specs.DateTime.{civil_nanos}
use Rattle.jiff_core.proofs.SignedLemmas.{signed_arith}
use Rattle.jiff_core.proofs.DateTimeLemmas.{civil_nanos-parts}
use Rattle.bk_time.proofs.DayLemmas.{day_of_1970}
use Rattle.bk_time.proofs.print.civil_of.Goals as goal

begins : (at : DateTime) → IsYmd (pos 1970) (pos 1) (pos 1) at.date → IsHms (pos 0) (pos 0) (pos 0) (pos 0) at.time → civil_nanos at ≡ pos 0
begins at date time =
    let hour : at.time.hour ≡ 0 = cc in
    let minute : at.time.minute ≡ 0 = cc in
    let second : at.time.second ≡ 0 = cc in
    let rest : at.time.subsec_nanosecond ≡ 0 = cc in
    omega (arith, signed_arith, civil_nanos-parts at, day_of_1970 at.date date)

pub returns : goal.returns
returns c =
    let zero : civil_nanos c.datetime.result ≡ pos 0 = begins c.datetime.result c.datetime.ensures.date c.datetime.ensures.time in
    let nanos : c.from_millis.result.nanos ≡ pos (c.args.ms * 1_000_000) = c.from_millis.ensures ∙ ap (λ z. z *ℤ pos 1_000_000) (to_z_pos w64 c.args.ms (omega arith)) in
    c.saturating_add.ensures.fits (omega (arith, signed_arith)) ∙ omega (arith, signed_arith)
