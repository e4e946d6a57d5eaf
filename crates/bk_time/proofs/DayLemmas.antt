-- Days from 1970 on.
use Rattle.std.proofs.Common.{◌≡◌, ℕ, negsuc, ◌*◌, ◌≤◌, arith, ◌/◌, ℤ, pos, ◌-ℤ◌, ◌*ℤ◌, ◌≤ℤ◌, unsigned_abs, int_div, ap, ◌∙◌, refl, lit≤}
use Rattle.std.proofs.lemmas.Int.{by_lt_z}
use Rattle.jiff_core.specs.declared.civil.date.Date.{Date}
use Rattle.jiff_core.specs.Calendar.{day_count}
use Rattle.jiff_core.specs.Date.{epoch_day, IsYmd}
use Rattle.jiff_core.proofs.DateLemmas.{epoch_day_range}
use Rattle.jiff_core.proofs.SignedLemmas.{signed_arith}
use Rattle.jiff_core.proofs.CalendarLemmas.{day_count-epoch, days_from_civil-day_count, day_count-later_year, day_count-day_of_year, day_count-lt_year}

-- no year from 1970 on begins before 1970
pub year_start : (y : ℤ) → pos 1970 ≤ℤ y → 4_371_953 ≤ day_count y 1 1
year_start y h =
    by_lt_z (pos 1970) y (λ lt. omega (arith, day_count-epoch, day_count-later_year (pos 1970) y (omega (arith, signed_arith)) lt))
    (λ ge. let same : y ≡ pos 1970 = omega (arith, signed_arith) in rw same (omega (arith, day_count-epoch)))

pub not_negative : (z : ℤ) → pos 0 ≤ℤ z → z ≡ pos (unsigned_abs z)
not_negative (pos n) h = refl
not_negative (negsuc n) h = absurd (omega (arith, signed_arith))

-- the day number of a date from 1970 on isn't negative
pub day_from_1970 : (d : Date) → pos 1970 ≤ℤ d.year → epoch_day d ≡ pos (unsigned_abs (epoch_day d))
day_from_1970 d h =
    let date : 1 ≤ d.day = d.day_in.0 in
    not_negative (epoch_day d) (omega (arith, signed_arith, days_from_civil-day_count, year_start d.year h, day_count-day_of_year d.year d.month d.day date))

-- 1970-01-01 has day number 0
pub day_of_1970 : (d : Date) → IsYmd (pos 1970) (pos 1) (pos 1) d → epoch_day d ≡ pos 0
day_of_1970 d h =
    let month : d.month ≡ 1 = cc in
    let day : d.day ≡ 1 = cc in
    rw (h.0, month, day) (omega (arith, signed_arith, days_from_civil-day_count, day_count-epoch))

-- the milliseconds from 1970-01-01 to a date, from the nanoseconds
pub millis_from_1970 : (d first : Date) (nanos millis : ℤ) → pos 1970 ≤ℤ d.year → IsYmd (pos 1970) (pos 1) (pos 1) first → nanos ≡ (epoch_day d -ℤ epoch_day first) *ℤ pos 86_400_000_000_000 → millis ≡ int_div nanos (pos 1_000_000) → millis ≡ pos (unsigned_abs (epoch_day d) * 86_400_000)
millis_from_1970 d first nanos millis h begins long e =
    let zero : epoch_day first ≡ pos 0 = day_of_1970 first begins in
    let days : epoch_day d ≡ pos (unsigned_abs (epoch_day d)) = day_from_1970 d h in
    let whole : nanos ≡ pos (unsigned_abs (epoch_day d) * 86_400_000_000_000) = omega (arith, signed_arith, zero, days, long) in
    e ∙ ap (λ n. int_div n (pos 1_000_000)) whole ∙ ap pos (exact (unsigned_abs (epoch_day d)))
  where
    exact : (n : ℕ) → n * 86_400_000_000_000 / 1_000_000 ≡ n * 86_400_000
    exact n = omega arith

-- the last date's is the greatest
pub last_day_from_1970 : (d : Date) → pos 1970 ≤ℤ d.year → unsigned_abs (epoch_day d) ≤ 2_932_896
last_day_from_1970 d h = omega (arith, signed_arith, day_from_1970 d h, epoch_day_range d)

-- a date with a day number that isn't negative lies in 1970 or later
pub from_1970 : (d : Date) → pos 0 ≤ℤ epoch_day d → pos 1970 ≤ℤ d.year
from_1970 d h =
    by_lt_z d.year (pos 1970)
    (λ early. absurd (omega (arith, signed_arith, days_from_civil-day_count, day_count-epoch, day_count-lt_year d.year d.month d.day (pos 1970) 1 1 (d.year_in, d.month_in, d.day_in) (lit≤ tt) early)))
    (λ late. late)
