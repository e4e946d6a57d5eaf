-- The date and the time of day that some milliseconds are.
use Rattle.std.proofs.Common.{◌≡◌, ℕ, zero, suc, ◌+◌, ◌-◌, ◌*◌, ◌/◌, ◌%◌, ◌<◌, ◌≤◌, min, Bool, true, false, ◌&&◌, nat_le, List, inl, inr, refl, sym, ap, subst, ◌∙◌, arith, ℤ, pos, negsuc, ◌≤ℤ◌, unsigned_abs}
use Rattle.std.proofs.lemmas.Bool.{cases_order, le-leb}
use Rattle.std.proofs.lemmas.Bool.Decides.{nat_tests}
use Rattle.jiff_core.specs.Calendar.{IsCivilDate, IsYear, day_count, days_from_civil, days_in_month}
use Rattle.jiff_core.proofs.CalendarLemmas.{day_count-epoch, days_from_civil-day_count, day_count-day, day_count-later_year, day_count-day_of_year, day_count-lt_year, day_count-lt_month}
use Rattle.jiff_core.proofs.SignedLemmas.{signed_arith}
use Rattle.bk_time.specs.declared.print.Moment.{Moment}
use Rattle.bk_time.specs.Texts.{IsMoment, IsTextOf, spelled}
use Rattle.bk_time.specs.Times.{days, is_date, is_clock}
use Rattle.bk_report.specs.Times.{last_within, year_of, month_of, moment_in, moment_on, moment_at, time_text}

by_lt : {P : Type 0} (a b : ℕ) → (a < b → P) → (b ≤ a → P) → P
by_lt a b below above = elim (cases_order a b) [ inl e ↦ above (omega arith) | inr (inl lt) ↦ below lt | inr (inr gt) ↦ above (omega arith) ]

-- the last number whose value isn't above another, where all behind it are
last_within-is : (values : ℕ → ℕ) (value most k : ℕ) → k ≤ most → values k ≤ value → ((j : ℕ) → k < j → j ≤ most → value < values j) → last_within values value most ≡ k
unfolding last_within
last_within-is values value zero k le here behind = omega arith
last_within-is values value (suc most) k le here behind = by_lt k (suc most)
    (λ lt. let next : value < values (suc most) = behind (suc most) lt (omega arith) in
    let no : nat_le (values (suc most)) value ≡ false = grind (arith, nat_tests) in
    rw no (last_within-is values value most k (omega arith) here (λ j after before. behind j after (omega arith))))
    (λ ge. let same : k ≡ suc most = omega arith in
    let yes : nat_le (values (suc most)) value ≡ true = le-leb _ _ (subst (λ n. values n ≤ value) same here) in
    rw yes (sym same))

-- no date from 1970 on is before 1970-01-01
count_start : (y m d : ℕ) → 1970 ≤ y → 1 ≤ d → 4_371_953 ≤ day_count (pos y) m d
count_start y m d late first =
    by_lt 1970 y
    (λ lt. omega (arith, signed_arith, day_count-epoch, day_count-later_year (pos 1970) (pos y) (omega (arith, signed_arith)) (omega (arith, signed_arith)), day_count-day_of_year (pos y) m d first))
    (λ ge. let same : y ≡ 1970 = omega arith in rw same (omega (arith, day_count-epoch, day_count-day_of_year (pos 1970) m d first)))

not_negative : (z : ℤ) → pos 0 ≤ℤ z → z ≡ pos (unsigned_abs z)
not_negative (pos n) h = refl
not_negative (negsuc n) h = absurd (omega (arith, signed_arith))

-- the day number of a date, by the days before it
days_counted : (y m d : ℕ) → 1970 ≤ y → 1 ≤ d → days y m d + 4_371_953 ≡ day_count (pos y) m d
unfolding days
days_counted y m d late first =
    let day = days_from_civil (pos y) m d in
    let counted = days_from_civil-day_count (pos y) m d in
    let exact : day ≡ pos (unsigned_abs day) = not_negative day (omega (arith, signed_arith, counted, count_start y m d late first)) in
    omega (arith, signed_arith, counted, exact)

first_of_year : (y m d : ℕ) → 1970 ≤ y → 1 ≤ d → days y 1 1 ≤ days y m d
first_of_year y m d late first =
    omega (arith, days_counted y 1 1 late (omega arith), days_counted y m d late first, day_count-day_of_year (pos y) m d first)

year_is : (k m d : ℕ) → IsCivilDate (pos (1970 + k)) m d → k ≤ 8029 → year_of (days (1970 + k) m d) ≡ 1970 + k
year_is k m d date within =
    ap (λ n. 1970 + n) (last_within-is (λ j. days (1970 + j) 1 1) (days (1970 + k) m d) 8029 k within (first_of_year (1970 + k) m d (omega arith) date.2.0) behind)
  where
    behind : (j : ℕ) → k < j → j ≤ 8029 → days (1970 + k) m d < days (1970 + j) 1 1
    behind j after before =
        omega (arith, days_counted (1970 + k) m d (omega arith) date.2.0, days_counted (1970 + j) 1 1 (omega arith) (omega arith), day_count-lt_year (pos (1970 + k)) m d (pos (1970 + j)) 1 1 date (omega arith) (omega (arith, signed_arith)))

month_is : (y i d : ℕ) → 1970 ≤ y → IsCivilDate (pos y) (1 + i) d → month_of y (days y (1 + i) d) ≡ 1 + i
month_is y i d late date =
    ap (λ n. 1 + n) (last_within-is (λ j. days y (1 + j) 1) (days y (1 + i) d) 11 i (omega (arith, date.1.1)) here behind)
  where
    here : days y (1 + i) 1 ≤ days y (1 + i) d
    here = omega (arith, days_counted y (1 + i) 1 late (omega arith), days_counted y (1 + i) d late date.2.0, day_count-day (pos y) (1 + i) 1 d (omega arith) date.2.0, date.2.0)

    behind : (j : ℕ) → i < j → j ≤ 11 → days y (1 + i) d < days y (1 + j) 1
    behind j after before =
        omega (arith, days_counted y (1 + i) d late date.2.0, days_counted y (1 + j) 1 late (omega arith), day_count-lt_month (pos y) (1 + i) d (1 + j) 1 date (omega arith) (omega arith))

day_is : (y m d : ℕ) → 1970 ≤ y → 1 ≤ d → days y m d - days y m 1 + 1 ≡ d
day_is y m d late first =
    omega (arith, days_counted y m 1 late (omega arith), days_counted y m d late first, day_count-day (pos y) m 1 d (omega arith) first)

six_true : (a b c d e f : Bool) → (a && b && c && d && e && f) ≡ true → (a ≡ true) × (b ≡ true) × (c ≡ true) × (d ≡ true) × (e ≡ true) × (f ≡ true)
six_true true true true true true true h = (refl, refl, refl, refl, refl, refl)
six_true true true true true true false h = absurd cc
six_true true true true true false f h = absurd cc
six_true true true true false e f h = absurd cc
six_true true true false d e f h = absurd cc
six_true true false c d e f h = absurd cc
six_true false b c d e f h = absurd cc

at_most : (a b : ℕ) → nat_le a b ≡ true → a ≤ b
at_most a b h = grind (arith, nat_tests)

-- the parts of a date, and its year
dated : (y m d : ℕ) → is_date y m d ≡ true → IsCivilDate (pos y) m d × (1970 ≤ y) × (y ≤ 9999)
dated y m d h =
    let p = six_true (nat_le 1970 y) (nat_le y 9999) (nat_le 1 m) (nat_le m 12) (nat_le 1 d) (nat_le d (days_in_month (pos y) m)) h in
    let low : 1970 ≤ y = at_most 1970 y p.0 in
    let high : y ≤ 9999 = at_most y 9999 p.1 in
    let year : IsYear (pos y) = (omega (arith, signed_arith), omega (arith, signed_arith)) in
    ((year, (at_most 1 m p.2, at_most m 12 p.3), (at_most 1 d p.4, at_most d (days_in_month (pos y) m) p.5)), low, high)

civil : (y m d : ℕ) → is_date y m d ≡ true → IsCivilDate (pos y) m d
civil y m d h = (dated y m d h).0

late_year : (y m d : ℕ) → is_date y m d ≡ true → (1970 ≤ y) × (y ≤ 9999)
late_year y m d h = let p = dated y m d h in (p.1, p.2)

year_of_days : (y m d : ℕ) → is_date y m d ≡ true → year_of (days y m d) ≡ y
year_of_days y m d h =
    let range = late_year y m d h in
    let same : 1970 + (y - 1970) ≡ y = omega (arith, range) in
    subst (λ n. IsCivilDate (pos n) m d → year_of (days n m d) ≡ n) same (λ date. year_is (y - 1970) m d date (omega (arith, range))) (civil y m d h)

month_of_days : (y m d : ℕ) → is_date y m d ≡ true → month_of y (days y m d) ≡ m
month_of_days y m d h =
    let date : IsCivilDate (pos y) m d = civil y m d h in
    let same : 1 + (m - 1) ≡ m = omega (arith, date.1.0) in
    subst (λ n. IsCivilDate (pos y) n d → month_of y (days y n d) ≡ n) same (λ at. month_is y (m - 1) d (late_year y m d h).0 at) date

same_moment : (m : Moment) (year month day ms : ℕ) → year ≡ m.year → month ≡ m.month → day - days m.year m.month 1 + 1 ≡ m.day
    → ms / 3_600_000 ≡ m.hour → ms / 60_000 % 60 ≡ m.minute → ms / 1000 % 60 ≡ m.second → ms % 1000 ≡ m.millisecond → moment_in year month day ms ≡ m
same_moment m year month day ms is_year is_month is_day hour minute second millisecond =
    rw (is_year, is_month, is_day, hour, minute, second, millisecond) refl

-- a day's date is that of its number
moment_on-is : (m : Moment) (ms : ℕ) → is_date m.year m.month m.day ≡ true → m.minute < 60 → m.second < 60 → m.millisecond < 1000
    → ms ≡ ((m.hour * 60 + m.minute) * 60 + m.second) * 1000 + m.millisecond → moment_on (days m.year m.month m.day) ms ≡ m
moment_on-is m ms date minutes seconds small e =
    let day = days m.year m.month m.day in
    let year : year_of day ≡ m.year = year_of_days m.year m.month m.day date in
    let month : month_of (year_of day) day ≡ m.month = ap (λ (y : ℕ). month_of y day) year ∙ month_of_days m.year m.month m.day date in
    let of_month = day_is m.year m.month m.day (late_year m.year m.month m.day date).0 (civil m.year m.month m.day date).2.0 in
    same_moment m (year_of day) (month_of (year_of day) day) day ms year month of_month (omega arith) (omega arith) (omega arith) (omega arith)

hour_small : (a b c : ℕ) → is_clock a b c ≡ true → a < 24
hour_small a b c h = grind (arith, nat_tests)

minute_small : (a b c : ℕ) → is_clock a b c ≡ true → b < 60
minute_small a b c h = grind (arith, nat_tests)

second_small : (a b c : ℕ) → is_clock a b c ≡ true → c < 60
second_small a b c h = grind (arith, nat_tests)

-- there is one moment for so many milliseconds
moment_at-is : (ms : ℕ) (m : Moment) → IsMoment ms m → moment_at ms ≡ m
unfolding moment_at
moment_at-is ms m is =
    let number = days m.year m.month m.day in
    let rest = ((m.hour * 60 + m.minute) * 60 + m.second) * 1000 + m.millisecond in
    let hours : m.hour < 24 = hour_small m.hour m.minute m.second is.clock in
    let minutes : m.minute < 60 = minute_small m.hour m.minute m.second is.clock in
    let seconds : m.second < 60 = second_small m.hour m.minute m.second is.clock in
    let day : ms / 86_400_000 ≡ number = omega (arith, is.meaning, is.small) in
    let time : ms % 86_400_000 ≡ rest = omega (arith, is.meaning, is.small) in
    ap (λ (n : ℕ). moment_on n (ms % 86_400_000)) day ∙ ap (λ (t : ℕ). moment_on number t) time ∙ moment_on-is m rest is.date minutes seconds is.small refl

-- so there is one text
pub text-is : (ms n : ℕ) (text : List ℕ) → n ≡ min ms 253402300799999 → IsTextOf n text → text ≡ time_text ms
unfolding time_text
text-is ms n text e is = is.2 ∙ ap spelled (sym (moment_at-is n is.0 is.1)) ∙ ap (λ (k : ℕ). spelled (moment_at k)) e
