-- The text of a time is read back.
use Rattle.std.proofs.Common.{◌≡◌, ℕ, ◌+◌, ◌-◌, ◌*◌, ◌/◌, ◌%◌, ◌<◌, ◌≤◌, ◌&&◌, nat_le, pos, Bool, true, false, List, ◌∷◌, ◌++◌, Some, refl, sym, ◌∙◌, arith}
use Rattle.std.proofs.lemmas.Bool.Decides.{nat_tests}
use Rattle.std.specs.Char.{is_ascii_digit}
use Rattle.jiff_core.specs.Calendar.{days_in_month}
use Rattle.jiff_core.proofs.CalendarLemmas.{days_in_month_bounds}
use Rattle.bk_time.specs.declared.print.Moment.{Moment}
use Rattle.bk_time.specs.Texts.{IsMoment, spelled, spelled_date, spelled_clock}
use Rattle.bk_time.specs.Times.{one_digit, two_digits, three_digits, four_digits, two_figures, three_figures, four_figures, byte, date, midnight, clock, thousandths, fraction, since_midnight, behind_date, numeric, time_of, is_date, is_clock, days}

is_figure : (d : ℕ) → d < 10 → is_ascii_digit (48 + d) ≡ true
is_figure d h = grind (arith, nat_tests)

one_back : (d : ℕ) (rest : List ℕ) → d < 10 → one_digit ((48 + d) ∷ rest) ≡ Some (d, rest)
unfolding one_digit
one_back d rest h =
    let same : 48 + d - 48 ≡ d = omega arith in
    rw (is_figure d h, same) refl

two_back : (a b : ℕ) (rest : List ℕ) → a < 10 → b < 10 → two_digits ((48 + a) ∷ (48 + b) ∷ rest) ≡ Some (a * 10 + b, rest)
unfolding two_digits
two_back a b rest h k = rw (one_back a ((48 + b) ∷ rest) h, one_back b rest k) refl

three_back : (a b c : ℕ) (rest : List ℕ) → a < 10 → b < 10 → c < 10 → three_digits ((48 + a) ∷ (48 + b) ∷ (48 + c) ∷ rest) ≡ Some ((a * 10 + b) * 10 + c, rest)
unfolding three_digits
three_back a b c rest h k l = rw (two_back a b ((48 + c) ∷ rest) h k, one_back c rest l) refl

four_back : (a b c d : ℕ) (rest : List ℕ) → a < 10 → b < 10 → c < 10 → d < 10 → four_digits ((48 + a) ∷ (48 + b) ∷ (48 + c) ∷ (48 + d) ∷ rest) ≡ Some (((a * 10 + b) * 10 + c) * 10 + d, rest)
unfolding four_digits
four_back a b c d rest h k l m = rw (three_back a b c ((48 + d) ∷ rest) h k l, one_back d rest m) refl

-- figures are read as their number
pub two_figures_back : (n : ℕ) (rest : List ℕ) → n < 100 → two_digits (two_figures n ++ rest) ≡ Some (n, rest)
two_figures_back n rest h =
    let same : n / 10 * 10 + n % 10 ≡ n = omega arith in
    two_back (n / 10) (n % 10) rest (omega arith) (omega arith) ∙ rw same refl

pub four_figures_back : (n : ℕ) (rest : List ℕ) → n < 10000 → four_digits (four_figures n ++ rest) ≡ Some (n, rest)
four_figures_back n rest h =
    let same : ((n / 1000 * 10 + n / 100 % 10) * 10 + n / 10 % 10) * 10 + n % 10 ≡ n = omega arith in
    four_back (n / 1000) (n / 100 % 10) (n / 10 % 10) (n % 10) rest (omega arith) (omega arith) (omega arith) (omega arith) ∙ rw same refl

pub thousandths_back : (n : ℕ) → n < 1000 → thousandths (three_figures n) ≡ Some n
unfolding thousandths
thousandths_back n h =
    let hundreds : n / 100 < 10 = omega arith in
    let tens : n / 10 % 10 < 10 = omega arith in
    let ones : n % 10 < 10 = omega arith in
    let same : (48 + n / 100 - 48) * 100 + (48 + n / 10 % 10 - 48) * 10 + (48 + n % 10 - 48) ≡ n = omega arith in
    rw (is_figure (n / 100) hundreds, is_figure (n / 10 % 10) tens, is_figure (n % 10) ones, same) refl

pub date_back : (m : Moment) (rest : List ℕ) → is_date m.year m.month m.day ≡ true → m.year < 10000 → m.month < 100 → m.day < 100 → date (spelled_date m ++ rest) ≡ Some (days m.year m.month m.day * 86_400_000, rest)
unfolding date spelled_date byte midnight
date_back m rest h year month day =
    rw (four_figures_back m.year _ year, two_figures_back m.month _ month, two_figures_back m.day rest day, h) refl

pub clock_back : (m : Moment) → is_clock m.hour m.minute m.second ≡ true → m.hour < 100 → m.minute < 100 → m.second < 100 → m.millisecond < 1000 → clock (spelled_clock m) ≡ Some (((m.hour * 60 + m.minute) * 60 + m.second) * 1000 + m.millisecond)
unfolding clock spelled_clock byte fraction since_midnight
clock_back m h hour minute second small =
    rw (two_figures_back m.hour _ hour, two_figures_back m.minute _ minute, two_figures_back m.second _ second, thousandths_back m.millisecond small, h) refl

year_small : (y m d : ℕ) → is_date y m d ≡ true → y < 10000
year_small y m d h = grind (arith, nat_tests)

month_small : (y m d : ℕ) → is_date y m d ≡ true → m < 100
month_small y m d h = grind (arith, nat_tests)

last_true : (a b : Bool) → (a && b) ≡ true → b ≡ true
last_true true b h = h
last_true false b h = cc

le_100 : (d most : ℕ) → nat_le d most ≡ true → most ≤ 31 → d < 100
le_100 d most h k = grind (arith, nat_tests)

day_small : (y m d : ℕ) → is_date y m d ≡ true → d < 100
day_small y m d h = le_100 d (days_in_month (pos y) m) (last_true _ (nat_le d (days_in_month (pos y) m)) h) (days_in_month_bounds (pos y) m).0

hour_small : (a b c : ℕ) → is_clock a b c ≡ true → a < 100
hour_small a b c h = grind (arith, nat_tests)

minute_small : (a b c : ℕ) → is_clock a b c ≡ true → b < 100
minute_small a b c h = grind (arith, nat_tests)

second_small : (a b c : ℕ) → is_clock a b c ≡ true → c < 100
second_small a b c h = grind (arith, nat_tests)

-- the text of a moment means its milliseconds
pub spelled_back : (m : Moment) (ms : ℕ) → IsMoment ms m → time_of (spelled m) ≡ Some ms
unfolding time_of numeric spelled behind_date
spelled_back m ms h =
    let front = date_back m (32 ∷ spelled_clock m) h.date (year_small m.year m.month m.day h.date) (month_small m.year m.month m.day h.date) (day_small m.year m.month m.day h.date) in
    let back = clock_back m h.clock (hour_small m.hour m.minute m.second h.clock) (minute_small m.hour m.minute m.second h.clock) (second_small m.hour m.minute m.second h.clock) h.small in
    rw (front, back, sym h.meaning) refl
