-- The texts of times, as a grammar over bytes, and the milliseconds from 1970-01-01 00:00:00 that they mean.
use Rattle.std.specs.Prelude.{ℕ, ◌+◌, ◌-◌, ◌*◌, ◌/◌, ◌%◌, Bool, ◌&&◌, ◌||◌, ◌==◌, nat_lt, nat_le, if◌then◌else◌, List, [], ◌∷◌, codes, Option, Some, None, pos, unsigned_abs}
use Rattle.std.specs.Char.{is_ascii_digit}
use Rattle.std.specs.Str.{str_eq_ignore_ascii_case}
use Rattle.jiff_core.specs.Calendar.{days_in_month, days_from_civil}

infixl 10 ◌>>=◌
-- the first thing, and then the next, which may look at it
abbrev pub ◌>>=◌ : {A B : Type 0} → Option A → (A → Option B) → Option B
None >>= next = None
(Some x) >>= next = next x

-- this byte
unfoldable pub byte : ℕ → List ℕ → Option (List ℕ)
byte b [] = None
byte b (c ∷ rest) = if c == b then Some rest else None

-- a digit
unfoldable pub one_digit : List ℕ → Option (ℕ × List ℕ)
one_digit [] = None
one_digit (b ∷ rest) = if is_ascii_digit b then Some (b - 48, rest) else None

-- two digits
unfoldable pub two_digits : List ℕ → Option (ℕ × List ℕ)
two_digits bs = do
  tens ← one_digit bs
  ones ← one_digit tens.1
  Some (tens.0 * 10 + ones.0, ones.1)

-- three digits
unfoldable pub three_digits : List ℕ → Option (ℕ × List ℕ)
three_digits bs = do
  tens ← two_digits bs
  ones ← one_digit tens.1
  Some (tens.0 * 10 + ones.0, ones.1)

-- four digits
unfoldable pub four_digits : List ℕ → Option (ℕ × List ℕ)
four_digits bs = do
  tens ← three_digits bs
  ones ← one_digit tens.1
  Some (tens.0 * 10 + ones.0, ones.1)

-- the one, or where it isn't there the other
abbrev pub or_else : {A : Type 0} → Option A → Option A → Option A
or_else None other = other
or_else (Some x) other = Some x

-- one or two digits
abbrev pub one_or_two_digits : List ℕ → Option (ℕ × List ℕ)
one_or_two_digits bs = or_else (two_digits bs) (one_digit bs)

-- the calendar has this date, in the years 1970 to 9999
abbrev pub is_date : ℕ → ℕ → ℕ → Bool
is_date year month day =
    nat_le 1970 year && nat_le year 9999 && nat_le 1 month && nat_le month 12 && nat_le 1 day && nat_le day (days_in_month (pos year) month)

-- the days from 1970-01-01 to a date
unfoldable pub days : ℕ → ℕ → ℕ → ℕ
days year month day = unsigned_abs (days_from_civil (pos year) month day)

-- the milliseconds to midnight of a date, none where the calendar has no such date
unfoldable pub midnight : ℕ → ℕ → ℕ → Option ℕ
midnight year month day = if is_date year month day then Some (days year month day * 86_400_000) else None

-- a clock of 24 hours shows this
abbrev pub is_clock : ℕ → ℕ → ℕ → Bool
is_clock hour minute second = nat_lt hour 24 && nat_lt minute 60 && nat_lt second 60

-- the milliseconds from midnight to a time of day, none where no clock shows it
unfoldable pub since_midnight : ℕ → ℕ → ℕ → ℕ → Option ℕ
since_midnight hour minute second millisecond =
    if is_clock hour minute second then Some (((hour * 60 + minute) * 60 + second) * 1000 + millisecond) else None

-- YYYY-MM-DD
unfoldable pub date : List ℕ → Option (ℕ × List ℕ)
date bs = do
  year ← four_digits bs
  dash ← byte 45 year.1
  month ← two_digits dash
  second_dash ← byte 45 month.1
  day ← two_digits second_dash
  start ← midnight year.0 month.0 day.0
  Some (start, day.1)

-- one to three digits behind a point, to the end, in thousandths
unfoldable pub thousandths : List ℕ → Option ℕ
thousandths [] = None
thousandths (a ∷ []) = if is_ascii_digit a then Some ((a - 48) * 100) else None
thousandths (a ∷ b ∷ []) = if is_ascii_digit a && is_ascii_digit b then Some ((a - 48) * 100 + (b - 48) * 10) else None
thousandths (a ∷ b ∷ c ∷ []) =
    if is_ascii_digit a && is_ascii_digit b && is_ascii_digit c then Some ((a - 48) * 100 + (b - 48) * 10 + (c - 48)) else None
thousandths _ = None

-- nothing more, or a point and one to three digits
unfoldable pub fraction : List ℕ → Option ℕ
fraction [] = Some 0
fraction (b ∷ bs) = if b == 46 then thousandths bs else None

-- hh:mm:ss, with or without a fraction
unfoldable pub clock : List ℕ → Option ℕ
clock bs = do
  hour ← two_digits bs
  colon ← byte 58 hour.1
  minute ← two_digits colon
  second_colon ← byte 58 minute.1
  second ← two_digits second_colon
  millisecond ← fraction second.1
  since_midnight hour.0 minute.0 second.0 millisecond

-- what may follow a date: nothing, or a space or a T and a time of day
unfoldable pub behind_date : List ℕ → Option ℕ
behind_date [] = Some 0
behind_date (b ∷ bs) = if b == 32 || b == 84 then clock bs else None

-- YYYY-MM-DD, YYYY-MM-DD hh:mm:ss, YYYY-MM-DDThh:mm:ss, or with a fraction behind the seconds
unfoldable pub numeric : List ℕ → Option ℕ
numeric bs = do
  start ← date bs
  time ← behind_date start.1
  Some (start.0 + time)

abbrev pub same_word : List ℕ → List ℕ → Bool
same_word = str_eq_ignore_ascii_case

-- JUL to DEC
unfoldable pub late_month : List ℕ → Option ℕ
late_month word =
    if same_word word (codes "JUL") then Some 7
    else (if same_word word (codes "AUG") then Some 8
    else (if same_word word (codes "SEP") then Some 9
    else (if same_word word (codes "OCT") then Some 10
    else (if same_word word (codes "NOV") then Some 11
    else (if same_word word (codes "DEC") then Some 12
    else None)))))

-- the number of a month from 1, by the first three letters of its English name, in any case
unfoldable pub month_number : List ℕ → Option ℕ
month_number word =
    if same_word word (codes "JAN") then Some 1
    else (if same_word word (codes "FEB") then Some 2
    else (if same_word word (codes "MAR") then Some 3
    else (if same_word word (codes "APR") then Some 4
    else (if same_word word (codes "MAY") then Some 5
    else (if same_word word (codes "JUN") then Some 6
    else late_month word)))))

-- the three letters of a month
unfoldable pub month : List ℕ → Option (ℕ × List ℕ)
month (a ∷ b ∷ c ∷ rest) = do
  number ← month_number (a ∷ b ∷ c ∷ [])
  Some (number, rest)
month _ = None

-- Mon d, yyyy
unfoldable pub english_date : List ℕ → Option (ℕ × List ℕ)
english_date bs = do
  month ← month bs
  blank ← byte 32 month.1
  day ← one_or_two_digits blank
  comma ← byte 44 day.1
  second_blank ← byte 32 comma
  year ← four_digits second_blank
  start ← midnight year.0 month.0 day.0
  Some (start, year.1)

-- the seconds behind a colon, or none
unfoldable pub seconds : List ℕ → Option (ℕ × List ℕ)
seconds [] = Some (0, [])
seconds (b ∷ bs) = if b == 58 then two_digits bs else Some (0, b ∷ bs)

-- the hour at which a half of the day begins: AM or PM, in any case
unfoldable pub half : List ℕ → Option ℕ
half word = if same_word word (codes "AM") then Some 0 else (if same_word word (codes "PM") then Some 12 else None)

-- the hour of 24 that an hour of 1 to 12 is: 12 begins each half
unfoldable pub hour_of_day : ℕ → ℕ → Option ℕ
hour_of_day hour half = if nat_le 1 hour && nat_le hour 12 then Some (hour % 12 + half) else None

-- h:mm AM or h:mm:ss AM
unfoldable pub english_clock : List ℕ → Option ℕ
english_clock bs = do
  twelfth ← one_or_two_digits bs
  colon ← byte 58 twelfth.1
  minute ← two_digits colon
  second ← seconds minute.1
  blank ← byte 32 second.1
  half ← half blank
  hour ← hour_of_day twelfth.0 half
  since_midnight hour minute.0 second.0 0

-- Mon d, yyyy h:mm AM or Mon d, yyyy h:mm:ss AM
unfoldable pub english : List ℕ → Option ℕ
english bs = do
  start ← english_date bs
  blank ← byte 32 start.1
  time ← english_clock blank
  Some (start.0 + time)

-- the milliseconds that a text means, none where it is no time
unfoldable pub time_of : List ℕ → Option ℕ
time_of bs = or_else (numeric bs) (english bs)

-- a number below 100 in two figures
abbrev pub two_figures : ℕ → List ℕ
two_figures n = (48 + n / 10) ∷ (48 + n % 10) ∷ []

-- a number below 1000 in three figures
abbrev pub three_figures : ℕ → List ℕ
three_figures n = (48 + n / 100) ∷ (48 + n / 10 % 10) ∷ (48 + n % 10) ∷ []

-- a number below 10000 in four figures
abbrev pub four_figures : ℕ → List ℕ
four_figures n = (48 + n / 1000) ∷ (48 + n / 100 % 10) ∷ (48 + n / 10 % 10) ∷ (48 + n % 10) ∷ []
