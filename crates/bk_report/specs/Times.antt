-- The text of a time. SQL Server: "CAST and CONVERT", style 121.
use Rattle.std.specs.Prelude.{ℕ, zero, suc, ◌+◌, ◌-◌, ◌/◌, ◌%◌, min, nat_le, if◌then◌else◌, List}
use Rattle.bk_time.specs.declared.print.Moment.{Moment}
use Rattle.bk_time.specs.Texts.{spelled}
use Rattle.bk_time.specs.Times.{days}

-- the last number up to `most` at which rising values are at most `value`, or 0
unfoldable pub last_within : (ℕ → ℕ) → ℕ → ℕ → ℕ
last_within values value zero = 0
last_within values value (suc most) = if nat_le (values (suc most)) value then suc most else last_within values value most

-- the year of a day, where day 0 is 1970-01-01: the last one up to 9999 that had begun
abbrev pub year_of : ℕ → ℕ
year_of day = 1970 + last_within (λ k. days (1970 + k) 1 1) day 8029

-- the month of a day of a year: the last one that had begun
abbrev pub month_of : ℕ → ℕ → ℕ
month_of year day = 1 + last_within (λ k. days year (1 + k) 1) day 11

-- a day of a year and a month, and so many milliseconds of it
abbrev pub moment_in : ℕ → ℕ → ℕ → ℕ → Moment
moment_in year month day ms = record {
  year = year;
  month = month;
  day = day - days year month 1 + 1;
  hour = ms / 3_600_000;
  minute = ms / 60_000 % 60;
  second = ms / 1000 % 60;
  millisecond = ms % 1000;
}

-- so many days from 1970-01-01, and so many milliseconds
abbrev pub moment_on : ℕ → ℕ → Moment
moment_on day ms = moment_in (year_of day) (month_of (year_of day) day) day ms

-- so many milliseconds from 1970-01-01 00:00:00
unfoldable pub moment_at : ℕ → Moment
moment_at ms = moment_on (ms / 86_400_000) (ms % 86_400_000)

-- YYYY-MM-DD hh:mm:ss.mmm; no time is behind the last millisecond of 9999
unfoldable pub time_text : ℕ → List ℕ
time_text ms = spelled (moment_at (min ms 253402300799999))
