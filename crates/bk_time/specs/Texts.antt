-- The text of a time.
use Rattle.std.specs.Prelude.{◌≡◌, ℕ, ◌+◌, ◌*◌, ◌/◌, ◌<◌, true, pos, List, ◌∷◌, ◌++◌}
use Rattle.jiff_core.specs.declared.civil.datetime.DateTime.{DateTime}
use Rattle.bk_time.specs.declared.print.Moment.{Moment}
use Rattle.bk_time.specs.Times.{is_date, is_clock, days, two_figures, three_figures, four_figures}

-- YYYY-MM-DD
unfoldable pub spelled_date : Moment → List ℕ
spelled_date m = four_figures m.year ++ (45 ∷ (two_figures m.month ++ (45 ∷ two_figures m.day)))

-- hh:mm:ss.mmm
unfoldable pub spelled_clock : Moment → List ℕ
spelled_clock m =
    two_figures m.hour ++ (58 ∷ (two_figures m.minute ++ (58 ∷ (two_figures m.second ++ (46 ∷ three_figures m.millisecond)))))

-- YYYY-MM-DD hh:mm:ss.mmm
unfoldable pub spelled : Moment → List ℕ
spelled m = spelled_date m ++ (32 ∷ spelled_clock m)

-- the date and the time of day that are so many milliseconds from 1970-01-01 00:00:00
pub record IsMoment (ms : ℕ) (m : Moment) : Type 0 where
  pub date : is_date m.year m.month m.day ≡ true
  pub clock : is_clock m.hour m.minute m.second ≡ true
  pub small : m.millisecond < 1000
  pub meaning : ms ≡ days m.year m.month m.day * 86_400_000 + (((m.hour * 60 + m.minute) * 60 + m.second) * 1000 + m.millisecond)

-- the text of a number of milliseconds
abbrev pub IsTextOf : ℕ → List ℕ → Type 0
IsTextOf ms text = (m : Moment) × IsMoment ms m × (text ≡ spelled m)

-- the parts that a date and a time of day show, down to milliseconds
pub record ArePartsOf (at : DateTime) (m : Moment) : Type 0 where
  pub year : at.date.year ≡ pos m.year
  pub month : at.date.month ≡ m.month
  pub day : at.date.day ≡ m.day
  pub hour : at.time.hour ≡ m.hour
  pub minute : at.time.minute ≡ m.minute
  pub second : at.time.second ≡ m.second
  pub millisecond : at.time.subsec_nanosecond / 1_000_000 ≡ m.millisecond
