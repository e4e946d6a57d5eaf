-- How the reader answers.
use Rattle.std.specs.Prelude.{◌≡◌, ℕ, true, false, Option, Some, None, pos}
use Rattle.jiff_core.specs.declared.civil.date.Date.{Date}
use Rattle.jiff_core.specs.Date.{IsYmd}
use Rattle.bk_time.specs.Times.{is_date}

-- what a function returned, seen by view, is what is read there
abbrev pub Gives : {X Y : Type 0} → (X → Y) → Option X → Option Y → Type 0
Gives view (Some x) read = read ≡ Some (view x)
Gives view None read = read ≡ None

-- the date with these parts, none where there is none
abbrev pub IsDateOf : ℕ → ℕ → ℕ → Option Date → Type 0
IsDateOf year month day None = is_date year month day ≡ false
IsDateOf year month day (Some d) = (is_date year month day ≡ true) × IsYmd (pos year) (pos month) (pos day) d
