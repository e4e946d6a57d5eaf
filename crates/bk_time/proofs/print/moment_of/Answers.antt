use Rattle.std.proofs.Common.{◌≡◌, ℕ, ◌+◌, ◌*◌, ◌≤◌, ◌&&◌, Bool, true, nat_le, arith, pos, ◌≤ℤ◌, unsigned_abs, ap}
use Rattle.std.proofs.lemmas.Bool.Decides.{nat_tests}
use Rattle.jiff_core.specs.declared.civil.datetime.DateTime.{DateTime}
use Rattle.jiff_core.specs.Calendar.{days_in_month, days_from_civil}
use Rattle.jiff_core.specs.Date.{epoch_day}
use Rattle.jiff_core.specs.DateTime.{civil_nanos}
use Rattle.jiff_core.proofs.SignedLemmas.{signed_arith}
use Rattle.jiff_core.proofs.DateTimeLemmas.{civil_nanos-parts, time_nanos_bound}
use Rattle.bk_time.specs.declared.print.Moment.{Moment}
use Rattle.bk_time.specs.Texts.{ArePartsOf}
use Rattle.bk_time.specs.Times.{is_date, is_clock, days}
use Rattle.bk_time.proofs.DayLemmas.{from_1970, day_from_1970}
use Rattle.bk_time.proofs.print.moment_of.Goals as goal

true_le : {a b : ℕ} → a ≤ b → nat_le a b ≡ true
true_le h = grind (arith, nat_tests)

late : (at : DateTime) (n : ℕ) → civil_nanos at ≡ pos n → pos 0 ≤ℤ epoch_day at.date
late at n e = omega (arith, signed_arith, civil_nanos-parts at, time_nanos_bound at.time)

five : (a b c d e f : Bool) → a ≡ true → b ≡ true → c ≡ true → d ≡ true → e ≡ true → f ≡ true → (a && b && c && d && e && f) ≡ true
five a b c d e f p q r s t u = rw (p, q, r, s, t, u)

dated : (at : DateTime) (m : Moment) → pos 1970 ≤ℤ at.date.year → ArePartsOf at m → is_date m.year m.month m.day ≡ true
dated at m h parts =
    let low : 1970 ≤ m.year = omega (arith, signed_arith, parts.year) in
    let high : m.year ≤ 9999 = omega (arith, signed_arith, parts.year, at.date.year_in.1) in
    let first : 1 ≤ m.month = omega (arith, at.date.month_in.0) in
    let last : m.month ≤ 12 = omega (arith, at.date.month_in.1) in
    let day : 1 ≤ m.day = omega (arith, at.date.day_in.0) in
    let length : days_in_month at.date.year at.date.month ≡ days_in_month (pos m.year) m.month = rw (parts.year, parts.month) in
    let end : m.day ≤ days_in_month (pos m.year) m.month = omega (arith, at.date.day_in.1, length) in
    five _ _ _ _ _ _ (true_le low) (true_le high) (true_le first) (true_le last) (true_le day) (true_le end)

clocked : (at : DateTime) (m : Moment) → ArePartsOf at m → is_clock m.hour m.minute m.second ≡ true
clocked at m parts = grind (arith, nat_tests)

meant : (at : DateTime) (m : Moment) (ms : ℕ) → pos 1970 ≤ℤ at.date.year → ArePartsOf at m → civil_nanos at ≡ pos (ms * 1_000_000) → ms ≡ days m.year m.month m.day * 86_400_000 + (((m.hour * 60 + m.minute) * 60 + m.second) * 1000 + m.millisecond)
unfolding days
meant at m ms h parts e =
    let same : epoch_day at.date ≡ days_from_civil (pos m.year) m.month m.day = rw (parts.year, parts.month, parts.day) in
    let day = day_from_1970 at.date h in
    omega (arith, signed_arith, civil_nanos-parts at, same, day, ap unsigned_abs same)

pub parts_of-requires : goal.parts_of-requires
parts_of-requires c = from_1970 c.civil_of.result.date (late c.civil_of.result _ c.civil_of.ensures)

pub returns : goal.returns
returns c =
    let at = c.civil_of.result in
    let h = from_1970 at.date (late at _ c.civil_of.ensures) in
    record {
      date = dated at c.parts_of.result h c.parts_of.ensures;
      clock = clocked at c.parts_of.result c.parts_of.ensures;
      small = omega (arith, at.time.subsec_in);
      meaning = meant at c.parts_of.result c.args.ms h c.parts_of.ensures c.civil_of.ensures;
    }
