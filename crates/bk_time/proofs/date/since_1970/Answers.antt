use Rattle.std.proofs.Common.{◌≡◌, ◌*◌, ◌≤◌, ℕ, ℤ, pos, unsigned_abs, arith, to_z, of_z, ap}
use Rattle.std.specs.Int.{w128}
use Rattle.jiff_core.specs.Date.{epoch_day}
use Rattle.jiff_core.proofs.SignedLemmas.{back_small}
use Rattle.bk_time.proofs.DayLemmas.{millis_from_1970, last_day_from_1970}
use Rattle.bk_time.proofs.date.since_1970.Goals as goal

-- what is cast is the number of milliseconds
cast_is : (r : ℤ) (n : ℕ) → r ≡ pos (n * 86_400_000) → n ≤ 2_932_896 → to_z w128 (of_z w128 r) ≡ pos (n * 86_400_000)
cast_is r n e h = rw e (back_small w128 (pos (n * 86_400_000)) (omega arith))

millis : (c : goal.After-as_millis) → to_z w128 (of_z w128 c.as_millis.result) ≡ pos (unsigned_abs (epoch_day c.args.date) * 86_400_000)
millis c =
    cast_is c.as_millis.result _ (millis_from_1970 c.args.date c.date.result _ c.as_millis.result c.requires c.date.ensures c.duration_since-since.ensures c.as_millis.ensures) (last_day_from_1970 c.args.date c.requires)

pub overflow_cast-result : goal.overflow_cast-result
overflow_cast-result c =
    let most = last_day_from_1970 c.args.date c.requires in
    rw (millis c) (tt, omega arith)

pub returns-clause-value : goal.returns-clause-value
returns-clause-value c = ap unsigned_abs (millis c)

pub returns-clause-small : goal.returns-clause-small
returns-clause-small c =
    let most = last_day_from_1970 c.args.date c.requires in
    rw (millis c) (omega arith)
