-- What a count of failures says.
use Rattle.std.specs.Prelude.{◌≡◌, ◌≤◌, ◌<◌, ℕ, ◌+◌, ◌-◌, ◌^◌, min}

-- the count rose, or stands at its greatest value
abbrev pub HasRisen : ℕ → ℕ → Type 0
HasRisen before after = after < 2 ^ 64 - 1 → before < after

-- a count after one more, which stays at its greatest value
abbrev pub one_more : ℕ → ℕ
one_more count = min (count + 1) (2 ^ 64 - 1)

-- A call on files has failed only where the count of such failures rose. That count never falls, and the output's is as it was.
pub record HasCause {D : Type 0} (disk tell : D → ℕ) (old new : D) (failed : Type 0) : Type 0 where
  pub rose : failed → HasRisen (disk old) (disk new)
  pub never_falls : disk old ≤ disk new
  pub tell_faults : tell new ≡ tell old
