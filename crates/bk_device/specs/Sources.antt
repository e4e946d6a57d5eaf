-- Sources and clocks in memory.
use Rattle.std.specs.Prelude.{ℕ, ◌+◌, ◌*◌, ◌-◌, ◌^◌, min, List}

-- the answer of this number, from 0, of a clock that adds a step at each call, never past the greatest u64
abbrev pub time_after : ℕ → ℕ → ℕ → ℕ
time_after start step i = min (start + i * step) (2 ^ 64 - 1)

-- what a source in memory holds
pub record SourceState : Type 0 where
  -- the bytes not yet read
  pub rest : List ℕ
  -- the calls that are to fail, counted from 1
  pub failing : List ℕ
  -- how many calls were made
  pub calls : ℕ
  -- how many of them failed
  pub faults : ℕ
