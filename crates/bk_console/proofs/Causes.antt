-- Calls that follow one another.
use Rattle.std.proofs.Common.{◌≤◌, ℕ, arith}
use Rattle.bk_console.specs.Causes.{HasCauses}

-- no call is made yet
pub causes-none : {D : Type 0} {disk tell : D → ℕ} (a : D) → HasCauses disk tell a a ⊥ ⊥
causes-none a = record {
  files = λ no. absurd no;
  telling = λ no. absurd no;
  disk_faults = omega arith;
  tell_faults = omega arith;
}

-- calls, and then calls, whatever failed in these
pub causes-then : {D : Type 0} {disk tell : D → ℕ} {a b c : D} → HasCauses disk tell a b ⊥ ⊥ → disk b ≤ disk c → tell b ≤ tell c → HasCauses disk tell a c ⊥ ⊥
causes-then first more_disk more_tell = record {
  files = λ no. absurd no;
  telling = λ no. absurd no;
  disk_faults = omega (arith, first.disk_faults, more_disk);
  tell_faults = omega (arith, first.tell_faults, more_tell);
}
