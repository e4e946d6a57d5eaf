use Rattle.std.proofs.Common.{◌≡◌, ◌≤◌, ◌<◌, ℕ, None}
use Rattle.bk_device.specs.Calls.{ChangesNothing}
use Rattle.bk_device.specs.Counts.{HasCause}
use Rattle.bk_device.specs.Effects.{Effect}
use Rattle.bk_segments.specs.Files.{segment_file, IsBetween}
use Rattle.bk_segments.proofs.removing.remove_segments.Given as goal

abbrev pub invariant-loop-n : goal.invariant-loop-n
invariant-loop-n g l = record {
  gone : g.D.Device.tells → (n : ℕ) → l.from ≤ n → n < l.n → (g.D.Device.disk l.dev).files (segment_file l.db n) ≡ None;
  effect : g.D.Device.tells → Effect (IsBetween l.db l.from l.to) (λ _. Unit {0}) (g.D.Device.disk l.fn.dev) (g.D.Device.disk l.dev);
  still : g.D.Device.tells → ((n : ℕ) → l.from ≤ n → n < l.to → (g.D.Device.disk l.fn.dev).files (segment_file l.db n) ≡ None) → ChangesNothing (g.D.Device.disk l.fn.dev) (g.D.Device.disk l.dev);
  cause : HasCause g.D.Device.disk_faults g.D.Device.tell_faults l.fn.dev l.dev ⊥;
}
