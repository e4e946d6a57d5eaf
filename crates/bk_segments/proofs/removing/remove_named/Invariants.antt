use Rattle.std.proofs.Common.{◌≡◌, ◌<◌, ℕ, None, Some}
use Rattle.std.specs.Prelude.{slice_get, string_bytes}
use Rattle.bk_device.specs.Counts.{HasCause}
use Rattle.bk_device.specs.Effects.{Effect}
use Rattle.bk_segments.specs.declared.segments.Segment.{Segment}
use Rattle.bk_segments.specs.Files.{IsNamed}
use Rattle.bk_segments.proofs.removing.remove_named.Given as goal

abbrev pub invariant-loop-i : goal.invariant-loop-i
invariant-loop-i g l = record {
  gone : g.D.Device.tells → (j : ℕ) (s : Segment) → j < l.i → slice_get l.segments j ≡ Some s → (g.D.Device.disk l.dev).files (string_bytes s.name) ≡ None;
  effect : g.D.Device.tells → Effect (IsNamed l.segments) (λ _. Unit {0}) (g.D.Device.disk l.fn.dev) (g.D.Device.disk l.dev);
  cause : HasCause g.D.Device.disk_faults g.D.Device.tell_faults l.fn.dev l.dev ⊥;
}
