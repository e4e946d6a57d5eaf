use Rattle.std.proofs.Common.{◌≡◌, ℕ, List}
use Rattle.bk_device.specs.Counts.{HasCause}
use Rattle.bk_arriving.specs.Steps.{Advances, Brings, HasHeaders, HasTurned, Stays, rest_of}
use Rattle.bk_arriving.proofs.Adding.{Touches}
use Rattle.bk_arriving.proofs.headers.push_headers.Given as goal

abbrev pub invariant-files : goal.invariant-files
invariant-files g l = record {
  advances : Advances l.fn.arriving l.arriving;
  turned : HasTurned l._i l.arriving.filling;
  rest : rest_of l.arriving.filling ≡ rest_of l.fn.arriving.filling;
  stays : g.D.Device.tells → Stays l.fn.arriving l.arriving (g.D.Device.disk l.fn.dev) (g.D.Device.disk l.dev);
  brings : g.D.Device.tells → (given : ℕ × ℕ → List ℕ) → HasHeaders given → Brings given l.fn.arriving l.arriving (g.D.Device.disk l.fn.dev).files (g.D.Device.disk l.dev).files;
  effect : g.D.Device.tells → Touches l.fn.arriving (g.D.Device.disk l.fn.dev) (g.D.Device.disk l.dev);
  cause : HasCause g.D.Device.disk_faults g.D.Device.tell_faults l.fn.dev l.dev ⊥;
}
