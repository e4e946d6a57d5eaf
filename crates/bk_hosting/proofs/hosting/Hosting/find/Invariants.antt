use Rattle.std.proofs.Common.{◌≡◌, ◌<◌, ℕ, List, Some, false, slice_get}
use Rattle.bk_hosted.specs.Hosted.{Hosted, names}
use Rattle.bk_hosting.specs.Asking.{AreDescribed}
use Rattle.bk_hosting.proofs.hosting.Hosting.find.Given as goal

abbrev pub invariant-loop-at : goal.invariant-loop-at
invariant-loop-at l = (hosted : List Hosted) → AreDescribed l.self hosted → (k : ℕ) (h : Hosted) → k < l.at → slice_get hosted k ≡ Some h → names l.name h ≡ false
