use Rattle.std.proofs.Common.{◌≡◌, ◌≢◌, ◌≤◌, ◌<◌, ◌+◌, ℕ, [], true}
use Rattle.std.specs.Prelude.{vec_len}
use Rattle.bk_device.specs.Calls.{ChangesNothing}
use Rattle.bk_device.specs.Counts.{HasCause}
use Rattle.bk_segments.specs.Files.{blobs_at, blobs_from, AreSegments}
use Rattle.bk_segments.specs.Records.{IsRun, joined}
use Rattle.bk_segments.proofs.walk.walk_front.Given as goal

abbrev pub invariant-loop-i : goal.invariant-loop-i
invariant-loop-i g l = record {
  nothing : g.D.Device.tells → ChangesNothing (g.D.Device.disk l.fn.dev) (g.D.Device.disk l.dev);
  run : g.D.Device.tells → IsRun l.head.first (blobs_from (blobs_at (g.D.Device.disk l.fn.dev).files l.db) l.head.front l.i) l.at;
  begun : g.D.Device.tells → (n : ℕ) → l.head.front ≤ n → n < l.head.front + l.i → blobs_at (g.D.Device.disk l.fn.dev).files l.db n ≢ [];
  segments : g.D.Device.tells → AreSegments (blobs_at (g.D.Device.disk l.fn.dev).files l.db) l.db l.head.front l.head.first l.segments.items;
  count : vec_len l.segments ≡ l.i;
  bytes : g.D.Device.tells → l.gathers ≡ true → l.bytes.items ≡ joined (blobs_from (blobs_at (g.D.Device.disk l.fn.dev).files l.db) l.head.front l.i);
  cause : HasCause g.D.Device.disk_faults g.D.Device.tell_faults l.fn.dev l.dev ⊥;
}
