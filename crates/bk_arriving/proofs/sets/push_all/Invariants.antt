use Rattle.std.proofs.Common.{◌≡◌, length}
use Rattle.bk_body.specs.Body.{Body}
use Rattle.bk_device.specs.Calls.{contents}
use Rattle.bk_device.specs.Counts.{HasCause}
use Rattle.bk_volume.specs.Stored.{IsOf}
use Rattle.bk_arriving.specs.Sets.{pages_of}
use Rattle.bk_arriving.specs.Steps.{Advances, Brings, Remain, Stays}
use Rattle.bk_arriving.proofs.Adding.{Touches}
use Rattle.bk_arriving.proofs.sets.push_all.Given as goal

abbrev pub invariant-extents : goal.invariant-extents
invariant-extents g l = record {
  size : length l.buf ≡ 65536;
  advances : Advances l.fn.arriving l.arriving;
  rest : g.D.Device.tells → (body : Body) → IsOf (contents ((g.D.Device.disk l.fn.dev).files l.medium.name)) body l.set → Remain 0 body.extents l.fn.arriving.filling → Remain l.i body.extents l.arriving.filling;
  fits : g.D.Device.tells → (body : Body) → IsOf (contents ((g.D.Device.disk l.fn.dev).files l.medium.name)) body l.set → Remain l.i body.extents l.arriving.filling → Remain 0 body.extents l.fn.arriving.filling;
  stays : g.D.Device.tells → Stays l.fn.arriving l.arriving (g.D.Device.disk l.fn.dev) (g.D.Device.disk l.dev);
  brings : g.D.Device.tells → (body : Body) → IsOf (contents ((g.D.Device.disk l.fn.dev).files l.medium.name)) body l.set → Brings (pages_of body) l.fn.arriving l.arriving (g.D.Device.disk l.fn.dev).files (g.D.Device.disk l.dev).files;
  effect : g.D.Device.tells → Touches l.fn.arriving (g.D.Device.disk l.fn.dev) (g.D.Device.disk l.dev);
  cause : HasCause g.D.Device.disk_faults g.D.Device.tell_faults l.fn.dev l.dev ⊥;
}
