use Rattle.std.proofs.Common.{◌≡◌, ◌*◌}
use Rattle.bk_device.specs.Counts.{HasCause}
use Rattle.bk_page.specs.Page.{part}
use Rattle.bk_arriving.specs.Steps.{ahead}
use Rattle.bk_arriving.proofs.Adding.{Adds}
use Rattle.bk_arriving.proofs.pages.push_extent.Given as goal

abbrev pub invariant-pages : goal.invariant-pages
invariant-pages g l = record {
  next : l.arriving ≡ record l.fn.arriving { filling = ahead l.fn.arriving.filling l.j };
  adds : g.D.Device.tells → Adds l.fn.arriving l.arriving (g.D.Device.disk l.fn.dev) (g.D.Device.disk l.dev) l.j (λ j. part l.bytes (8192 * j) 8192);
  cause : HasCause g.D.Device.disk_faults g.D.Device.tell_faults l.fn.dev l.dev ⊥;
}
