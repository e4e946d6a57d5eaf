use Rattle.bk_device.specs.Calls.{ChangesNothing}
use Rattle.bk_device.specs.Counts.{HasCause}
use Rattle.bk_archive.proofs.Listings.{ListsFirst}
use Rattle.bk_archive.proofs.listing.list_on.Given as goal

abbrev pub invariant-sets : goal.invariant-sets
invariant-sets g l = record {
  listed : g.D.Device.tells → ListsFirst ((g.D.Device.disk l.fn.dev).files l.medium.name) l.index l.sets.items;
  effect : g.D.Device.tells → ChangesNothing (g.D.Device.disk l.fn.dev) (g.D.Device.disk l.dev);
  cause : HasCause g.D.Device.disk_faults g.D.Device.tell_faults l.fn.dev l.dev ⊥;
}
