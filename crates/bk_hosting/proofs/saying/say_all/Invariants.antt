use Rattle.std.proofs.Common.{◌≡◌, ◌≤◌, List, take, false}
use Rattle.bk_device.specs.Counts.{HasCause}
use Rattle.bk_paged.specs.Paged.{Standing, Touches}
use Rattle.bk_store.specs.Store.{Crashes, IsStore}
use Rattle.bk_store.specs.Told.{Told}
use Rattle.bk_world.specs.Records.{Logged}
use Rattle.bk_hosting.specs.Saying.{MaySayAll, telling}
use Rattle.bk_hosting.proofs.saying.say_all.Given as goal

abbrev pub invariant-loop-r : goal.invariant-loop-r
invariant-loop-r g l = record {
  fit : l.store.paged.failed ≡ false;
  standing : g.D.Device.tells → Standing (g.D.Device.disk l.dev) l.store.paged;
  number : l.store.paged.log.db ≡ l.fn.store.paged.log.db;
  files : l.store.paged.facts.files ≡ l.fn.store.paged.facts.files;
  stands : g.D.Device.tells → (told : Told) (next : List Logged) → IsStore (g.D.Device.disk l.fn.dev) l.fn.store told → MaySayAll told next l.records → IsStore (g.D.Device.disk l.dev) l.store (telling told (take l.r-index next));
  later : g.D.Device.tells → (told : Told) (next : List Logged) → IsStore (g.D.Device.disk l.fn.dev) l.fn.store told → MaySayAll told next l.records → l.fn.store.paged.log.stored ≤ l.store.paged.log.stored;
  crash : g.D.Device.tells → (told : Told) (next : List Logged) → IsStore (g.D.Device.disk l.fn.dev) l.fn.store told → MaySayAll told next l.records → Crashes l.fn.store (telling told next) (g.D.Device.disk l.fn.dev) (g.D.Device.disk l.dev);
  touches : g.D.Device.tells → Touches l.fn.store.paged (g.D.Device.disk l.fn.dev) (g.D.Device.disk l.dev);
  cause : HasCause g.D.Device.disk_faults g.D.Device.tell_faults l.fn.dev l.dev ⊥;
}
