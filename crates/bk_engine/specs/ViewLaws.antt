-- An instance has in memory what it knows of the world for which it stands.
use Rattle.std.proofs.Common.{◌≡◌, zero, suc, List, [], ◌∷◌, length, map, Option, Some, None, refl, subst, arith}
use Rattle.std.specs.List.{AllByRecursion, AllZip}
use Rattle.bk_device.specs.Disk.{Disk}
use Rattle.bk_hosted.specs.Hosted.{Hosted, IsHosted, database_of}
use Rattle.bk_hosting.specs.AskLaws.{described}
use Rattle.bk_hosting.specs.Hosting.{Tells, WaitsBehind}
use Rattle.bk_known.specs.declared.known.DatabaseSpec.{DatabaseSpec}
use Rattle.bk_machine.specs.Sound.{IsWholeDatabase}
use Rattle.bk_machine.specs.World.{Database, World}
use Rattle.bk_master.specs.declared.record.Entry.{Entry}
use Rattle.bk_shown.specs.Shown.{Shows}
use Rattle.bk_store.specs.Store.{Kept as KeptStore}
use Rattle.bk_store.specs.Told.{Told}
use Rattle.bk_stores.specs.Stores.{IsSlot, SlotsStand}
use Rattle.bk_world.specs.Cut.{end_behind}
use Rattle.bk_world.specs.Records.{Counts, Logged}
use Rattle.bk_engine.specs.Stands.{Kept, StandsFor}
use Rattle.bk_engine.specs.Viewing.{Remembers, ShowsBy}

-- ---- records of sound worlds

abbrev CountsOf : Hosted → Type 0
CountsOf h = Counts 1 h.records (end_behind h.records)

count-each : (w : World) (hosted : List Hosted) → AllByRecursion (IsWholeDatabase w) (map database_of hosted) → AllByRecursion (IsHosted w.history) hosted → AllByRecursion CountsOf hosted
count-each w [] whole each = tt
count-each w (h ∷ hosted) whole each = (subst (λ (rs : List Logged). Counts 1 rs (end_behind h.records)) each.0.log whole.0.log.counts, count-each w hosted whole.1 each.1)

-- ---- what stores show

-- each slot of some entries stands for a database
abbrev Stand : Disk → List Entry → List (Option KeptStore) → List Told → Type 0
Stand disk entries slots tolds = (length tolds ≡ length entries) × SlotsStand disk entries slots tolds

less : (disk : Disk) (e : Entry) (entries : List Entry) (slot : Option KeptStore) (slots : List (Option KeptStore)) (t : Told) (tolds : List Told) → Stand disk (e ∷ entries) (slot ∷ slots) (t ∷ tolds) → Stand disk entries slots tolds
less disk e entries slot slots t tolds stand = (let same = stand.0 in omega (arith, same), λ i f s u at there. stand.1 (suc i) f s u at there)

shown-by : (disk : Disk) (e : Entry) (slot : Option KeptStore) (t : Told) (h : Hosted) → IsSlot disk e slot t → Tells t h → WaitsBehind slot h → CountsOf h → ShowsBy slot h
shown-by disk e None t h stands tells waits counts = (waits.0, counts)
shown-by disk e (Some s) t h stands tells waits counts =
    (waits.0, subst (λ (rs : List Logged). Shows h.spec.storage.files rs s.shown) tells.records (subst (λ (spec : DatabaseSpec). Shows spec.storage.files t.records s.shown) tells.spec stands.store.shows))

show-each : (disk : Disk) (entries : List Entry) (slots : List (Option KeptStore)) (tolds : List Told) (hosted : List Hosted) → Stand disk entries slots tolds → AllZip Tells tolds hosted → AllZip WaitsBehind slots hosted
    → AllByRecursion CountsOf hosted → AllZip ShowsBy slots hosted
show-each disk entries [] tolds [] stand tells waits counts = tt
show-each disk entries [] tolds (h ∷ hosted) stand tells waits counts = absurd waits
show-each disk entries (slot ∷ slots) tolds [] stand tells waits counts = absurd waits
show-each disk entries (slot ∷ slots) [] (h ∷ hosted) stand tells waits counts = absurd tells
show-each disk [] (slot ∷ slots) (t ∷ tolds) (h ∷ hosted) stand tells waits counts = absurd (let same = stand.0 in omega (arith, same))
show-each disk (e ∷ entries) (slot ∷ slots) (t ∷ tolds) (h ∷ hosted) stand tells waits counts =
    (shown-by disk e slot t h (stand.1 zero e slot t (refl, refl) refl) tells.0 waits.0 counts.0, show-each disk entries slots tolds hosted (less disk e entries slot slots t tolds stand) tells.1 waits.1 counts.1)

-- ---- an instance

pub remembers : (disk : Disk) (e : Kept) (w : World) → StandsFor disk e w → Remembers e w
remembers disk e w is = record {
  instance = is.instance;
  counter = is.counter;
  session = is.session;
  sessions = is.sessions;
  hosted = is.hosted;
  hosts = is.hosts;
  memory = record {
    described = described disk e.hosting is.hosted is.hosting;
    states = is.hosting.states;
    shows = show-each disk e.hosting.stores.master.record.databases e.hosting.stores.slots is.hosting.tolds is.hosted (is.hosting.stores.standing.entries.count, is.hosting.stores.standing.stand) is.hosting.tells is.hosting.waits
        (count-each w is.hosted (subst (λ (dbs : List Database). AllByRecursion (IsWholeDatabase w) dbs) is.hosts.same is.sound.whole.databases) is.hosts.each);
  };
}
