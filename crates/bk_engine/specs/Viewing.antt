-- What is seen of an instance in memory: over this its statements are planned.
-- SQL Server: "System Databases", master; "Transaction Log Architecture and Management Guide".
use Rattle.std.specs.Prelude.{◌≡◌, true, false, List, map, Option, None, Some, IfSome}
use Rattle.std.specs.List.{AllZip}
use Rattle.bk_hosted.specs.Hosted.{Hosted, Hosts, database_of, is_up}
use Rattle.bk_hosting.specs.declared.hosting.State.{State}
use Rattle.bk_hosting.specs.Asking.{AreDescribed}
use Rattle.bk_hosting.specs.Hosting.{state_of, Kept as KeptHosting}
use Rattle.bk_kept.specs.declared.kept.Database.{Database as KeptDatabase}
use Rattle.bk_kept.specs.Keeps.{session_of, database_of as database_in}
use Rattle.bk_known.specs.declared.known.DatabaseSpec.{DatabaseSpec}
use Rattle.bk_machine.specs.World.{World}
use Rattle.bk_shown.specs.declared.shown.Shown.{Shown}
use Rattle.bk_shown.specs.Shown.{Shows}
use Rattle.bk_store.specs.Store.{Kept as KeptStore}
use Rattle.bk_world.specs.Cut.{end_behind}
use Rattle.bk_world.specs.Records.{Counts}
use Rattle.bk_engine.specs.Stands.{Kept, own_in}

-- ---- the ends of logs

-- what has the end of a database's log, while it is being restored; of one that can be used its store has it
abbrev pub IsEndOf : State → Shown → Type 0
IsEndOf st end = IfSome st.known (λ known. end.«end» ≡ known.as_of.from)

-- one for each database, in their order
abbrev pub AreEnds : Kept → List Shown → Type 0
AreEnds e ends = AllZip IsEndOf e.hosting.states ends

-- ---- what memory has

-- What a store shows of a database that can be used is what its records show. Those of another one have each number once.
abbrev pub ShowsBy : Option KeptStore → Hosted → Type 0
ShowsBy None h = (is_up h ≡ false) × Counts 1 h.records (end_behind h.records)
ShowsBy (Some s) h = (is_up h ≡ true) × Shows h.spec.storage.files h.records s.shown

-- Memory has these databases: their descriptions, points and open transactions, and what their logs show.
pub record AreInMemory (x : KeptHosting) (hosted : List Hosted) : Type 0 where
  pub described : AreDescribed x hosted
  pub states : x.states ≡ map state_of hosted
  pub shows : AllZip ShowsBy x.stores.slots hosted

-- Memory has what an instance knows of a world, but for its media: so it is where the instance stands for the world (`remembers` of ViewLaws).
pub record Remembers (e : Kept) (w : World) : Type 0 where
  pub instance : w.instance ≡ (own_in e).number
  pub counter : w.counter ≡ e.drawn
  pub session : w.session ≡ e.session
  pub sessions : w.sessions ≡ map session_of e.sessions
  pub hosted : List Hosted
  pub hosts : Hosts w hosted
  pub memory : AreInMemory e.hosting hosted

-- ---- what is seen

-- what is shown of a database's log: by its store, or else its end alone
abbrev pub shown_by : Option KeptStore → Shown → Shown
shown_by None end = end
shown_by (Some s) end = s.shown

-- a database with this description, with these points and open transactions, whose log shows this
abbrev pub seen_by : DatabaseSpec → State → Shown → KeptDatabase
seen_by spec st shown = record {
  name = spec.name;
  family = spec.family;
  groups = spec.storage.groups;
  files = spec.storage.files;
  log_name = spec.storage.log_name;
  log_path = spec.storage.log_path;
  path = spec.path;
  archive = st.points.archive;
  kept = st.points.kept;
  checkpoint = st.points.checkpoint;
  chain = st.points.chain;
  began = st.points.began;
  base = st.points.base;
  status = st.points.status;
  units = st.points.units;
  job = st.job;
  transactions = st.transactions;
  shown = shown;
}

-- A database is seen so: it is the same one, and where it can be used, what its log shows is seen.
pub record IsSeenAs (h : Hosted) (d : KeptDatabase) : Type 0 where
  pub same : database_in d ≡ database_of h
  pub shows : is_up h ≡ true → Shows h.spec.storage.files h.records d.shown
