-- What is copied of a database that a world has by a name, as it is hosted.
use Rattle.std.proofs.Common.{◌≡◌, ◌∙◌, ℕ, List, [], ◌∷◌, length, map, Option, Some, None, refl, sym, ap, subst}
use Rattle.std.proofs.lemmas.Option.{same_Some}
use Rattle.std.specs.Prelude.{set, slice_get}
use Rattle.std.specs.List.{AllByRecursion, position}
use Rattle.bk_carried.specs.Copied.{WasRead}
use Rattle.bk_device.specs.Disk.{Disk}
use Rattle.bk_hosted.specs.Hosted.{Hosted, Hosts, IsHosted, database_of, names, running}
use Rattle.bk_hosted.specs.PlaceLaws.{named-there}
use Rattle.bk_machine.specs.declared.job.Job.{Job}
use Rattle.bk_machine.specs.NamedLaws.{of-named}
use Rattle.bk_machine.specs.Sound.{JobIs}
use Rattle.bk_world.specs.Lines.{RecordLines}
use Rattle.bk_engine.specs.Stands.{Kept, StandsFor}
use Rattle.bk_machine.specs.World.{Database, World, database_named, log_of}
use Rattle.bk_volume.specs.Staging.{HoldsParts}
use Rattle.bk_world.specs.Records.{Logged}
use Rattle.bk_engine.specs.Copied.{AreCopied, IsCopiedJob, staging_of}
use Rattle.bk_engine.specs.CopiedLaws.{at-all, copied-job, copied-set}
use Rattle.bk_engine.specs.Copying.{HoldsFront, IsCopiedOf}

module _ (disk : Disk) (w : World) (name : List ℕ) (hosted : List Hosted) (i : ℕ) (h : Hosted) (hosts : Hosts w hosted) (place : position (names name) hosted ≡ Some i) (there : slice_get hosted i ≡ Some h) where
  found : (database_named w.databases name ≡ Some (database_of h)) × IsHosted w.history h
  found = named-there w name hosted i h hosts place there

  pub hosted-of : (job : Job) → IsCopiedOf w name disk job → IsCopiedJob disk h job
  hosted-of job of =
      let same : of.db ≡ database_of h = same_Some of.db (database_of h) (sym of.found ∙ found.0) in
      let front : HoldsFront w (database_of h) job.checkpoint job.left disk (staging_of job.set of.count) = subst (λ (db : Database). HoldsFront w db job.checkpoint job.left disk (staging_of job.set of.count)) same of.holds in
      record {
        guid = of.guid;
        extents = front.extents;
        order = front.order;
        read = subst (λ (rs : List Logged). AllByRecursion (WasRead rs job.checkpoint) front.extents) found.1.log front.read;
        parts = subst (λ (n : ℕ). HoldsParts disk (staging_of job.set n) front.extents []) (sym front.parts.count) front.parts;
      }

  pub of-hosted : (job : Job) → IsCopiedJob disk h job → IsCopiedOf w name disk job
  of-hosted job is = record {
    guid = is.guid;
    db = database_of h;
    found = found.0;
    count = length is.extents;
    holds = record {
      extents = is.extents;
      order = is.order;
      read = subst (λ (rs : List Logged). AllByRecursion (WasRead rs job.checkpoint) is.extents) (sym found.1.log) is.read;
      parts = is.parts;
    };
  }

  -- a backup that runs, of one that is hosted
  pub running-of : (db : Database) (job : Job) → database_named w.databases name ≡ Some db → db.job ≡ Some job → AreCopied disk hosted → IsCopiedOf w name disk job
  running-of db job there_is runs all =
      let same : database_of h ≡ db = same_Some (database_of h) db (sym found.0 ∙ there_is) in
      let its : h.job ≡ Some job = ap (λ (d : Database). d.job) same ∙ runs in
      of-hosted job (subst (JobIs (IsCopiedJob disk h)) its (at-all (λ (x : Hosted). JobIs (IsCopiedJob disk x) x.job) hosted i h there all))

  -- one that is put
  pub put-copied : (o : Option Job) → JobIs (IsCopiedOf w name disk) o → AreCopied disk hosted → AreCopied disk (set hosted i (running o h))
  put-copied None of all = copied-set disk hosted i (running None h) refl all
  put-copied (Some job) of all = copied-job disk hosted i h job (hosted-of job of) all

-- ---- by the world alone

-- a hosted one is this database
record IsHostedAs (history : RecordLines) (disk : Disk) (db : Database) : Type 0 where
  h : Hosted
  same : database_of h ≡ db
  hosts : IsHosted history h
  copied : JobIs (IsCopiedJob disk h) h.job

hosted-as : (history : RecordLines) (disk : Disk) (hosted : List Hosted) → AllByRecursion (IsHosted history) hosted → AreCopied disk hosted → AllByRecursion (IsHostedAs history disk) (map database_of hosted)
hosted-as history disk [] hosts all = tt
hosted-as history disk (h ∷ hosted) hosts all = (record { h = h; same = refl; hosts = hosts.0; copied = all.0 }, hosted-as history disk hosted hosts.1 all.1)

-- what isn't left of a backup that runs was copied
pub copied-of : (disk : Disk) (e : Kept) (w : World) (name : List ℕ) (db : Database) (job : Job) → StandsFor disk e w → database_named w.databases name ≡ Some db → db.job ≡ Some job → IsCopiedOf w name disk job
copied-of disk e w name db job is found runs =
    let one : IsHostedAs w.history disk db = of-named (IsHostedAs w.history disk) w.databases name db (subst (AllByRecursion (IsHostedAs w.history disk)) (sym is.hosts.same) (hosted-as w.history disk is.hosted is.hosts.each is.copied)) found in
    let its : IsCopiedJob disk one.h job = subst (JobIs (IsCopiedJob disk one.h)) (ap (λ (d : Database). d.job) one.same ∙ runs) one.copied in
    let log : log_of w.history (database_of one.h) ≡ one.h.records = one.hosts.log in
    record {
      guid = its.guid;
      db = db;
      found = found;
      count = length its.extents;
      holds = subst (λ (d : Database). HoldsFront w d job.checkpoint job.left disk (staging_of job.set (length its.extents))) one.same (record {
        extents = its.extents;
        order = its.order;
        read = subst (λ (rs : List Logged). AllByRecursion (WasRead rs job.checkpoint) its.extents) (sym log) its.read;
        parts = its.parts;
      });
    }
