-- What was copied of databases stays copied while other files are touched and while their logs go on.
use Rattle.std.proofs.Common.{◌≡◌, ◌∙◌, ℕ, zero, suc, List, [], ◌∷◌, ◌++◌, map, Option, Some, None, refl, sym, ap, subst, append_assoc}
use Rattle.std.proofs.lemmas.List.{append-nil}
use Rattle.std.specs.Prelude.{set, slice_get}
use Rattle.std.specs.List.{AllByRecursion, remove}
use Rattle.bk_body.specs.Body.{Extent}
use Rattle.bk_carried.specs.Copied.{WasRead}
use Rattle.bk_copying.specs.Extents.{extents_of}
use Rattle.bk_device.specs.Calls.{ChangesNothing, contents}
use Rattle.bk_device.specs.Disk.{Disk, Files}
use Rattle.bk_device.specs.Effects.{Effect, IsName}
use Rattle.bk_fields.specs.Guids.{IsGuid}
use Rattle.bk_hosted.specs.Fronts.{settling}
use Rattle.bk_hosted.specs.Hosted.{Hosted, Hosts, database_of, running, saying}
use Rattle.bk_hosted.specs.PlaceLaws.{all-removed}
use Rattle.bk_ids.specs.declared.guid.Guid.{Guid}
use Rattle.bk_kept.specs.Jobs.{IsApart}
use Rattle.bk_lemmas.specs.Lists.{all_both, all_joined, all_mapped}
use Rattle.bk_machine.specs.declared.job.Job.{Job}
use Rattle.bk_machine.specs.JobLaws.{job-none, job-on}
use Rattle.bk_machine.specs.Sound.{IsOther, JobIs}
use Rattle.bk_machine.specs.World.{Database, World}
use Rattle.bk_store.specs.Told.{data_file}
use Rattle.bk_volume.specs.GuidNames.{staging_files_differ}
use Rattle.bk_volume.specs.Names.{staging_file}
use Rattle.bk_world.specs.declared.database.FileSpec.{FileSpec}
use Rattle.bk_world.specs.declared.transaction.Open.{Open}
use Rattle.bk_world.specs.Cut.{end_behind}
use Rattle.bk_world.specs.Records.{Logged, Said, numbered}
use Rattle.bk_engine.specs.Copied.{AreCopied, GoesOn, IsCopiedJob, SparesSets}

-- ---- lists

set-all : (P : Hosted → Type 0) (hosted : List Hosted) (i : ℕ) (g : Hosted) → P g → AllByRecursion P hosted → AllByRecursion P (set hosted i g)
set-all P [] i g here all = tt
set-all P (h ∷ hosted) zero g here all = (here, all.1)
set-all P (h ∷ hosted) (suc i) g here all = (all.0, set-all P hosted i g here all.1)

pub at-all : (P : Hosted → Type 0) (hosted : List Hosted) (i : ℕ) (h : Hosted) → slice_get hosted i ≡ Some h → AllByRecursion P hosted → P h
at-all P [] i h is all = absurd cc
at-all P (x ∷ hosted) zero h is all = let same : x ≡ h = cc in subst P same all.0
at-all P (x ∷ hosted) (suc i) h is all = at-all P hosted i h is all.1

-- ---- other files are touched

file-job : (a b : Disk) (h : Hosted) (job : Job) → b.files (staging_file job.set) ≡ a.files (staging_file job.set) → IsCopiedJob a h job → IsCopiedJob b h job
file-job a b h job same is = record {
  guid = is.guid;
  extents = is.extents;
  order = is.order;
  read = is.read;
  parts = record { count = is.parts.count; size = is.parts.size; bytes = ap contents same ∙ is.parts.bytes };
}

pub copied-files : (a b : Disk) (hosted : List Hosted) → ((name : List ℕ) → b.files name ≡ a.files name) → AreCopied a hosted → AreCopied b hosted
copied-files a b hosted same all = all_mapped (λ (h : Hosted). JobIs (IsCopiedJob a h) h.job) (λ (h : Hosted). JobIs (IsCopiedJob b h) h.job) (λ h is. job-on (IsCopiedJob a h) (IsCopiedJob b h) (λ job one. file-job a b h job (same (staging_file job.set)) one) h.job is) hosted all

pub copied-nothing : (a b : Disk) (hosted : List Hosted) → ChangesNothing a b → AreCopied a hosted → AreCopied b hosted
copied-nothing a b hosted call all = copied-files a b hosted call.files all

spared-job : {own : List ℕ → Type 0} {P : Files → Type 0} (a b : Disk) (h : Hosted) (o : Option Job) → Effect own P a b → JobIs (λ (job : Job). IsGuid job.set → own (staging_file job.set) → ⊥) o → JobIs (IsCopiedJob a h) o → JobIs (IsCopiedJob b h) o
spared-job a b h None effect spares is = tt
spared-job a b h (Some job) effect spares is = file-job a b h job (effect.others (staging_file job.set) (spares is.guid)) is

pub copied-by : {own : List ℕ → Type 0} {P : Files → Type 0} (a b : Disk) (hosted : List Hosted) → SparesSets own hosted → Effect own P a b → AreCopied a hosted → AreCopied b hosted
copied-by {own = own} a b hosted spares effect all =
    all_both (λ (h : Hosted). JobIs (λ (job : Job). IsGuid job.set → own (staging_file job.set) → ⊥) h.job) (λ (h : Hosted). JobIs (IsCopiedJob a h) h.job) (λ (h : Hosted). JobIs (IsCopiedJob b h) h.job)
    (λ h one two. spared-job a b h h.job effect one two) hosted spares all

-- ---- which files are others

-- where no set that is being written has a name of the kind
pub none-spares : (own : List ℕ → Type 0) (hosted : List Hosted) → ((set : Guid) → own (staging_file set) → ⊥) → SparesSets own hosted
none-spares own [] none = tt
none-spares own (h ∷ hosted) none = (one h.job, none-spares own hosted none)
  where
    one : (o : Option Job) → JobIs (λ (job : Job). IsGuid job.set → own (staging_file job.set) → ⊥) o
    one None = tt
    one (Some job) = λ guid. none job.set

-- where no backup runs
pub idle-spares : (own : List ℕ → Type 0) (hosted : List Hosted) → AllByRecursion (λ (db : Database). db.job ≡ None) (map database_of hosted) → SparesSets own hosted
idle-spares own [] none = tt
idle-spares own (h ∷ hosted) none = (job-none (λ (job : Job). IsGuid job.set → own (staging_file job.set) → ⊥) h.job none.0, idle-spares own hosted none.1)

-- where it is the name of a set that none of these has
apart-job : (set : Guid) → IsGuid set → (o : Option Job) → ((job : Job) → o ≡ Some job → (set ≡ job.set) → ⊥) → JobIs (λ (job : Job). IsGuid job.set → IsName (staging_file set) (staging_file job.set) → ⊥) o
apart-job set guid None other = tt
apart-job set guid (Some job) other = λ its same. other job refl (staging_files_differ set job.set guid its (sym same))

apart-each : (set : Guid) (hosted : List Hosted) → IsGuid set → AllByRecursion (IsOther set) (map database_of hosted) → SparesSets (IsName (staging_file set)) hosted
apart-each set [] guid apart = tt
apart-each set (h ∷ hosted) guid apart = (apart-job set guid h.job apart.0, apart-each set hosted guid apart.1)

pub apart-spares : (w : World) (set : Guid) (hosted : List Hosted) → Hosts w hosted → IsGuid set → IsApart w set → SparesSets (IsName (staging_file set)) hosted
apart-spares w set hosted hosts guid apart = apart-each set hosted guid (subst (AllByRecursion (IsOther set)) hosts.same apart)

-- ---- logs go on

-- an extent that was read is one that was read of a longer log
pub was-later : (rs later : List Logged) (since : ℕ) (e : Extent) → WasRead rs since e → WasRead (rs ++ later) since e
was-later rs later since e is = record {
  front = is.front;
  back = is.back ++ later;
  splits = ap (λ (xs : List Logged). xs ++ later) is.splits ∙ append_assoc is.front is.back later;
  late = is.late;
  pages = is.pages;
}

on-job : (disk : Disk) (h g : Hosted) (job : Job) → GoesOn h g → IsCopiedJob disk h job → IsCopiedJob disk g job
on-job disk h g job on is = record {
  guid = is.guid;
  extents = is.extents;
  order = is.order ∙ ap (λ (files : List FileSpec). extents_of (map data_file files)) (sym on.files);
  read = subst (λ (rs : List Logged). AllByRecursion (WasRead rs job.checkpoint) is.extents) (sym on.records) (all_mapped (WasRead h.records job.checkpoint) (WasRead (h.records ++ on.later) job.checkpoint) (was-later h.records on.later job.checkpoint) is.extents is.read);
  parts = is.parts;
}

pub goes-job : (disk : Disk) (h g : Hosted) → GoesOn h g → JobIs (IsCopiedJob disk h) h.job → JobIs (IsCopiedJob disk g) g.job
goes-job disk h g on is = subst (JobIs (IsCopiedJob disk g)) (sym on.job) (job-on (IsCopiedJob disk h) (IsCopiedJob disk g) (λ job one. on-job disk h g job on one) h.job is)

-- it says something
pub goes-says : (said : List Said) (ts : List Open) (h : Hosted) → GoesOn h (saying said ts h)
goes-says said ts h = record { job = refl; files = refl; later = numbered (end_behind h.records) said; records = refl }

-- its log stays
pub goes-same : (h g : Hosted) → g.job ≡ h.job → g.spec.storage.files ≡ h.spec.storage.files → g.records ≡ h.records → GoesOn h g
goes-same h g job files records = record { job = job; files = files; later = []; records = records ∙ sym (append-nil h.records) }

-- ---- what is hosted changes

-- one goes on
pub copied-on : (disk : Disk) (hosted : List Hosted) (i : ℕ) (h g : Hosted) → slice_get hosted i ≡ Some h → GoesOn h g → AreCopied disk hosted → AreCopied disk (set hosted i g)
copied-on disk hosted i h g at on all = set-all (λ (x : Hosted). JobIs (IsCopiedJob disk x) x.job) hosted i g (goes-job disk h g on (at-all (λ (x : Hosted). JobIs (IsCopiedJob disk x) x.job) hosted i h at all)) all

-- one has a backup of which this was copied
pub copied-job : (disk : Disk) (hosted : List Hosted) (i : ℕ) (h : Hosted) (job : Job) → IsCopiedJob disk h job → AreCopied disk hosted → AreCopied disk (set hosted i (running (Some job) h))
copied-job disk hosted i h job is all = set-all (λ (x : Hosted). JobIs (IsCopiedJob disk x) x.job) hosted i (running (Some job) h) (record { guid = is.guid; extents = is.extents; order = is.order; read = is.read; parts = is.parts }) all

no-job : (disk : Disk) (g : Hosted) → g.job ≡ None → JobIs (IsCopiedJob disk g) g.job
no-job disk g none = subst (JobIs (IsCopiedJob disk g)) (sym none) tt

-- one has none
pub copied-set : (disk : Disk) (hosted : List Hosted) (i : ℕ) (g : Hosted) → g.job ≡ None → AreCopied disk hosted → AreCopied disk (set hosted i g)
copied-set disk hosted i g none all = set-all (λ (x : Hosted). JobIs (IsCopiedJob disk x) x.job) hosted i g (no-job disk g none) all

-- one more has none
pub copied-more : (disk : Disk) (hosted : List Hosted) (g : Hosted) → g.job ≡ None → AreCopied disk hosted → AreCopied disk (hosted ++ g ∷ [])
copied-more disk hosted g none all = all_joined (λ (x : Hosted). JobIs (IsCopiedJob disk x) x.job) hosted (g ∷ []) all (no-job disk g none, tt)

-- one is gone
pub copied-less : (disk : Disk) (hosted : List Hosted) (i : ℕ) → AreCopied disk hosted → AreCopied disk (remove hosted i)
copied-less disk hosted i all = all-removed (λ (x : Hosted). JobIs (IsCopiedJob disk x) x.job) hosted i all

-- none has one
pub copied-dropped : (disk : Disk) (hosted : List Hosted) → AreCopied disk (map (running None) hosted)
copied-dropped disk [] = tt
copied-dropped disk (h ∷ hosted) = (tt, copied-dropped disk hosted)

pub copied-settled : (disk : Disk) (hosted : List Hosted) → AreCopied disk (map settling hosted)
copied-settled disk [] = tt
copied-settled disk (h ∷ hosted) = (tt, copied-settled disk hosted)

-- ---- a backup starts and goes on

-- its set has no file
pub begun-job : (disk : Disk) (h : Hosted) (job : Job) → IsGuid job.set → disk.files (staging_file job.set) ≡ None → job.left ≡ extents_of (map data_file h.spec.storage.files) → IsCopiedJob disk h job
begun-job disk h job guid none left = record {
  guid = guid;
  extents = [];
  order = left;
  read = tt;
  parts = record { count = refl; size = refl; bytes = ap contents none };
}
