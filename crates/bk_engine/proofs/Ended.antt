-- The world behind the end of a backup that ran: no other one has its set.
use Rattle.std.proofs.Common.{◌≡◌, ◌∙◌, ℕ, List, [], ◌∷◌, ◌++◌, map, Option, Some, None, sym, ap, subst}
use Rattle.std.proofs.lemmas.Option.{same_Some}
use Rattle.std.specs.List.{AllByRecursion}
use Rattle.bk_copying.specs.Extents.{extents_of}
use Rattle.bk_device.specs.Disk.{Disk}
use Rattle.bk_ids.specs.declared.guid.Guid.{Guid}
use Rattle.bk_ids.specs.declared.record.Rec.{Rec}
use Rattle.bk_ids.specs.declared.record.RecoveryModel.{RecoveryModel}
use Rattle.bk_ids.specs.Name.{lowered}
use Rattle.bk_kept.specs.Jobs.{IsApart}
use Rattle.bk_machine.specs.Acts.{done, done_all, gone_on, job_set, pointed_by, says, with_job}
use Rattle.bk_machine.specs.declared.job.Job.{Job}
use Rattle.bk_machine.specs.MayDo.{HoldsOf, MayLog, MaySay}
use Rattle.bk_machine.specs.NamedLaws.{all-changed, all-with, name-of-named, named-alike, named-changed, named-own}
use Rattle.bk_machine.specs.SaysLaws.{done-says, point-over}
use Rattle.bk_machine.specs.Sound.{AreDifferent, IsOther, IsSound, IsWhole}
use Rattle.bk_machine.specs.World.{Database, World, database_named, log_of, with_database}
use Rattle.bk_store.specs.Told.{data_file}
use Rattle.bk_carried.specs.Copied.{WasRead}
use Rattle.bk_device.specs.Calls.{contents}
use Rattle.bk_lemmas.specs.Lists.{all_mapped}
use Rattle.bk_volume.specs.Names.{staging_file}
use Rattle.bk_world.specs.declared.database.Status.TheVariants.{Online}
use Rattle.bk_world.specs.declared.transaction.Open.{Open}
use Rattle.bk_world.specs.declared.database.FileSpec.{FileSpec}
use Rattle.bk_world.specs.Records.{Deed, Logged, Said, more, numbered}
use Rattle.bk_world.specs.Telling.{model}
use Rattle.bk_engine.specs.Copied.{staging_of}
use Rattle.bk_engine.specs.CopiedLaws.{was-later}
use Rattle.bk_engine.specs.Copying.{HoldsFront, IsCopiedOf}
use Rattle.bk_engine.specs.Jobs.{EndsSet, ending}

-- ---- a record that is said

job-stays : (m : RecoveryModel) (db : Database) (n : ℕ) (deed : Deed) → (pointed_by m db n deed).job ≡ db.job
job-stays m db n deed = ap (λ (d : Database). d.job) (point-over m db n deed 0 0)

status-stays : (m : RecoveryModel) (db : Database) (n : ℕ) (deed : Deed) → (pointed_by m db n deed).status ≡ db.status
status-stays m db n deed = ap (λ (d : Database). d.status) (point-over m db n deed 0 0)

name-stays : (m : RecoveryModel) (db : Database) (n : ℕ) (deed : Deed) → (pointed_by m db n deed).name ≡ db.name
name-stays m db n deed = ap (λ (d : Database). d.name) (point-over m db n deed 0 0)

files-stay : (m : RecoveryModel) (db : Database) (n : ℕ) (deed : Deed) → (pointed_by m db n deed).files ≡ db.files
files-stay m db n deed = ap (λ (d : Database). d.files) (point-over m db n deed 0 0)

-- what is said comes last
abbrev pub SaysLast : Type 0
SaysLast = (w : World) (name : List ℕ) (db : Database) (said : List Said) (transactions : List Open) → IsWhole w → database_named w.databases name ≡ Some db → MaySay w db said
    → log_of (says w db said transactions).history (gone_on (model (log_of w.history db)) said transactions db) ≡ more (log_of w.history db) db.end said

-- ---- sets of others

-- the backup that ran is the only one with its set
pub stopped-apart : (dbs : List Database) (name : List ℕ) (db : Database) (job : Job) → AreDifferent dbs → database_named dbs name ≡ Some db → db.job ≡ Some job → AllByRecursion (IsOther job.set) (with_database dbs name (with_job None))
stopped-apart dbs name db job different found runs =
    all-changed (λ (o : Database). Unit {0}) (IsOther job.set) dbs name db (with_job None) (any dbs) different found (λ any other has. let wrong : None ≡ Some other = has in absurd cc) (λ o any differ. differ.sets job runs)
  where
    any : (ds : List Database) → AllByRecursion (λ (o : Database). Unit {0}) ds
    any [] = tt
    any (d ∷ ds) = (tt, any ds)

-- what a database says leaves all backups
said-apart : (set : Guid) (m : RecoveryModel) (stamp : Said) (ts : List Open) (dbs : List Database) (name : List ℕ) → AllByRecursion (IsOther set) dbs → AllByRecursion (IsOther set) (with_database dbs name (gone_on m (stamp ∷ []) ts))
said-apart set m stamp ts dbs name all = all-with (IsOther set) (IsOther set) dbs name (gone_on m (stamp ∷ []) ts) all (λ o other job has. other job (sym (job-stays m o o.end stamp.deed) ∙ has)) (λ o other. other)

module _ (w : World) (name : List ℕ) (job : Job) (stamp : Said) (ts : List Open) (records : List Rec) (is : EndsSet w name job stamp ts records) where
  abbrev mid : World
  mid = done w (job_set name None)

  abbrev end : World
  end = done_all w (ending name stamp ts)

  -- the database that says the stamp
  abbrev told : Database
  told = is.says.db

  end-is : end ≡ says mid told (stamp ∷ []) ts
  end-is = done-says mid name told (stamp ∷ []) ts is.says.found

  mid-apart : IsSound w → AllByRecursion (IsOther job.set) mid.databases
  unfolding done
  mid-apart sound = stopped-apart w.databases name is.db job sound.whole.different is.found is.runs

  said-rest : AllByRecursion (IsOther job.set) mid.databases → AllByRecursion (IsOther job.set) (says mid told (stamp ∷ []) ts).databases
  unfolding says
  said-rest all = said-apart job.set (model (log_of mid.history told)) stamp ts mid.databases told.name all

  pub ended-apart : IsSound w → IsApart end job.set
  ended-apart sound = subst (λ (v : World). IsApart v job.set) (sym end-is) (said-rest (mid-apart sound))

  -- it is online
  said-online : told.status ≡ Online
  said-online =
      let log : MayLog mid told (stamp ∷ []) ts = subst (λ (o : Option Database). HoldsOf o (λ db. MayLog mid db (stamp ∷ []) ts)) is.says.found is.says.may in
      log.says.online

  named-then : (db : Database) → database_named (says mid told (stamp ∷ []) ts).databases name ≡ Some db → gone_on (model (log_of mid.history told)) (stamp ∷ []) ts told ≡ db
  unfolding says
  named-then db found =
      let change : Database → Database = gone_on (model (log_of mid.history told)) (stamp ∷ []) ts in
      let own = named-own mid.databases name told is.says.found in
      let same = name-of-named mid.databases name told is.says.found in
      let there : database_named (with_database mid.databases told.name change) told.name ≡ Some (change told) =
      named-changed mid.databases told.name told change (ap lowered (name-stays (model (log_of mid.history told)) told told.end stamp.deed)) own in
      same_Some (change told) db (sym there ∙ named-alike (with_database mid.databases told.name change) told.name name same ∙ found)

  pub ended-online : (db : Database) → database_named end.databases name ≡ Some db → db.status ≡ Online
  ended-online db found =
      let then : gone_on (model (log_of mid.history told)) (stamp ∷ []) ts told ≡ db = named-then db (subst (λ (v : World). database_named v.databases name ≡ Some db) end-is found) in
      sym (ap (λ (d : Database). d.status) then) ∙ status-stays (model (log_of mid.history told)) told told.end stamp.deed ∙ said-online

  -- what wasn't left was copied, of the database as it is behind the stamp
  pub ended-front : SaysLast → IsSound mid → (a b : Disk) → b.files (staging_file job.set) ≡ a.files (staging_file job.set) → (of : IsCopiedOf mid name a job) → (db : Database) → database_named end.databases name ≡ Some db
      → HoldsFront end db job.checkpoint job.left b (staging_of job.set of.count)
  ended-front last sound a b same of db found =
      let m : RecoveryModel = model (log_of mid.history told) in
      let log : MayLog mid told (stamp ∷ []) ts = subst (λ (o : Option Database). HoldsOf o (λ d. MayLog mid d (stamp ∷ []) ts)) is.says.found is.says.may in
      let then : gone_on m (stamp ∷ []) ts told ≡ db = named-then db (subst (λ (v : World). database_named v.databases name ≡ Some db) end-is found) in
      let its : of.db ≡ told = same_Some of.db told (sym of.found ∙ is.says.found) in
      let files : of.db.files ≡ db.files = ap (λ (d : Database). d.files) its ∙ sym (files-stay m told told.end stamp.deed) ∙ ap (λ (d : Database). d.files) then in
      let told_log : log_of (says mid told (stamp ∷ []) ts).history (gone_on m (stamp ∷ []) ts told) ≡ log_of mid.history told ++ numbered told.end (stamp ∷ []) = last mid name told (stamp ∷ []) ts sound.whole is.says.found log.says in
      let its_log : log_of end.history db ≡ log_of mid.history of.db ++ numbered told.end (stamp ∷ []) =
      ap (λ (v : World). log_of v.history db) end-is ∙ ap (λ (d : Database). log_of (says mid told (stamp ∷ []) ts).history d) (sym then) ∙ told_log ∙ ap (λ (d : Database). log_of mid.history d ++ numbered told.end (stamp ∷ [])) (sym its) in
      record {
        extents = of.holds.extents;
        order = of.holds.order ∙ ap (λ (fs : List FileSpec). extents_of (map data_file fs)) files;
        read = subst (λ (rs : List Logged). AllByRecursion (WasRead rs job.checkpoint) of.holds.extents) (sym its_log)
            (all_mapped (WasRead (log_of mid.history of.db) job.checkpoint) (WasRead (log_of mid.history of.db ++ numbered told.end (stamp ∷ [])) job.checkpoint) (was-later (log_of mid.history of.db) (numbered told.end (stamp ∷ [])) job.checkpoint) of.holds.extents of.holds.read);
        parts = record { count = of.holds.parts.count; size = of.holds.parts.size; bytes = ap contents same ∙ of.holds.parts.bytes };
      }
