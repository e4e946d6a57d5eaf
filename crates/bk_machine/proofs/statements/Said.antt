-- The world behind what a database said, where the same is pending then.
use Rattle.std.proofs.Common.{◌≡◌, ◌≤◌, ◌+◌, List, length, Option, Some, sym, ap, subst}
use Rattle.std.specs.List.{AllByRecursion}
use Rattle.bk_world.specs.declared.database.Status.TheVariants.{Online}
use Rattle.bk_world.specs.Pending.{pending}
use Rattle.bk_world.specs.Records.{Said, more, numbered}
use Rattle.bk_world.specs.Telling.{model}
use Rattle.bk_machine.specs.Acts.{done, gone_on, logged, says, where_found}
use Rattle.bk_machine.specs.Checks.{last_number}
use Rattle.bk_machine.specs.MayDo.{MayDo, MaySay}
use Rattle.bk_machine.specs.Sound.{IsSound, JobIs, LeavesStamp}
use Rattle.bk_machine.specs.UpLaws.{IsUp, UndoesNone, is-up, may-tell}
use Rattle.bk_machine.specs.declared.job.Job.{Job}
use Rattle.bk_machine.specs.World.{World, Database, database_named, log_of}
use Rattle.bk_machine.proofs.Acting.{act-sound}
use Rattle.bk_machine.proofs.ActsSays.{says-found, says-log}

-- a database may say this, which undoes nothing, the same is pending behind it, and numbers are left
pub record MayTell (w : World) (db : Database) (said : List Said) : Type 0 where
  pub may : MaySay w db said
  pub none : AllByRecursion UndoesNone (numbered db.end said)
  pub same : pending (more (log_of w.history db) db.end said) ≡ pending (log_of w.history db)
  pub left : (db.end + length said) + (length (pending (log_of w.history db)) + length db.transactions) ≤ last_number
  pub leaves : JobIs (λ (job : Job). LeavesStamp (more (log_of w.history db) db.end said) (db.end + length said) db.transactions) db.job

module _ (w : World) (db : Database) (said : List Said) (sound : IsSound w) (r : IsUp w db) (tell : MayTell w db said) where
  abbrev after : World
  after = says w db said db.transactions

  abbrev new : Database
  new = gone_on (model (log_of w.history db)) said db.transactions db

  pub may-do : MayDo w (logged db.name said db.transactions)
  may-do = may-tell w db said r tell.may tell.none tell.same tell.left tell.leaves

  pub done-is : done w (logged db.name said db.transactions) ≡ says w db said db.transactions
  unfolding done
  done-is = ap (λ (o : Option Database). where_found w o (λ d. says w d said db.transactions)) r.named

  pub sound-after : IsSound (says w db said db.transactions)
  sound-after = subst IsSound done-is (act-sound w (logged db.name said db.transactions) sound may-do)

  -- where what it said left its name and that it is online
  pub up-after : (gone_on (model (log_of w.history db)) said db.transactions db).name ≡ db.name → (gone_on (model (log_of w.history db)) said db.transactions db).status ≡ Online
      → IsUp (says w db said db.transactions) (gone_on (model (log_of w.history db)) said db.transactions db)
  up-after name up = is-up after new sound-after (subst (λ n. database_named after.databases n ≡ Some new) (sym name) (says-found w db said db.transactions sound.whole r.named tell.may)) up

  pub log-after : log_of (says w db said db.transactions).history (gone_on (model (log_of w.history db)) said db.transactions db) ≡ more (log_of w.history db) db.end said
  log-after = says-log w db said db.transactions sound.whole r.named tell.may
