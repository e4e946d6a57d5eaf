-- What is proved of what each statement comes to, and that each comes to something.
use Rattle.std.proofs.Common.{◌≡◌, inl, inr, ℕ, List, Option, refl}
use Rattle.bk_items.specs.declared.item.ScriptEntry.{ScriptEntry}
use Rattle.bk_items.specs.declared.item.ScriptItem.{ScriptItem}
use Rattle.bk_items.specs.declared.item.ScriptItem.TheVariants.{CreateDatabase, BackupDatabase, BackupLog, RestoreDatabase, RestoreLog, QueryMedium, CreateTable, Rows, Begin, Commit, Rollback, Checkpoint, Use, SetRecovery, DropDatabase, SelectCatalog, Session, Start, Step, Wait, Syntax, TooLong}
use Rattle.bk_world.specs.declared.reply.Reply.TheVariants.{Done, Listed}
use Rattle.bk_machine.specs.Acts.{dropped, turned}
use Rattle.bk_machine.specs.Built.{IsBuilt, SayNoLoad}
use Rattle.bk_machine.specs.CheckLaws.{comes-to}
use Rattle.bk_machine.specs.Machine.{ItemMay, May}
use Rattle.bk_machine.specs.MayDo.{MayDoAll}
use Rattle.bk_machine.specs.Outcome.{Outcome, in_one}
use Rattle.bk_machine.specs.Sound.{IsSound}
use Rattle.bk_machine.specs.World.{World}
use Rattle.bk_machine.specs.Writes.{StatementWrites, JobWrites, current_job}
use Rattle.bk_machine.specs.statements.CreateDatabase.{check_create_database, DoesCreateDatabase}
use Rattle.bk_machine.specs.statements.DropDatabase.{check_drop_database, DoesDropDatabase}
use Rattle.bk_machine.specs.statements.Use.{check_use, DoesUse}
use Rattle.bk_machine.specs.statements.CreateTable.{check_create_table, DoesCreateTable}
use Rattle.bk_machine.specs.statements.Begin.{check_begin, mark_of, DoesBegin}
use Rattle.bk_machine.specs.statements.Commit.{check_commit, DoesCommit}
use Rattle.bk_machine.specs.statements.Rollback.{check_rollback, DoesRollback}
use Rattle.bk_machine.specs.statements.Session.{check_session, DoesSession}
use Rattle.bk_machine.specs.statements.Checkpoint.{check_checkpoint, DoesCheckpoint}
use Rattle.bk_machine.specs.statements.Backup.{check_backup, DoesBackup}
use Rattle.bk_machine.specs.statements.Restore.{check_restore, DoesRestore}
use Rattle.bk_machine.specs.statements.Catalog.{check_catalog, DoesSelectCatalog}
use Rattle.bk_machine.specs.statements.Job.{check_job, DoesStep, DoesWait}
use Rattle.bk_machine.specs.statements.Query.{check_query, DoesQuery}
use Rattle.bk_machine.proofs.statements.Backup as backup
use Rattle.bk_machine.proofs.statements.Checkpoint as checkpoint
use Rattle.bk_machine.proofs.statements.CreateDatabase as create_database
use Rattle.bk_machine.proofs.statements.CreateTable as create_table
use Rattle.bk_machine.proofs.statements.Facts.{Facts, GoWell, NoMedium, comes-by, facts-answered, facts-of, facts-refused}
use Rattle.bk_machine.proofs.statements.Job as job
use Rattle.bk_machine.proofs.statements.Restore as restore
use Rattle.bk_machine.proofs.statements.Rows as rows
use Rattle.bk_machine.proofs.statements.Transactions.{begin-facts, commit-facts, rollback-facts, session-facts}

-- ---- what is proved of each

drop-facts : (w : World) (name : List ℕ) → Facts w NoMedium (in_one (dropped name) Done)
drop-facts w name = record { writes = (tt, tt); refused = λ rule no. absurd cc; well = λ sound. record { may = (tt, tt); opens = (tt, tt); own = (tt, tt); numbers = (tt, tt); ends = inr (inl (dropped name, tt, refl)); plain = λ built. (tt, tt) } }

turn-facts : (w : World) (name : Option (List ℕ)) → Facts w NoMedium (in_one (turned name) Done)
turn-facts w name = record { writes = (tt, tt); refused = λ rule no. absurd cc; well = λ sound. record { may = (tt, tt); opens = (tt, tt); own = (tt, tt); numbers = (tt, tt); ends = inl (tt, tt); plain = λ built. (tt, tt) } }

module _ (w : World) where
  item-facts : (line : ℕ) (item : ScriptItem) (now : ℕ) (outcome : Outcome) → ItemMay w line item now outcome → Facts w (StatementWrites w item) outcome
  item-facts line (CreateDatabase name primary groups log) now = comes-to (Facts w NoMedium) (check_create_database w line name primary groups log) (DoesCreateDatabase w name now) (facts-refused w)
      (create_database.facts w line name primary groups log now)
  item-facts line (DropDatabase name) now = comes-to (Facts w NoMedium) (check_drop_database w name) DoesDropDatabase (facts-refused w) (λ db e o is. facts-of w _ o is (drop-facts w db.name))
  item-facts line (Use name) now = comes-to (Facts w NoMedium) (check_use w name) DoesUse (facts-refused w) (λ found e o is. facts-of w _ o is (turn-facts w found))
  item-facts line (CreateTable name group) now = comes-to (Facts w NoMedium) (check_create_table w line name group) (DoesCreateTable w name now) (facts-refused w) (create_table.facts w line name group now)
  item-facts line (Rows table statement) now = rows.facts w line table statement now
  item-facts line (BackupDatabase name units disk options) now = comes-to (Facts w (λ path. path ≡ disk)) (check_backup w line name units disk options) (DoesBackup w disk options now) (facts-refused w)
      (backup.facts w line name units disk options now)
  item-facts line (RestoreDatabase name units disk options) now = comes-to (Facts w NoMedium) (check_restore w line name units disk options) (DoesRestore w name options now) (facts-refused w)
      (λ header e. restore.facts w line name units disk options header e now)
  item-facts line (BackupLog name disk options) now = λ outcome is. facts-of w _ outcome is (facts-refused w _)
  item-facts line (RestoreLog name disk options) now = λ outcome is. facts-of w _ outcome is (facts-refused w _)
  item-facts line (QueryMedium query disk file) now = comes-to (Facts w NoMedium) (check_query w line query disk file) DoesQuery (facts-refused w) (λ reply e o is. facts-of w _ o is (facts-answered w reply))
  item-facts line (Begin transaction) now = comes-to (Facts w NoMedium) (check_begin w line transaction) (DoesBegin w (mark_of transaction)) (facts-refused w) (begin-facts w line transaction (mark_of transaction))
  item-facts line Commit now = comes-to (Facts w NoMedium) (check_commit w) (DoesCommit w now) (facts-refused w) (commit-facts w now)
  item-facts line Rollback now = comes-to (Facts w NoMedium) (check_rollback w) (DoesRollback w) (facts-refused w) (rollback-facts w)
  item-facts line Checkpoint now = comes-to (Facts w NoMedium) (check_checkpoint w) (DoesCheckpoint w now) (facts-refused w) (checkpoint.facts w now)
  item-facts line (SetRecovery name model) now = λ outcome is. facts-of w _ outcome is (facts-refused w _)
  item-facts line (SelectCatalog catalog) now = comes-to (Facts w NoMedium) (check_catalog w line catalog) DoesSelectCatalog (facts-refused w) (λ listing e o is. facts-of w _ o is (facts-answered w (Listed listing)))
  item-facts line (Session number) now = comes-to (Facts w NoMedium) (check_session line number) DoesSession (facts-refused w) (session-facts w line number)
  item-facts line Start now = job.start-facts w
  item-facts line (Step count) now = comes-to (Facts w NoMedium) (check_job w) (DoesStep count) (facts-refused w) (job.step-facts w count)
  item-facts line Wait now = comes-to (Facts w (JobWrites (current_job w))) (check_job w) (DoesWait w now) (facts-refused w) (job.wait-facts w now)
  item-facts line (Syntax at) now = λ outcome is. facts-of w _ outcome is (facts-refused w _)
  item-facts line TooLong now = λ outcome is. facts-of w _ outcome is (facts-refused w _)

  pub statement-facts : (s : ScriptEntry) (now : ℕ) (outcome : Outcome) → May w s now outcome → Facts w (StatementWrites w s.item) outcome
  unfolding May
  statement-facts s now outcome may = item-facts s.line s.item now outcome may

module _ (w : World) (sound : IsSound w) where
  pub statement-goes : (s : ScriptEntry) (now : ℕ) (outcome : Outcome) → May w s now outcome → GoWell w outcome.acts
  statement-goes s now outcome may = (statement-facts w s now outcome may).well sound

  pub statement-does : (s : ScriptEntry) (now : ℕ) (outcome : Outcome) → May w s now outcome → MayDoAll w outcome.acts
  statement-does s now outcome may = (statement-goes s now outcome may).may

-- ---- that each comes to something

module _ (w : World) (sound : IsSound w) (built : IsBuilt w) where
  pub statement-plain : (s : ScriptEntry) (now : ℕ) (outcome : Outcome) → May w s now outcome → SayNoLoad w outcome.acts
  statement-plain s now outcome may = (statement-goes w sound s now outcome may).plain built

  item-comes : (line : ℕ) (item : ScriptItem) (now : ℕ) → (outcome : Outcome) × ItemMay w line item now outcome
  item-comes line (CreateDatabase name primary groups log) now = comes-by (check_create_database w line name primary groups log) (DoesCreateDatabase w name now) (λ found e. (_, refl))
  item-comes line (DropDatabase name) now = comes-by (check_drop_database w name) DoesDropDatabase (λ found e. (_, refl))
  item-comes line (Use name) now = comes-by (check_use w name) DoesUse (λ found e. (_, refl))
  item-comes line (CreateTable name group) now = comes-by (check_create_table w line name group) (DoesCreateTable w name now) (λ found e. (_, refl))
  item-comes line (Rows table statement) now = rows.comes w line table statement now sound built
  item-comes line (BackupDatabase name units disk options) now = comes-by (check_backup w line name units disk options) (DoesBackup w disk options now) (λ found e. (_, refl))
  item-comes line (RestoreDatabase name units disk options) now = comes-by (check_restore w line name units disk options) (DoesRestore w name options now)
      (λ header e. restore.comes w line name units disk options header e now sound built)
  item-comes line (BackupLog name disk options) now = (_, refl)
  item-comes line (RestoreLog name disk options) now = (_, refl)
  item-comes line (QueryMedium query disk file) now = comes-by (check_query w line query disk file) DoesQuery (λ found e. (_, refl))
  item-comes line (Begin transaction) now = comes-by (check_begin w line transaction) (DoesBegin w (mark_of transaction)) (λ found e. (_, refl))
  item-comes line Commit now = comes-by (check_commit w) (DoesCommit w now) (λ found e. (_, refl))
  item-comes line Rollback now = comes-by (check_rollback w) (DoesRollback w) (λ found e. (_, refl))
  item-comes line Checkpoint now = comes-by (check_checkpoint w) (DoesCheckpoint w now) (λ found e. (_, refl))
  item-comes line (SetRecovery name model) now = (_, refl)
  item-comes line (SelectCatalog catalog) now = comes-by (check_catalog w line catalog) DoesSelectCatalog (λ found e. (_, refl))
  item-comes line (Session number) now = comes-by (check_session line number) DoesSession (λ found e. (_, refl))
  item-comes line Start now = (_, refl)
  item-comes line (Step count) now = comes-by (check_job w) (DoesStep count) (λ found e. (_, refl))
  item-comes line Wait now = comes-by (check_job w) (DoesWait w now) (λ found e. (_, refl))
  item-comes line (Syntax there) now = (_, refl)
  item-comes line TooLong now = (_, refl)

  pub statement-comes : (s : ScriptEntry) (now : ℕ) → (outcome : Outcome) × May w s now outcome
  unfolding May
  statement-comes s now = item-comes s.line s.item now
