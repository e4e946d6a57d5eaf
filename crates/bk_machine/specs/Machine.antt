-- The machine: what each statement of a script may come to.
use Rattle.std.specs.Prelude.{◌≡◌, ℕ}
use Rattle.bk_items.specs.declared.item.ScriptEntry.{ScriptEntry}
use Rattle.bk_items.specs.declared.item.ScriptItem.{ScriptItem}
use Rattle.bk_items.specs.declared.item.ScriptItem.TheVariants.{CreateDatabase, DropDatabase, Use, CreateTable, Rows, BackupDatabase, RestoreDatabase, QueryMedium, Begin, Commit, Rollback, Checkpoint, SelectCatalog, Session, Start, Step, Wait, Syntax, TooLong}
use Rattle.bk_world.specs.declared.rule.Rule.TheVariants as rule
use Rattle.bk_world.specs.declared.rule.Rule.TheVariants.{NotBuilt}
use Rattle.bk_machine.specs.Acts.{done_all}
use Rattle.bk_machine.specs.Outcome.{Outcome, ComesTo, refused}
use Rattle.bk_machine.specs.World.{World}
use Rattle.bk_machine.specs.statements.CreateDatabase.{check_create_database, DoesCreateDatabase}
use Rattle.bk_machine.specs.statements.DropDatabase.{check_drop_database, DoesDropDatabase}
use Rattle.bk_machine.specs.statements.Use.{check_use, DoesUse}
use Rattle.bk_machine.specs.statements.CreateTable.{check_create_table, DoesCreateTable}
use Rattle.bk_machine.specs.statements.Rows.{RowsMay}
use Rattle.bk_machine.specs.statements.Begin.{check_begin, mark_of, DoesBegin}
use Rattle.bk_machine.specs.statements.Commit.{check_commit, DoesCommit}
use Rattle.bk_machine.specs.statements.Rollback.{check_rollback, DoesRollback}
use Rattle.bk_machine.specs.statements.Session.{check_session, DoesSession}
use Rattle.bk_machine.specs.statements.Checkpoint.{check_checkpoint, DoesCheckpoint}
use Rattle.bk_machine.specs.statements.Backup.{check_backup, DoesBackup}
use Rattle.bk_machine.specs.statements.Job.{check_job, DoesStart, DoesStep, DoesWait}
use Rattle.bk_machine.specs.statements.Restore.{check_restore, DoesRestore}
use Rattle.bk_machine.specs.statements.Catalog.{check_catalog, DoesSelectCatalog}
use Rattle.bk_machine.specs.statements.Query.{check_query, DoesQuery}

-- what an item on this line may come to at a moment
abbrev pub ItemMay : World → ℕ → ScriptItem → ℕ → Outcome → Type 0
ItemMay w line (CreateDatabase name primary groups log) now = ComesTo (check_create_database w line name primary groups log) (DoesCreateDatabase w name now)
ItemMay w line (DropDatabase name) now = ComesTo (check_drop_database w name) DoesDropDatabase
ItemMay w line (Use name) now = ComesTo (check_use w name) DoesUse
ItemMay w line (CreateTable name group) now = ComesTo (check_create_table w line name group) (DoesCreateTable w name now)
ItemMay w line (Rows table statement) now = RowsMay w line table statement now
ItemMay w line (BackupDatabase name units disk options) now = ComesTo (check_backup w line name units disk options) (DoesBackup w disk options now)
ItemMay w line (RestoreDatabase name units disk options) now = ComesTo (check_restore w line name units disk options) (DoesRestore w name options now)
ItemMay w line (QueryMedium query disk file) now = ComesTo (check_query w line query disk file) DoesQuery
ItemMay w line (Begin transaction) now = ComesTo (check_begin w line transaction) (DoesBegin w (mark_of transaction))
ItemMay w line Commit now = ComesTo (check_commit w) (DoesCommit w now)
ItemMay w line Rollback now = ComesTo (check_rollback w) (DoesRollback w)
ItemMay w line Checkpoint now = ComesTo (check_checkpoint w) (DoesCheckpoint w now)
ItemMay w line (SelectCatalog catalog) now = ComesTo (check_catalog w line catalog) DoesSelectCatalog
ItemMay w line (Session number) now = ComesTo (check_session line number) DoesSession
ItemMay w line Start now = DoesStart
ItemMay w line (Step count) now = ComesTo (check_job w) (DoesStep count)
ItemMay w line Wait now = ComesTo (check_job w) (DoesWait w now)
ItemMay w line (Syntax there) now = λ outcome. outcome ≡ refused (rule.Syntax there)
ItemMay w line TooLong now = λ outcome. outcome ≡ refused rule.TooLong
ItemMay w line _ now = λ outcome. outcome ≡ refused (NotBuilt line)

-- what a statement may come to
unfoldable pub May : World → ScriptEntry → ℕ → Outcome → Type 0
May w s now outcome = ItemMay w s.line s.item now outcome

-- the world behind an outcome
abbrev pub behind : World → Outcome → World
behind w outcome = done_all w outcome.acts
