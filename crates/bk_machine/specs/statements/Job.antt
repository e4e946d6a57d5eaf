-- The console's lines `:start`, `:step n` and `:wait`: a backup that runs while other statements are executed. All this is this project's own.
use Rattle.std.specs.Prelude.{◌≡◌, ℕ, ◌+◌, true, List, [], ◌∷◌, drop, Option, Some, None, Ok}
use Rattle.bk_world.specs.declared.header.Header.{Header}
use Rattle.bk_world.specs.declared.reply.Reply.TheVariants.{Done, Nothing, SetMade}
use Rattle.bk_world.specs.declared.rule.Rule.TheVariants.{NoJob, NoSuchDatabase}
use Rattle.bk_world.specs.Medium.{Reading, medium_at}
use Rattle.bk_world.specs.Records.{stamped}
use Rattle.bk_world.specs.Says.{alone}
use Rattle.bk_world.specs.Telling.{model}
use Rattle.bk_machine.specs.declared.history_row.HistoryRow.TheVariants as row
use Rattle.bk_machine.specs.declared.job.Job.{Job}
use Rattle.bk_machine.specs.Acts.{Act, readied, logged, set_sealed, noted, based, job_set, said_time}
use Rattle.bk_machine.specs.Checks.{Checked, ◌>>=◌, or_refuse}
use Rattle.bk_machine.specs.Outcome.{Outcome, in_one}
use Rattle.bk_machine.specs.World.{World, Database, current_database, log_of}
use Rattle.bk_machine.specs.statements.Backup.{next_position, set_header}

-- the session's next backup only starts
abbrev pub DoesStart : Outcome → Type 0
DoesStart outcome = outcome ≡ in_one (readied true) Nothing

-- a database, and the backup that runs in it
pub record Running : Type 0 where
  pub database : Database
  pub job : Job

-- that of the current database
unfoldable pub check_job : World → Checked Running
check_job w = do
  db ← or_refuse (current_database w) NoSuchDatabase
  job ← or_refuse db.job NoJob
  Ok (record { database = db; job = job })

-- so many of the extents that are left are copied
abbrev pub stepped : ℕ → Job → Job
stepped count job = record job { left = drop count job.left }

abbrev pub DoesStep : ℕ → Running → Outcome → Type 0
DoesStep count r outcome = outcome ≡ in_one (job_set r.database.name (Some (stepped count r.job))) Done

-- the rest is copied, and no backup runs any more; the stamp at its finish; the set is sealed at a position; its row of backupset; the points move
abbrev pub finishes : ℕ → Running → Header → List Act
finishes position r header =
    job_set r.database.name None
    ∷ logged r.database.name (alone (stamped header.finish header.set)) r.database.transactions
    ∷ set_sealed r.job.medium header
    ∷ noted (row.Backup (record { position = position; header = header }))
    ∷ based r.database.name header
    ∷ []

abbrev pub finished : Option Reading → Running → Header → Outcome
finished before r header = record { acts = finishes (next_position before) r header; reply = SetMade (next_position before) header.first header.checkpoint header.last }

-- its set holds the log up to the stamp, which comes at the end
unfoldable pub job_header : World → Running → ℕ → Header
job_header w r time = set_header (model (log_of w.history r.database)) r.database r.job (r.database.end + 1) time

abbrev pub DoesWait : World → ℕ → Running → Outcome → Type 0
DoesWait w now r outcome = outcome ≡ finished (medium_at w.media r.job.medium) r (job_header w r (said_time w r.database now))
