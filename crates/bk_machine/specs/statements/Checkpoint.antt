-- CHECKPOINT of the current database, with the transactions that are open in it. SQL Server: CHECKPOINT (Transact-SQL); "Database Checkpoints".
use Rattle.std.specs.Prelude.{◌≡◌, ℕ, Ok}
use Rattle.bk_world.specs.declared.reply.Reply.TheVariants.{Done}
use Rattle.bk_world.specs.declared.rule.Rule.TheVariants.{NoSuchDatabase}
use Rattle.bk_world.specs.Records.{checkpointed}
use Rattle.bk_world.specs.Says.{alone}
use Rattle.bk_machine.specs.Acts.{logged, said_time}
use Rattle.bk_machine.specs.Checks.{Checked, ◌>>=◌, or_refuse, online, limit, used_up}
use Rattle.bk_machine.specs.Outcome.{Outcome, in_one}
use Rattle.bk_machine.specs.World.{World, Database, current_database}

unfoldable pub check_checkpoint : World → Checked Database
check_checkpoint w = do
  current ← or_refuse (current_database w) NoSuchDatabase
  db ← online current
  _ ← limit (used_up db.end)
  Ok db

-- its transactions stay open
abbrev pub DoesCheckpoint : World → ℕ → Database → Outcome → Type 0
DoesCheckpoint w now db outcome = outcome ≡ in_one (logged db.name (alone (checkpointed (said_time w db now))) db.transactions) Done
