-- Worlds in which all is undone that was pending in another, as where a run was cut off.
-- SQL Server: "Restore and Recovery Overview", the undo phase.
use Rattle.std.specs.Prelude.{◌≡◌, ◌≢◌, ◌==◌, ◌&&◌, Bool, not, [], length, None}
use Rattle.std.specs.List.{AllZip}
use Rattle.bk_world.specs.declared.database.Status.TheVariants.{Online}
use Rattle.bk_world.specs.Cut.{end_behind, settled}
use Rattle.bk_world.specs.Lines.{RecordLines}
use Rattle.bk_world.specs.Pending.{pending}
use Rattle.bk_world.specs.Says.{settle_said}
use Rattle.bk_machine.specs.Acts.{Act, logged}
use Rattle.bk_machine.specs.Same.{SameMedia}
use Rattle.bk_machine.specs.World.{World, Database, log_of}
use Rattle.bk_machine.specs.statements.Restore.{is_online}

-- Of a database that is online all that is pending is undone at its end; another one keeps its log. Nothing is open in it, and it goes on behind its log.
pub record SettledTo (w v : World) (old new : Database) : Type 0 where
  pub same : new ≡ record old { job = None; transactions = []; end = new.end }
  pub end : new.end ≡ end_behind (log_of v.history new)
  pub online : old.status ≡ Online → log_of v.history new ≡ settled (log_of w.history old)
  pub offline : old.status ≢ Online → log_of v.history new ≡ log_of w.history old

-- a world in which all is undone that is pending in this one
pub record IsSettledTo (w v : World) : Type 0 where
  pub media : SameMedia w v
  pub databases : AllZip (SettledTo w v) w.databases v.databases

-- what is pending in a database is undone, and no transaction is open in it then
abbrev pub settles : World → Database → Act
settles w db = logged db.name (settle_said (pending (log_of w.history db))) []

-- the database behind that
abbrev pub settled_database : World → Database → Database
settled_database w db = record db { end = end_behind (settled (log_of w.history db)); transactions = [] }

-- there is something to be undone: a database that is online has an open transaction or a pending write
abbrev pub needs_settling : RecordLines → Database → Bool
needs_settling history db = is_online db.status && not (length db.transactions == 0 && length (pending (log_of history db)) == 0)
