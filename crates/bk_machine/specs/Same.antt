-- Worlds with the same databases and logs, and with the same media.
use Rattle.std.specs.Prelude.{◌≡◌, ℕ, List}
use Rattle.std.specs.List.{AllByRecursion}
use Rattle.bk_world.specs.declared.header.Header.{Header}
use Rattle.bk_world.specs.Lines.{log_below}
use Rattle.bk_machine.specs.Sound.{SetIn}
use Rattle.bk_machine.specs.World.{World, Database, log_of}

-- databases are the same, and so are their logs
pub record SameLogs (old new : World) : Type 0 where
  pub databases : new.databases ≡ old.databases
  pub logs : AllByRecursion (λ (db : Database). log_of new.history db ≡ log_of old.history db) old.databases

-- they are of one instance, media are the same, and each set on them reads the same
pub record SameMedia (old new : World) : Type 0 where
  pub instance : new.instance ≡ old.instance
  pub media : new.media ≡ old.media
  pub reads : (path : List ℕ) (header : Header) → SetIn old path header → log_below new.history header.path header.last ≡ log_below old.history header.path header.last
