-- What holds of all databases of a world holds of the current one.
use Rattle.std.proofs.Common.{◌≡◌, ℕ, List, Option, Some, None}
use Rattle.std.specs.List.{AllByRecursion}
use Rattle.bk_machine.specs.NamedLaws.{of-named}
use Rattle.bk_machine.specs.World.{World, Database, current_database, current_name, database_of}

pub of-current : (P : Database → Type 0) (w : World) (db : Database) → AllByRecursion P w.databases → current_database w ≡ Some db → P db
of-current P w db all is = by (current_name w) is
  where
    by : (name : Option (List ℕ)) → database_of w.databases name ≡ Some db → P db
    by None none = absurd cc
    by (Some name) found = of-named P w.databases name db all found
