-- The current database, and one that is new, are found by their names.
use Rattle.std.proofs.Common.{◌≡◌, ℕ, Bool, true, false, cond, List, [], ◌∷◌, Option, Some, None, refl, ◌∙◌, ap}
use Rattle.bk_ids.specs.Name.{same_name}
use Rattle.bk_world.specs.SameLaws.{same_name-refl}
use Rattle.bk_machine.specs.World.{World, Database, current_database, current_name, database_named, database_of, with_new_database}
use Rattle.bk_machine.specs.NamedLaws.{named-own}

-- the current database is one of the databases
pub current-found : (w : World) (db : Database) → current_database w ≡ Some db → database_named w.databases db.name ≡ Some db
current-found w db e = by (current_name w) e
  where
    by : (name : Option (List ℕ)) → database_of w.databases name ≡ Some db → database_named w.databases db.name ≡ Some db
    by None e = absurd cc
    by (Some name) e = named-own w.databases name db e

-- a database that takes a place is found
pub found-new : (ds : List Database) (new : Database) → database_named (with_new_database ds new) new.name ≡ Some new
found-new [] new = ap (λ t. cond t (Some new) None) (same_name-refl new.name)
found-new (d ∷ ds) new = by (same_name d.name new.name) refl (found-new ds new)
  where
    by : (t : Bool) → same_name d.name new.name ≡ t → database_named (with_new_database ds new) new.name ≡ Some new
        → database_named (cond t (new ∷ ds) (d ∷ with_new_database ds new)) new.name ≡ Some new
    by true own rest = ap (λ t. cond t (Some new) (database_named ds new.name)) (same_name-refl new.name)
    by false own rest = ap (λ t. cond t (Some d) (database_named (with_new_database ds new) new.name)) own ∙ rest
