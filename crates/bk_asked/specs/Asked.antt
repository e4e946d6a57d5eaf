-- What is open, as it is asked for.
use Rattle.std.specs.Prelude.{ℕ, List, [], ◌∷◌, Option, None, Some}
use Rattle.bk_kept.specs.Keeps.{database_of}
use Rattle.bk_machine.specs.Checks.{lesser}
use Rattle.bk_machine.specs.World.{Database, Held}
use Rattle.bk_world.specs.declared.transaction.Open.{Open}
use Rattle.bk_asked.specs.declared.opens.Held.{Held as HeldRef}

-- the open transaction that is found
abbrev pub held_of : HeldRef → Held
held_of h = record { database = database_of h.database.now; transaction = h.transaction.now }

-- the least session of some transactions and of another one, if there is one
abbrev pub least_with : List Open → Option ℕ → Option ℕ
least_with [] other = other
least_with (t ∷ transactions) other = Some (lesser t.session (least_with transactions other))

-- the least session of all that have an open transaction in some databases
abbrev pub least_in : List Database → Option ℕ
least_in [] = None
least_in (db ∷ databases) = least_with db.transactions (least_in databases)
