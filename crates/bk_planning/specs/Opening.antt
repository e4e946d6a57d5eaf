-- What is open in a database behind the begin of a transaction, as it is kept.
use Rattle.std.specs.Prelude.{ℕ, List, [], ◌∷◌, ◌++◌, Option}
use Rattle.bk_ids.specs.declared.record.Mark.{Mark}
use Rattle.bk_kept.specs.declared.kept.Database.{Database as KeptDatabase}
use Rattle.bk_world.specs.declared.transaction.Open.{Open}

-- the transactions of a database with one more, which a session begins at its end
abbrev pub begun_in : KeptDatabase → ℕ → Option Mark → List Open
begun_in d session mark = d.transactions ++ (record { session = session; begin = d.shown.«end»; mark = mark }) ∷ []
