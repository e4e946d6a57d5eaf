-- What is kept of a database's log is what the log tells.
use Rattle.std.proofs.Common.{◌≡◌, ℕ, cond, List, [], ◌∷◌, Some, refl, sym, ap}
use Rattle.std.specs.List.{find}
use Rattle.bk_ids.specs.Name.{same_name}
use Rattle.bk_ids.specs.declared.record.RecoveryModel.{RecoveryModel}
use Rattle.bk_machine.specs.Checks.{table_named}
use Rattle.bk_machine.specs.Seen.{tables_in}
use Rattle.bk_machine.specs.World.{World, log_of}
use Rattle.bk_shown.specs.Shown.{Shows}
use Rattle.bk_world.specs.declared.database.TableSpec.{TableSpec}
use Rattle.bk_world.specs.Records.{Logged}
use Rattle.bk_world.specs.Telling.{model, tables}
use Rattle.bk_kept.specs.declared.kept.Database.{Database as KeptDatabase}
use Rattle.bk_kept.specs.Keeps.{ShowsLog, database_of}

pub tables-are : (w : World) (d : KeptDatabase) (found : List TableSpec) → ((rs : List Logged) → Shows d.files rs d.shown → found ≡ tables rs) → ShowsLog w.history d
    → tables_in w (database_of d) ≡ found
unfolding tables_in log_of
tables-are w d found is shows = sym (is _ shows)

-- the first of a name, as a search
pub first-table : (name : List ℕ) (made : List TableSpec) → find (λ t. same_name t.name name) made ≡ table_named made name
first-table name [] = refl
first-table name (t ∷ made) = ap (cond (same_name t.name name) (Some t)) (first-table name made)

pub model-is : (w : World) (d : KeptDatabase) (found : RecoveryModel) → ((rs : List Logged) → Shows d.files rs d.shown → found ≡ model rs) → ShowsLog w.history d
    → found ≡ model (log_of w.history (database_of d))
unfolding log_of
model-is w d found is shows = is _ shows
