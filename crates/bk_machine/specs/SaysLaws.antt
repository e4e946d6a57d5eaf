-- What a database says makes of it.
use Rattle.std.proofs.Common.{◌≡◌, ℕ, List, Option, None, Some, refl, ap}
use Rattle.bk_ids.specs.declared.record.RecoveryModel.{RecoveryModel}
use Rattle.bk_world.specs.Records.{Deed, Said, database_made, table_made, begun, written, committed, rolled_back, undone, checkpointed, stamped, model_set, loaded, recovered}
use Rattle.bk_world.specs.declared.transaction.Open.{Open}
use Rattle.bk_machine.specs.Acts.{done, logged, pointed_by, says, where_found}
use Rattle.bk_machine.specs.MayDo.{HoldsOf}
use Rattle.bk_machine.specs.World.{Database, World, database_named}

-- the act that says it, where the database is there
pub done-says : (w : World) (name : List ℕ) (db : Database) (said : List Said) (transactions : List Open) → database_named w.databases name ≡ Some db
    → done w (logged name said transactions) ≡ says w db said transactions
unfolding done
done-says w name db said transactions there = ap (λ (o : Option Database). where_found w o (λ d. says w d said transactions)) there

-- a record moves no other points than the checkpoint and the kept point
pub point-over : (m : RecoveryModel) (db : Database) (n : ℕ) (deed : Deed) (kept checkpoint : ℕ)
    → record (pointed_by m db n deed) { kept = kept; checkpoint = checkpoint } ≡ record db { kept = kept; checkpoint = checkpoint }
point-over m db n (database_made time family branch) kept checkpoint = refl
point-over m db n (table_made time spec) kept checkpoint = refl
point-over m db n begun kept checkpoint = refl
point-over m db n (written at before c) kept checkpoint = refl
point-over m db n (committed time mark) kept checkpoint = refl
point-over m db n rolled_back kept checkpoint = refl
point-over m db n (undone at c number) kept checkpoint = refl
point-over m db n (checkpointed time) kept checkpoint = refl
point-over m db n (stamped time set) kept checkpoint = refl
point-over m db n (model_set time new) kept checkpoint = refl
point-over m db n (loaded load) kept checkpoint = refl
point-over m db n (recovered branch) kept checkpoint = refl

-- what follows for each database holds of the one of a name
pub holds-more : (found : Option Database) (P Q : Database → Type 0) → ((db : Database) → P db → Q db) → HoldsOf found P → HoldsOf found Q
holds-more None P Q more holds = holds
holds-more (Some db) P Q more holds = more db holds
