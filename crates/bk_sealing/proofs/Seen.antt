-- What is seen of a database that is online.
use Rattle.std.proofs.Common.{◌≡◌, ◌∙◌, ap, subst, true, Some}
use Rattle.std.proofs.lemmas.Option.{same_Some}
use Rattle.bk_kept.specs.declared.kept.Database.{Database as KeptDatabase}
use Rattle.bk_kept.specs.Keeps.{IsSeenOf, database_of}
use Rattle.bk_machine.specs.statements.Restore.{is_online}
use Rattle.bk_machine.specs.World.{Database, World, log_of}
use Rattle.bk_shown.specs.Shown.{Shows}
use Rattle.bk_world.specs.declared.database.Status.TheVariants.{Online}

-- its log shows what the world says
pub seen-log : (w : World) (d : KeptDatabase) (db : Database) → Some (database_of d) ≡ Some db → db.status ≡ Online → IsSeenOf w.history d → Shows d.files (log_of w.history db) d.shown
unfolding log_of
seen-log w d db is online seen =
    let same : database_of d ≡ db = same_Some (database_of d) db is in
    let up : is_online d.status ≡ true = ap (λ (x : Database). is_online x.status) same ∙ ap is_online online in
    subst (λ (x : Database). Shows d.files (log_of w.history x) d.shown) same (seen up)
