use Rattle.std.proofs.Common.{ap}
use Rattle.bk_kept.specs.Keeps.{database_of}
use Rattle.bk_machine.specs.World.{log_of}
use Rattle.bk_row_plans.proofs.Placing.{shows-of}
use Rattle.bk_kept.specs.declared.kept.Database.{Database as KeptDatabase}
use Rattle.bk_kept.specs.ViewsLaws.{shows-as}
use Rattle.bk_row_plans.proofs.cells.own_cell.Goals as goal

pub returns : goal.returns
returns c = λ w shows.
    let d = c.args.database.now in
    c.find.ensures d.files (log_of w.history (database_of d)) (shows-as (ap (λ (x : KeptDatabase). x.shown) c.database.view_is) (shows-of w d shows))
