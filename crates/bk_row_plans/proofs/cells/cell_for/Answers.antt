use Rattle.std.proofs.Common.{List, subst}
use Rattle.std.specs.Prelude.{MatchOption}
use Rattle.bk_ids.specs.declared.record.Place.{Place}
use Rattle.bk_kept.specs.Keeps.{database_of}
use Rattle.bk_machine.specs.World.{log_of}
use Rattle.bk_shown.specs.Shown.{IsFreeFor, Shows}
use Rattle.bk_world.specs.declared.database.FileSpec.{FileSpec}
use Rattle.bk_world.specs.Records.{Logged}
use Rattle.bk_row_plans.proofs.Placing.{cell-or-none, may-own, shows-of}
use Rattle.bk_kept.specs.declared.kept.Database.{Database as KeptDatabase}
use Rattle.bk_row_plans.proofs.cells.cell_for.Goals as goal

pub returns-in-Some : goal.returns-in-Some
returns-in-Some c = λ w shows there.
    let d = c.args.database.now in
    let s = shows-of w d shows in
    may-own w d c.args.table.now c.args.key there c.in-Some.place (c.in-Some.ensures w shows) (c.placed_logs.ensures.lie d.files (log_of w.history (database_of d)) d.shown.«end» s.log.counts s.log.sound s.placed)

pub returns-in-None : goal.returns-in-None
returns-in-None c = λ w shows there.
    let d = c.args.database.now in
    cell-or-none w d c.args.table.now c.args.key there c.place.result (shows-of w d shows) (c.in-None.ensures w shows)
    (subst
    (λ (x : KeptDatabase). MatchOption c.place.result ((files : List FileSpec) (rs : List Logged) → Shows files rs x.shown → (at : Place) → ¬ IsFreeFor files rs c.args.table.now.number at)
    (λ at. (files : List FileSpec) (rs : List Logged) → Shows files rs x.shown → IsFreeFor files rs c.args.table.now.number at))
    c.database.view_is c.place.ensures)
