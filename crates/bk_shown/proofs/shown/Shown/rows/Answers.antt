use Rattle.std.proofs.Common.{◌∙◌}
use Rattle.bk_world.specs.RowLaws.{rise-rows}
use Rattle.bk_world.specs.Telling as telling
use Rattle.bk_shown.proofs.Listing.{one-list}
use Rattle.bk_shown.proofs.shown.Shown.rows.Goals as goal

pub returns : goal.returns
returns c = λ files rs shows.
    one-list c.in_ok-listed.listed.items (telling.rows rs c.args.table) c.in_ok-listed.ensures.rise (rise-rows rs c.args.table)
    (λ key. c.in_ok-listed.ensures.rows key ∙ shows.kept.rows (c.args.table, key))
