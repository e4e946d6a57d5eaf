use Rattle.std.proofs.Common.{cond, None, ap, ◌∙◌}
use Rattle.bk_world.specs.Records.{RowId, is_row}
use Rattle.bk_shown.specs.Rows.{entry_among}
use Rattle.bk_shown.proofs.MapKeys.{key_is}
use Rattle.bk_shown.proofs.rows.Rows.leave_out.Goals as goal

pub returns : goal.returns
returns c =
    let id : RowId = (c.args.table, c.args.key) in
    let values = c.self.inside.values.entries in
    λ other. c.remove-gone.ensures.updates.0 other ∙ ap (λ b. cond b None (entry_among values other)) (key_is id other)
    ∙ ap (λ vs. cond (is_row id other) None (entry_among vs other)) c.self.view_is
