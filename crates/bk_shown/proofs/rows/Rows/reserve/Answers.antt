use Rattle.std.proofs.Common.{◌≡◌, cond, false, None, Some, ap, ◌∙◌, sym}
use Rattle.bk_world.specs.Records.{RowId, is_row}
use Rattle.bk_shown.specs.Rows.{entry_among, has_entry}
use Rattle.bk_shown.proofs.Entries.{reserves}
use Rattle.bk_shown.proofs.MapKeys.{key_is}
use Rattle.bk_shown.proofs.rows.Rows.reserve.Goals as goal

pub returns : goal.returns
returns c =
    let id : RowId = (c.args.table, c.args.key) in
    let values = c.self.inside.values.entries in
    let none : has_entry c.args.self.now id ≡ false = ap (λ es. has_entry es id) (sym c.self.view_is) ∙ sym c.contains_key.ensures ∙ c.if-contains_key.false in
    reserves c.args.self.now _ id none
    (λ other. c.in_ok-insert.ensures.updates.0 other ∙ ap (λ b. cond b (Some None) (entry_among values other)) (key_is id other)
    ∙ ap (λ vs. cond (is_row id other) (Some None) (entry_among vs other)) c.self.view_is)
