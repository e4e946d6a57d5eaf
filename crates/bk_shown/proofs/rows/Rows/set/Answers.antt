use Rattle.std.proofs.Common.{◌≡◌, cond, true, Result, Ok, Err, Some, sym, ap, ◌∙◌}
use Rattle.std.specs.Prelude.{OnOk}
use Rattle.std.specs.Result.{is_ok}
use Rattle.bk_world.specs.Records.{RowId, is_row}
use Rattle.bk_shown.specs.Rows.{entry_among}
use Rattle.bk_shown.proofs.MapKeys.{key_is}
use Rattle.bk_shown.proofs.rows.Rows.set.Goals as goal

of-ok : {T E P : Type 0} (r : Result T E) → is_ok r ≡ true → OnOk r P → P
of-ok (Ok x) is p = p
of-ok (Err e) is p = absurd (cc)

pub returns-clause-sets : goal.returns-clause-sets
returns-clause-sets c = λ is other.
    let id : RowId = (c.args.table, c.args.key) in
    let values = c.self.inside.values.entries in
    let updates = of-ok c.insert.result (sym c.is_ok.ensures.value ∙ is) c.insert.ensures.updates in
    updates.0 other ∙ ap (λ b. cond b (Some c.args.value) (entry_among values other)) (key_is id other)
    ∙ ap (λ vs. cond (is_row id other) (Some c.args.value) (entry_among vs other)) c.self.view_is
