use Rattle.std.proofs.Common.{◌∙◌, ap, sym}
use Rattle.bk_world.specs.Pending.{changes_of, of_transaction}
use Rattle.bk_world.specs.Records.{RowId}
use Rattle.bk_world.specs.RowLaws.{value_behind}
use Rattle.bk_shown.specs.Rows.{value_among}
use Rattle.bk_shown.specs.Writes.{own_of, value_after}
use Rattle.bk_shown.proofs.Mirrors.{own-mirror, value-mirror}
use Rattle.bk_shown.proofs.Taken.{seen-is}
use Rattle.bk_shown.proofs.shown.Shown.seen.Goals as goal

pub returns : goal.returns
returns c = λ files rs shows.
    let id : RowId = (c.args.table, c.args.key) in
    let ws = c.args.self.now.written.items in
    c.seen_over.ensures ∙ ap (value_after id (own_of c.args.begin c.deref.result.now)) c.value.ensures
    ∙ ap (λ vs. value_after id (own_of c.args.begin vs) (value_among c.args.self.now.rows id)) c.deref.ensures.value
    ∙ value-mirror id (own_of c.args.begin ws) (value_among c.args.self.now.rows id)
    ∙ ap (λ vs. value_behind id (changes_of vs) (value_among c.args.self.now.rows id)) (own-mirror c.args.begin ws ∙ ap (of_transaction c.args.begin) shows.kept.pending)
    ∙ ap (value_behind id (changes_of (of_transaction c.args.begin _))) (shows.kept.rows id)
    ∙ sym (seen-is rs c.args.begin id)
