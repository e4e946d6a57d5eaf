use Rattle.std.proofs.Common.{sym, ◌∙◌, ap}
use Rattle.std.specs.List.{position}
use Rattle.bk_asked.proofs.Laying.{put-before, put-last, put-there, reaches}
use Rattle.bk_asked.proofs.sights.put_row.Goals as goal

pub returns-then-index-key : goal.returns-then-index-key
returns-then-index-key c =
    put-there c.args.rows.now.items c.in-Some.at c.args.key c.args.value c.index.result.now (ap (position (reaches c.args.key)) (sym c.deref.ensures.value) ∙ sym c.in-Some.ensures.place) c.index.ensures c.if-index-key.true

pub returns-in_ok-insert : goal.returns-in_ok-insert
returns-in_ok-insert c =
    c.in_ok-insert.ensures.items
    ∙ put-before c.args.rows.now.items c.in-Some.at c.args.key c.args.value c.index.result.now (ap (position (reaches c.args.key)) (sym c.deref.ensures.value) ∙ sym c.in-Some.ensures.place) c.index.ensures c.if-index-key.false

pub returns-in_default : goal.returns-in_default
returns-in_default c =
    c.in_ok-push.ensures.items ∙ put-last c.args.rows.now.items c.args.key c.args.value (ap (position (reaches c.args.key)) (sym c.deref.ensures.value) ∙ sym c.in_default.ensures.place)
