use Rattle.std.proofs.Common.{sym, ◌∙◌, ap}
use Rattle.std.specs.List.{position}
use Rattle.bk_asked.proofs.Laying.{gone-at, gone-none, has_key}
use Rattle.bk_asked.proofs.sights.leave_out.Goals as goal

pub returns-in-Some : goal.returns-in-Some
returns-in-Some c =
    c.remove-gone.ensures.items ∙ gone-at c.args.rows.now.items c.in-Some.at c.args.key c.remove-gone.result (ap (position (has_key c.args.key)) (sym c.deref.ensures.value) ∙ sym c.in-Some.ensures.place)

pub returns-in-None : goal.returns-in-None
returns-in-None c = gone-none c.args.rows.now.items c.args.key (ap (position (has_key c.args.key)) (sym c.deref.ensures.value) ∙ sym c.in-None.ensures.place)
