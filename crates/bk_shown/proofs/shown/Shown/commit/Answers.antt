use Rattle.std.proofs.Common.{refl, sym, ◌∙◌, ap}
use Rattle.bk_shown.specs.Writes.{others_of}
use Rattle.bk_shown.proofs.Moves.{commits}
use Rattle.bk_shown.proofs.shown.Shown.commit.Goals as goal

pub returns-clause-ok : goal.returns-clause-ok
returns-clause-ok c =
    commits c.args.begin c.args.self.now _ c.move_all.new.rows c.deref.result.now (record { tables = refl; model = refl; time = refl; «end» = refl })
    (c.deref.ensures.value ∙ c.move_all.ensures.spent c.if-not-move_all.false) (c.move_all.ensures.moved c.if-not-move_all.false) c.let_all_go.ensures.groups c.let_all_go.ensures.rows
    (c.drop_own.ensures ∙ ap (others_of c.args.begin) (sym c.deref.ensures.value))
