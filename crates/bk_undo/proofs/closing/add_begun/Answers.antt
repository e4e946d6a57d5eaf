use Rattle.std.proofs.Common.{List, ℕ, sym, subst}
use Rattle.bk_undo.proofs.Covered.{covers-more}
use Rattle.bk_undo.specs.OpenPart.{Covers}
use Rattle.bk_undo.proofs.closing.add_begun.Goals as goal

pub returns-clause-covers : goal.returns-clause-covers
returns-clause-covers c ws covers = subst (λ (begun : List ℕ). Covers begun ws) (sym c.in_ok-push.ensures.items) (covers-more c.args.begun.now.items c.args.begin ws covers)
