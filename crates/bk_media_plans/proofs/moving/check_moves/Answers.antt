use Rattle.std.proofs.Common.{◌∙◌, ap, subst, sym}
use Rattle.bk_plans.specs.Checking.{IsCheck}
use Rattle.bk_media_plans.specs.Moves.{move_check}
use Rattle.bk_media_plans.proofs.MovedSets.{lost-found}
use Rattle.bk_media_plans.proofs.moving.check_moves.Goals as goal

pub returns : goal.returns
returns c = subst (IsCheck (λ u. u) c.refuse_move.result) (ap move_check c.first_lost.ensures ∙ sym (lost-found c.args.header.now c.args.moves.now)) c.refuse_move.ensures
