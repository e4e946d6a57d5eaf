use Rattle.bk_token.specs.Laws.{none_left}
use Rattle.bk_token.proofs.place.next_token.Goals as goal

pub returns-clause-next : goal.returns-clause-next
returns-clause-next c ts tokens = none_left c.args.src.now c.loop-place.place ts c.loop-place-test.false (c.loop-place.invariant.2 ts tokens)
