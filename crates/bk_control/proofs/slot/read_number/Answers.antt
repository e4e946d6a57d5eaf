use Rattle.bk_lemmas.specs.Numbers.{number}
use Rattle.bk_control.proofs.slot.read_number.Goals as goal

pub returns : goal.returns
unfolding number
returns c = c.read_u64.ensures
