use Rattle.bk_lemmas.specs.Numbers.{number}
use Rattle.bk_gate.proofs.blob.read_number.Goals as goal

pub returns : goal.returns
unfolding number
returns c = c.read_u64.ensures
