use Rattle.std.proofs.Common.{◌∙◌}
use Rattle.std.proofs.lemmas.List.{append-nil}
use Rattle.bk_lemmas.specs.Numbers.{number_bytes}
use Rattle.bk_gate.proofs.blob.spelled.Goals as goal

pub returns : goal.returns
unfolding number_bytes
returns c = c.write_u64.ensures ∙ append-nil _
