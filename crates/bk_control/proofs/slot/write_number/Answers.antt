use Rattle.std.proofs.Common.{◌∙◌, ap, arith, ◌++◌, List, ℕ}
use Rattle.std.proofs.lemmas.List.{drop_all, append-nil}
use Rattle.bk_lemmas.specs.Numbers.{number_bytes}
use Rattle.bk_control.proofs.slot.write_number.Goals as goal

pub returns : goal.returns
unfolding number_bytes
returns c = c.write_u64.ensures ∙ ap (λ (rest : List ℕ). number_bytes c.args.n ++ rest) (drop_all 8 c.args.bytes.now (omega (arith, c.requires))) ∙ append-nil _
