use Rattle.std.proofs.Common.{◌≡◌, ◌∙◌, ap, replicate, length, List, ℕ, ◌++◌, refl}
use Rattle.bk_lemmas.specs.Numbers.{length-number_bytes, number_bytes}
use Rattle.bk_control.proofs.Filled.{head_joined}
use Rattle.bk_control.proofs.slot.head.Goals as goal

pub returns : goal.returns
returns c =
    let front : length c.write_number.new.bytes ≡ 8 = ap length c.write_number.ensures ∙ length-number_bytes c.args.sequence in
    head_joined c.write_number.new.bytes c.write_number-2.new.bytes (replicate 8 0) front refl
    ∙ ap (λ (x : List ℕ). replicate 7 0 ++ x ++ c.write_number-2.new.bytes) c.write_number.ensures
    ∙ ap (λ (y : List ℕ). replicate 7 0 ++ number_bytes c.args.sequence ++ y) c.write_number-2.ensures
