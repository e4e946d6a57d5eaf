use Rattle.std.proofs.Common.{ℕ, List, ◌∷◌, ◌++◌, ap, ◌∙◌}
use Rattle.hex.specs.Hex.{encode_lower}
use Rattle.bk_volume.specs.Names.{staging_file}
use Rattle.bk_volume.proofs.name.staging_file.Goals as goal

pub returns : goal.returns
unfolding staging_file
returns c =
    c.in_ok-push_str.ensures.bytes ∙ ap (λ (n : List ℕ). n ++ c.deref.result.now) c.in_ok-name.ensures.ok
    ∙ ap (λ (d : List ℕ). 116 ∷ 45 ∷ d) (c.deref.ensures ∙ c.in_ok-digits.ensures ∙ ap encode_lower c.bytes_of.ensures)
