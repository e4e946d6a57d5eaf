-- No medium has the name of a file of the instance's databases.
use Rattle.std.proofs.Common.{◌≡◌, inl, inr, ℕ, List, ap, ◌∙◌, sym, arith}
use Rattle.bk_paged.specs.Laws.{log_letter, own_letter}
use Rattle.bk_stores.specs.Stores.{IsOurs}
use Rattle.bk_volume.specs.Laws.{medium_letter}
use Rattle.bk_volume.specs.Names.{letter, medium_file}

pub no-medium : (name path : List ℕ) → name ≡ medium_file path → IsOurs name → ⊥
no-medium name path same ours =
    let m : letter name ≡ 109 = ap letter same ∙ medium_letter path in
    elim ours [
      | inl master ↦
          let own : letter name ≡ 115 = elim master [ inl made ↦ ap letter made | inr control ↦ ap letter control ] in
          absurd (omega (arith, own, m))
      | inr its ↦ elim its.2 [
        | inl log ↦ elim (log_letter its.0 name log) [ inl c ↦ absurd (omega (arith, c, m)) | inr g ↦ absurd (omega (arith, g, m)) ]
        | inr side ↦ elim (own_letter its.0 its.1 name side) [ inl b ↦ absurd (omega (arith, b, m)) | inr p ↦ absurd (omega (arith, p, m)) ]
      ]
    ]
