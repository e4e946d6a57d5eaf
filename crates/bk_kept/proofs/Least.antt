-- The least first record of what is open.
use Rattle.std.proofs.Common.{◌≡◌, ℕ, min, List, [], ◌∷◌, refl, ◌∙◌, ap}
use Rattle.std.specs.Prelude.{fold, reverse}
use Rattle.std.proofs.lemmas.List.{reverse-append}
use Rattle.std.proofs.lemmas.List.Sums.{fold-append}
use Rattle.bk_machine.specs.World.{least_begin}
use Rattle.bk_world.specs.declared.transaction.Open.{Open}

-- the lesser of a number and the first record of a transaction
abbrev pub with_begin : ℕ → Open → ℕ
with_begin least t = min t.begin least

pub least-folds : (ts : List Open) (n : ℕ) → fold with_begin n (reverse ts) ≡ least_begin ts n
least-folds [] n = refl
least-folds (t ∷ ts) n = ap (fold with_begin n) (reverse-append (t ∷ []) ts) ∙ fold-append with_begin n (reverse ts) (t ∷ []) ∙ ap (min t.begin) (least-folds ts n)
