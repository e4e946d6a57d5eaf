-- Halves of a share.
use Rattle.std.proofs.Common.{◌≡◌, ◌≤◌, ℕ, ◌+◌, ◌-◌, ◌*◌, ap, ◌∙◌, arith}
use Rattle.std.specs.Prelude.{min}
use Rattle.std.proofs.Math.Nat.{add-mul}

-- what the rest of the workers gets
pub rest_share : (workers half least count front : ℕ) → half ≤ workers → workers * least ≤ count → count ≤ workers * least + workers → front ≡ half * least + min half (count - workers * least)
    → ((workers - half) * least ≤ count - front) × (count - front ≤ (workers - half) * least + (workers - half))
rest_share workers half least count front some at_least at_most is =
    let rest : ℕ = workers - half in
    let whole : workers ≡ half + rest = omega arith in
    let split : workers * least ≡ half * least + rest * least = ap (λ (n : ℕ). n * least) whole ∙ add-mul half rest least in
    (omega arith, omega arith)
