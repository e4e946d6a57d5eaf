-- What undoes pending writes is in its place wherever it comes.
use Rattle.std.proofs.Common.{◌≡◌, ◌≤◌, ℕ, suc, ◌+◌, Bool, true, false, cond, List, [], ◌∷◌, ◌++◌, length, reverse, Option, None, Some, ◌∙◌, arith}
use Rattle.std.specs.Prelude.{◌==◌, filter}
use Rattle.std.proofs.lemmas.List.{length-append, length-reverse}
use Rattle.bk_plans.specs.Undoing.{those_of}
use Rattle.bk_shown.specs.Shown.{ArePlaced}
use Rattle.bk_world.specs.Pending.{Pending, of_transaction}
use Rattle.bk_world.specs.Records.{Logged, Said, numbered}
use Rattle.bk_world.specs.Says.{rollback_said, undoing}
use Rattle.bk_world.specs.SettledLaws.{length-undoing}
use Rattle.bk_world.specs.declared.database.FileSpec.{FileSpec}

-- Lengths.

fewer : (p : Pending → Bool) (ws : List Pending) → length (filter p ws) ≤ length ws
fewer p [] = omega arith
fewer p (w ∷ ws) = by (p w) (fewer p ws)
  where
    by : (b : Bool) → length (filter p ws) ≤ length ws → length (cond b (w ∷ filter p ws) (filter p ws)) ≤ suc (length ws)
    by true le = omega (arith, le)
    by false le = omega (arith, le)

-- some writes are fewer than all
pub those-fewer : (only : Option ℕ) (ws : List Pending) → length (those_of only ws) ≤ length ws
those-fewer None ws = omega arith
those-fewer (Some begin) ws = fewer (λ w. w.begin == begin) ws

pub rollback-length : (begin : ℕ) (ws : List Pending) → length (rollback_said begin ws) ≤ length ws + 1
rollback-length begin ws =
    let own : List Pending = of_transaction begin ws in
    let joined : length (rollback_said begin ws) ≡ length (undoing (reverse own)) + 1 = length-append (undoing (reverse own)) _ in
    let undone : length (undoing (reverse own)) ≡ length own = length-undoing (reverse own) ∙ length-reverse own in
    let few : length own ≤ length ws = those-fewer (Some begin) ws in
    omega (arith, joined, undone, few)

-- Places.

undoing-placed : (files : List FileSpec) (rs : List Logged) (n : ℕ) (ws : List Pending) (said : List Said) → ((log : List Logged) (m : ℕ) → ArePlaced files log (numbered m said)) → ArePlaced files rs (numbered n (undoing ws ++ said))
undoing-placed files rs n [] said rest = rest rs n
undoing-placed files rs n (w ∷ ws) said rest = (tt, undoing-placed files (rs ++ _ ∷ []) (n + 1) ws said rest)

pub rollback-placed : (files : List FileSpec) (rs : List Logged) (n begin : ℕ) (ws : List Pending) → ArePlaced files rs (numbered n (rollback_said begin ws))
rollback-placed files rs n begin ws = undoing-placed files rs n (reverse (of_transaction begin ws)) _ (λ log m. (tt, tt))
