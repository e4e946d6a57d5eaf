-- Logs in which all that was pending is undone.
use Rattle.std.proofs.Common.{◌≡◌, ℕ, suc, ◌+◌, List, [], ◌∷◌, ◌++◌, length, reverse, refl, ◌∙◌, ap, arith}
use Rattle.std.proofs.lemmas.List.{length-append}
use Rattle.bk_world.specs.Cut.{end_behind, settled}
use Rattle.bk_world.specs.Pending.{Pending, PendingRise, pending}
use Rattle.bk_world.specs.Records.{Logged, Said, more, numbered}
use Rattle.bk_world.specs.Says.{settle_said, undoing}
use Rattle.bk_world.specs.Telling.{entries}
use Rattle.bk_world.specs.ReadingLaws.{entries-settled, pending-settled}
use Rattle.bk_world.specs.AgainLaws.{settled-again}

pub nothing-pends : (rs : List Logged) → pending (settled rs) ≡ []
unfolding settled
nothing-pends rs = pending-settled rs (end_behind rs)

pub tells-same : (rs : List Logged) → entries (settled rs) ≡ entries rs
unfolding settled
tells-same rs = entries-settled rs (end_behind rs)

pub length-numbered : (n : ℕ) (said : List Said) → length (numbered n said) ≡ length said
length-numbered n [] = refl
length-numbered n (s ∷ said) = ap suc (length-numbered (n + 1) said)

pub length-undoing : (ws : List Pending) → length (undoing ws) ≡ length ws
length-undoing [] = refl
length-undoing (w ∷ ws) = ap suc (length-undoing ws)

pub end-more : (rs : List Logged) (n : ℕ) (said : List Said) → end_behind (more rs n said) ≡ end_behind rs + length said
end-more rs n said =
    let one : length (more rs n said) ≡ length rs + length (numbered n said) = length-append rs (numbered n said) in
    let two : length (numbered n said) ≡ length said = length-numbered n said in
    omega (arith, one, two)

-- it is the same log, however much of this was undone before
pub settled-once : (rs : List Logged) (vs us : List Pending) → PendingRise (pending rs) → reverse (pending rs) ≡ vs ++ us → settled (more rs (end_behind rs) (undoing vs)) ≡ settled rs
unfolding settled
settled-once rs vs us rise is =
    let end : end_behind (more rs (end_behind rs) (undoing vs)) ≡ end_behind rs + length vs = end-more rs (end_behind rs) (undoing vs) ∙ ap (λ n. end_behind rs + n) (length-undoing vs) in
    ap (λ n. more (more rs (end_behind rs) (undoing vs)) n (settle_said (pending (more rs (end_behind rs) (undoing vs))))) end
    ∙ settled-again rs (end_behind rs) vs us rise is
