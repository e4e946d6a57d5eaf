-- What lies along paths.
use Rattle.std.proofs.Common.{◌≡◌, ◌<◌, ◌≤◌, ℕ, zero, suc, true, cond, List, [], ◌∷◌, Option, None, Some, refl, ◌∙◌, ap, arith, leb}
use Rattle.std.specs.List.{AllByRecursion}
use Rattle.std.proofs.lemmas.Bool.{le-leb}
use Rattle.bk_ids.specs.declared.guid.Guid.{Guid}
use Rattle.bk_ids.specs.declared.path.Branch.{Branch}
use Rattle.bk_ids.specs.Path.{started, last_branch, branch_at}
use Rattle.bk_world.specs.History.{at_branch, along}

-- Paths.

-- where every branch starts at n or below, all of them have started at n and above
started-all : (path : List Branch) (n k : ℕ) → AllByRecursion (λ b. b.start ≤ n) path → n ≤ k → started path k ≡ path
started-all [] n k all le = refl
started-all (b ∷ path) n k all le =
    let now : leb b.start k ≡ true = le-leb b.start k (omega (arith, all.0)) in
    ap (λ t. cond t (b ∷ started path k) (started path k)) now ∙ ap (λ p. b ∷ p) (started-all path n k all.1 le)

pub branch_at-last : (path : List Branch) (n k : ℕ) → AllByRecursion (λ b. b.start ≤ n) path → n ≤ k → branch_at path k ≡ last_branch path
branch_at-last path n k all le = ap last_branch (started-all path n k all le)

-- What lies along a path.

at_branch-same : {A : Type 0} (on other : Guid → ℕ → List A) (branch : Option Guid) (n : ℕ) → ((b : Guid) → on b n ≡ other b n) → at_branch on branch n ≡ at_branch other branch n
at_branch-same on other None n same = refl
at_branch-same on other (Some b) n same = same b

pub along-same : {A : Type 0} (on other : Guid → ℕ → List A) (path : List Branch) (n : ℕ) → ((b : Guid) (k : ℕ) → k < n → on b k ≡ other b k) → along on path n ≡ along other path n
along-same on other path zero same = refl
along-same {A} on other path (suc n) same =
    let front : along on path n ≡ along other path n = along-same on other path n (λ b k lt. same b k (omega arith)) in
    let last : at_branch on (branch_at path n) n ≡ at_branch other (branch_at path n) n = at_branch-same on other (branch_at path n) n (λ b. same b n (omega arith)) in
    cc
