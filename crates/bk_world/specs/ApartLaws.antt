-- The branches of a path, and what lies along it.
use Rattle.std.proofs.Common.{◌≡◌, ◌<◌, ℕ, zero, suc, Bool, true, false, cond, List, [], ◌∷◌, Option, None, Some, refl, leb, arith}
use Rattle.std.specs.List.{AllByRecursion}
use Rattle.bk_ids.specs.declared.guid.Guid.{Guid}
use Rattle.bk_ids.specs.declared.path.Branch.{Branch}
use Rattle.bk_ids.specs.Path.{started, last_branch, branch_at}
use Rattle.bk_world.specs.History.{at_branch, along}

-- The branches of a path.

-- a fact of each branch's GUID is one of the branch at a number
abbrev pub OfBranch : (Guid → Type 0) → Option Guid → Type 0
OfBranch P None = Unit {0}
OfBranch P (Some g) = P g

started-all-of : (P : Guid → Type 0) (path : List Branch) (n : ℕ) → AllByRecursion (λ b. P b.guid) path → AllByRecursion (λ b. P b.guid) (started path n)
started-all-of P [] n all = tt
started-all-of P (b ∷ path) n all = by (leb b.start n) (started-all-of P path n all.1)
  where
    by : (t : Bool) → AllByRecursion (λ c. P c.guid) (started path n) → AllByRecursion (λ c. P c.guid) (cond t (b ∷ started path n) (started path n))
    by true rest = (all.0, rest)
    by false rest = rest

last_branch-of : (P : Guid → Type 0) (path : List Branch) → AllByRecursion (λ b. P b.guid) path → OfBranch P (last_branch path)
last_branch-of P [] all = tt
last_branch-of P (b ∷ []) all = all.0
last_branch-of P (b ∷ next ∷ path) all = last_branch-of P (next ∷ path) all.1

pub branch_at-of : (P : Guid → Type 0) (path : List Branch) (n : ℕ) → AllByRecursion (λ b. P b.guid) path → OfBranch P (branch_at path n)
branch_at-of P path n all = last_branch-of P (started path n) (started-all-of P path n all)

-- What lies along a path, where each number's branch has the same there.

pub along-on : {A : Type 0} (on other : Guid → ℕ → List A) (path : List Branch) (n : ℕ)
    → ((k : ℕ) → k < n → at_branch on (branch_at path k) k ≡ at_branch other (branch_at path k) k) → along on path n ≡ along other path n
along-on on other path zero same = refl
along-on {A} on other path (suc n) same =
    let front : along on path n ≡ along other path n = along-on on other path n (λ k lt. same k (omega arith)) in
    let last : at_branch on (branch_at path n) n ≡ at_branch other (branch_at path n) n = same n (omega arith) in
    cc
