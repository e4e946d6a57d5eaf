-- Recovery paths. SQL Server: "Recovery Paths" under Restore and Recovery Overview.
use Rattle.std.specs.Prelude.{◌≡◌, ◌≢◌, ◌<◌, ◌≤◌, ℕ, List, [], ◌∷◌, Option, Some, None, if◌then◌else◌, nat_le}
use Rattle.bk_ids.specs.declared.guid.Guid.{Guid}
use Rattle.bk_ids.specs.declared.path.Branch.{Branch}

-- the branches of a path that start at n or below
abbrev pub started : List Branch → ℕ → List Branch
started [] n = []
started (branch ∷ path) n = if nat_le branch.start n then branch ∷ started path n else started path n

-- the last of some branches
abbrev pub last_branch : List Branch → Option Guid
last_branch [] = None
last_branch (branch ∷ []) = Some branch.guid
last_branch (branch ∷ next ∷ path) = last_branch (next ∷ path)

-- the branch of a path at n: its last element that starts at n or below
abbrev pub branch_at : List Branch → ℕ → Option Guid
branch_at path n = last_branch (started path n)

-- two paths agree up to two points where they are on one branch at every number from 1 below both
abbrev pub Agree : List Branch → ℕ → List Branch → ℕ → Type 0
Agree path end other other_end = (k : ℕ) → 0 < k → k < end → k < other_end → branch_at path k ≡ branch_at other k

-- each start of a path is at least the one before it
abbrev pub StartsRiseFrom : ℕ → List Branch → Type 0
StartsRiseFrom least [] = Unit {0}
StartsRiseFrom least (branch ∷ path) = (least ≤ branch.start) × StartsRiseFrom branch.start path

-- a path begins at 1, and its starts don't fall
abbrev pub IsPath : List Branch → Type 0
IsPath [] = ⊥
IsPath (branch ∷ path) = (branch.start ≡ 1) × StartsRiseFrom 1 path

-- the least number from 1, below both points, at which two paths aren't on one branch
pub record FirstDiffer (path : List Branch) (end : ℕ) (other : List Branch) (other_end : ℕ) (k : ℕ) : Type 0 where
  pub positive : 0 < k
  pub below : k < end
  pub below_other : k < other_end
  pub differ : branch_at path k ≢ branch_at other k
  pub agree_before : Agree path k other k
