-- Paths over branches: what lies along a recovery path.
-- SQL Server: "Recovery Paths" under Restore and Recovery Overview.
use Rattle.std.specs.Prelude.{ℕ, zero, suc, Bool, List, [], ◌++◌, Option, Some, None, ◌==◌, ◌&&◌}
use Rattle.bk_ids.specs.declared.guid.Guid.{Guid}
use Rattle.bk_ids.specs.declared.path.Branch.{Branch}
use Rattle.bk_ids.specs.Path.{branch_at}

-- two GUIDs are one
abbrev pub is_guid : Guid → Guid → Bool
is_guid a b = a.high == b.high && a.low == b.low

-- what a branch has at a number; nothing where there is no branch
abbrev pub at_branch : {A : Type 0} → (Guid → ℕ → List A) → Option Guid → ℕ → List A
at_branch on None n = []
at_branch on (Some branch) n = on branch n

-- what lies on a path below a number, each taken from the branch at its own number, by rising number
abbrev pub along : {A : Type 0} → (Guid → ℕ → List A) → List Branch → ℕ → List A
along on path zero = []
along on path (suc n) = along on path n ++ at_branch on (branch_at path n) n
