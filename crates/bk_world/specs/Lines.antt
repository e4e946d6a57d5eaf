-- Histories of log records: what was said on each branch, and what a recovery path reads of it.
-- SQL Server: "Recovery Paths" under Restore and Recovery Overview.
use Rattle.std.specs.Prelude.{◌≡◌, ◌≤◌, ◌<◌, ℕ, Bool, true, false, List, [], ◌∷◌, ◌++◌, Option, Some, None, filter, ◌==◌, if◌then◌else◌}
use Rattle.std.specs.List.{AllByRecursion}
use Rattle.bk_ids.specs.declared.guid.Guid.{Guid}
use Rattle.bk_ids.specs.declared.path.Branch.{Branch}
use Rattle.bk_ids.specs.Path.{last_branch}
use Rattle.bk_world.specs.History.{is_guid, along}
use Rattle.bk_world.specs.Records.{Logged}

-- what was said on one branch, by rising number
pub record RecordLine : Type 0 where
  pub branch : Guid
  pub records : List Logged

-- the lines of all branches, each branch once
abbrev pub RecordLines : Type 0
RecordLines = List RecordLine

-- the line of a branch, empty where it has none
abbrev pub line_on : RecordLines → Guid → RecordLine
line_on [] branch = record { branch = branch; records = [] }
line_on (line ∷ lines) branch = if is_guid line.branch branch then line else line_on lines branch

abbrev pub longer_line : RecordLine → List Logged → RecordLine
longer_line line more = record { branch = line.branch; records = line.records ++ more }

-- more is said at the end of a branch that has a line
abbrev pub said_on : RecordLines → Guid → List Logged → RecordLines
said_on [] branch more = []
said_on (line ∷ lines) branch more = if is_guid line.branch branch then longer_line line more ∷ lines else line ∷ said_on lines branch more

abbrev pub said_on_last : RecordLines → Option Guid → List Logged → RecordLines
said_on_last lines None more = lines
said_on_last lines (Some branch) more = said_on lines branch more

-- a record on a branch at a number
abbrev pub logged_on : RecordLines → Guid → ℕ → List Logged
logged_on lines branch n = filter (λ r. r.lsn == n) (line_on lines branch).records

-- the log below n on a path: each record from the branch on which the path is at its number, by rising number
unfoldable pub log_below : RecordLines → List Branch → ℕ → List Logged
log_below lines path n = along (logged_on lines) path n

-- the branch has a line
abbrev pub has_record_line : RecordLines → Guid → Bool
has_record_line [] branch = false
has_record_line (line ∷ lines) branch = if is_guid line.branch branch then true else has_record_line lines branch

-- A path up to an end may go on: its last branch has a line, nothing of which lies at the end or above.
pub record MayGoOn (lines : RecordLines) (path : List Branch) (end : ℕ) : Type 0 where
  pub branch : Guid
  pub last : last_branch path ≡ Some branch
  pub there : has_record_line lines branch ≡ true
  pub starts : AllByRecursion (λ b. b.start ≤ end) path
  pub below : AllByRecursion (λ r. r.lsn < end) (line_on lines branch).records

-- a line got longer: all that came lies above what was there
pub record LineGrew (old new : RecordLine) : Type 0 where
  pub more : List Logged
  pub is : new.records ≡ old.records ++ more
  pub above : AllByRecursion (λ r. AllByRecursion (λ m. r.lsn < m.lsn) more) old.records
  pub positive : AllByRecursion (λ m. 0 < m.lsn) more

-- each branch's line stayed or got longer
abbrev pub Grew : RecordLines → RecordLines → Type 0
Grew old new = (branch : Guid) → LineGrew (line_on old branch) (line_on new branch)
