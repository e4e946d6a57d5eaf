-- Backups that run of hosted databases.
-- SQL Server: BACKUP (Transact-SQL); "Full Database Backups".
use Rattle.std.specs.Prelude.{◌≡◌, Bool, List, None}
use Rattle.std.specs.List.{AllZip}
use Rattle.std.specs.Option.{is_some}
use Rattle.bk_hosted.specs.Hosted.{Hosted}
use Rattle.bk_hosting.specs.declared.hosting.State.{State}

-- a backup of it runs
abbrev pub has_job : State → Bool
has_job st = is_some st.job

-- it is kept that none does
abbrev pub without_job : State → State
without_job st = record st { job = None }

-- a database with another backup that runs, or none
abbrev pub IsButJob : Hosted → Hosted → Type 0
IsButJob h other = other ≡ record h { job = other.job }

-- so each of some databases
abbrev pub AreButJobs : List Hosted → List Hosted → Type 0
AreButJobs hosted others = AllZip IsButJob hosted others
