-- The names of an instance's files.
use Rattle.std.specs.Prelude.{◌≡◌, ◌⊎◌, ℕ, List}
use Rattle.bk_bytes.specs.Field.{AreBytes}
use Rattle.bk_ids.specs.declared.guid.Guid.{Guid}
use Rattle.bk_master.specs.Master.{IsOwn as IsOfMaster}
use Rattle.bk_msdb.specs.Msdb.{msdb_file}
use Rattle.bk_segments.specs.Files.{IsOwn as IsOfThisLog}
use Rattle.bk_side.specs.Names.{data_file, side_file}
use Rattle.bk_volume.specs.Names.{medium_file, staging_file}

-- the control file of a log, or a segment of one
abbrev pub IsOfLog : List ℕ → Type 0
IsOfLog name = (db : ℕ) × IsOfThisLog db name

-- the side file of a database
abbrev pub IsSideFile : List ℕ → Type 0
IsSideFile name = (db : ℕ) × (name ≡ side_file db)

-- a data file
abbrev pub IsDataFile : List ℕ → Type 0
IsDataFile name = (path : List ℕ) × (name ≡ data_file path)

-- a medium
abbrev pub IsMediumFile : List ℕ → Type 0
IsMediumFile name = (path : List ℕ) × AreBytes path × (name ≡ medium_file path)

-- a file of a set that is being written
abbrev pub IsStagingFile : List ℕ → Type 0
IsStagingFile name = (set : Guid) × (name ≡ staging_file set)

-- the file of the rows of msdb
abbrev pub IsRowsFile : List ℕ → Type 0
IsRowsFile name = name ≡ msdb_file

-- one of the instance's own two, or of these
abbrev pub IsOfInstance : List ℕ → Type 0
IsOfInstance name = IsOfMaster name ⊎ (IsOfLog name ⊎ (IsSideFile name ⊎ (IsDataFile name ⊎ (IsMediumFile name ⊎ (IsStagingFile name ⊎ IsRowsFile name)))))
