-- Which files a call touches, whatever they hold.
-- SQL Server: "Database Files and Filegroups"; "Media Sets, Media Families, and Backup Sets".
use Rattle.std.specs.Prelude.{◌≡◌, ◌⊎◌, ℕ, List, Option, Some}
use Rattle.bk_bytes.specs.Field.{AreBytes}
use Rattle.bk_device.specs.Disk.{Disk}
use Rattle.bk_device.specs.Effects.{Effect, IsName}
use Rattle.bk_msdb.specs.Msdb.{msdb_file}
use Rattle.bk_stores.specs.Stores.{IsOurs as IsOfStores}
use Rattle.bk_volume.specs.Names.{medium_file}
use Rattle.bk_engine.specs.Stands.{IsStagingFile}

-- the file of a medium at one of these paths, which are bytes
abbrev pub IsMediumAt : (List ℕ → Type 0) → List ℕ → Type 0
IsMediumAt named name = (path : List ℕ) × named path × AreBytes path × (name ≡ medium_file path)

-- a file of the instance itself or of its stores, one of a set that is being written, that of a medium at one of these paths, or that of the rows of msdb
abbrev pub IsTouched : (List ℕ → Type 0) → List ℕ → Type 0
IsTouched named name = IsOfStores name ⊎ (IsStagingFile name ⊎ (IsMediumAt named name ⊎ IsName msdb_file name))

-- only such files were touched, and nothing was told
abbrev pub TouchesOnly : (List ℕ → Type 0) → Disk → Disk → Type 0
TouchesOnly named before after = Effect (IsTouched named) (λ image. Unit {0}) before after

-- no medium
abbrev pub NoMedium : List ℕ → Type 0
NoMedium path = ⊥

-- the medium at this path
abbrev pub IsAt : List ℕ → List ℕ → Type 0
IsAt path other = other ≡ path

-- the one that is being made, if one is
abbrev pub IsMadeAt : Option (List ℕ) → List ℕ → Type 0
IsMadeAt making path = making ≡ Some path

-- the medium at any path
abbrev pub IsPath : List ℕ → Type 0
IsPath path = Unit {0}
