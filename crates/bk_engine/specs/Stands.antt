-- Which worlds an instance over its stores stands for, and which its files hold.
-- SQL Server: "Database Files and Filegroups"; "Media Sets, Media Families, and Backup Sets".
use Rattle.std.specs.Prelude.{◌≡◌, ◌≤◌, ◌+◌, ◌⊎◌, ℕ, List, map, Option, None}
use Rattle.bk_archive.specs.Media.{IsMediumFile, KeepsMedia}
use Rattle.bk_device.specs.Disk.{Disk, Files}
use Rattle.bk_device.specs.Effects.{IsName}
use Rattle.bk_hosted.specs.Hosted.{Hosted, Hosts}
use Rattle.bk_hosting.specs.Hosting.{IsHosting, IsReady as AreReady, LeavesHosted, own_of, Kept as KeptHosting}
use Rattle.bk_ids.specs.declared.guid.Guid.{Guid}
use Rattle.bk_kept.specs.declared.kept.Session.{Session}
use Rattle.bk_kept.specs.Keeps.{session_of}
use Rattle.bk_machine.specs.Sound.{IsSound}
use Rattle.bk_machine.specs.World.{World}
use Rattle.bk_master.specs.declared.record.Own.{Own}
use Rattle.bk_msdb.specs.Msdb.{Shows, msdb_file}
use Rattle.bk_stores.specs.Stores.{IsOurs as IsOfStores}
use Rattle.bk_volume.specs.Names.{staging_file}
use Rattle.bk_engine.specs.Copied.{AreCopied}
use Rattle.bk_engine.specs.Rows.{IsCalm, rows_in}

-- ---- an instance

-- what contracts see of an instance
pub record Kept : Type 0 where
  pub hosting : KeptHosting
  -- the low number of the GUID that is drawn next
  pub drawn : ℕ
  -- the current session
  pub session : ℕ
  pub sessions : List Session

-- what its record keeps of itself
abbrev pub own_in : Kept → Own
own_in e = own_of e.hosting

-- its record names this set as being written, or none, and keeps the instance's number
abbrev pub NamesSet : Option Guid → Kept → Kept → Type 0
NamesSet set old new = ((own_in new).number ≡ (own_in old).number) × ((own_in new).staging ≡ set)

-- Between two calls no medium is being made, and the record reserves at most 1,024 GUIDs that weren't drawn.
pub record IsReady (e : Kept) : Type 0 where
  pub hosting : AreReady e.hosting
  pub no_medium : (own_in e).making ≡ None
  pub no_less : e.drawn ≤ (own_in e).counter
  pub no_more : (own_in e).counter ≤ e.drawn + 1024

-- It stands for a sound world, with what is open in it: it hosts the world's databases, keeps its media and its rows of msdb, in which nothing is pending, and what isn't left of backups that run was copied.
pub record StandsFor (disk : Disk) (e : Kept) (w : World) : Type 0 where
  pub sound : IsSound w
  pub instance : w.instance ≡ (own_in e).number
  pub counter : w.counter ≡ e.drawn
  pub session : w.session ≡ e.session
  pub sessions : w.sessions ≡ map session_of e.sessions
  pub hosted : List Hosted
  pub hosts : Hosts w hosted
  pub hosting : IsHosting disk e.hosting hosted
  pub media : KeepsMedia w None disk.files
  pub calm : IsCalm disk w
  pub copied : AreCopied disk hosted

-- ---- what a crash leaves

-- Files hold a world, but for what waited in memory, and some GUIDs may have been reserved.
pub record Covers (w : World) (files : Files) : Type 0 where
  pub own : Own
  pub instance : w.instance ≡ own.number
  pub no_less : w.counter ≤ own.counter
  pub no_more : own.counter ≤ w.counter + 1024
  pub hosted : List Hosted
  pub hosts : Hosts w hosted
  pub left : LeavesHosted own hosted files
  pub media : KeepsMedia w own.making files
  pub rows : Shows files (rows_in w)

-- ---- names

-- a file of a set that is being written
abbrev pub IsStagingFile : List ℕ → Type 0
IsStagingFile name = (set : Guid) × (name ≡ staging_file set)

-- the files that an instance may touch: its own and its stores', media, sets that are being written, and that of the rows of msdb
abbrev pub IsOurs : List ℕ → Type 0
IsOurs name = IsOfStores name ⊎ (IsMediumFile name ⊎ (IsStagingFile name ⊎ IsName msdb_file name))
