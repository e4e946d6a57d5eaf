-- A database that is made of a set, and recovered.
-- SQL Server: "Complete Database Restores (Full Recovery Model)"; "Restore and Recovery Overview", undo.
use Rattle.std.specs.Prelude.{◌≡◌, ◌⊎◌, ℕ, List, None}
use Rattle.bk_arriving.specs.Sets.{AreWhole, arriving_of, pages_of}
use Rattle.bk_arriving.specs.Body.{Body}
use Rattle.bk_device.specs.Disk.{Disk}
use Rattle.bk_device.specs.Effects.{Effect}
use Rattle.bk_facts.specs.declared.facts.DataFile.{DataFile}
use Rattle.bk_ids.specs.declared.record.Rec.{Rec}
use Rattle.bk_known.specs.declared.known.Known.{Known}
use Rattle.bk_reopening.specs.PagedNames.{IsOwn}
use Rattle.bk_record.specs.Log.{IsLog}
use Rattle.bk_reopening.specs.Reopening.{settled}
use Rattle.bk_arriving.specs.Restored.{SufficesTold}
use Rattle.bk_reopening.specs.Shown.{IsNext}
use Rattle.bk_store.specs.Store.{Kept as KeptStore}
use Rattle.bk_store.specs.Told.{Told, files_of}
use Rattle.bk_undo.specs.Spelled.{spelled}
use Rattle.bk_arriving.specs.VolumeStored.{IsOf, Stored}
use Rattle.bk_world.specs.Records.{Logged}

-- These bytes of a medium have a set that makes a database with these data files: it has their extents, and with its log they are enough.
pub record Makes (bytes : List ℕ) (set : Stored) (files : List DataFile) (db checkpoint : ℕ) (note : List ℕ) (known : Known) (told : Told) : Type 0 where
  pub body : Body
  pub records : List Rec
  pub is : IsOf bytes body set
  pub whole : AreWhole files body.extents
  pub log : IsLog body.log records None
  pub suffices : SufficesTold (arriving_of files db set.header.first) checkpoint note (pages_of body) records known told

-- Its recovery ends with this record, behind all that was undone.
pub record EndsWith (told : Told) (r : Logged) (last : Rec) : Type 0 where
  pub next : IsNext (files_of told) (settled told).records r
  pub spelled_is : spelled r ≡ last

-- The files of this number alone were touched: with these data files, or with those that the store found in its note. Where a set makes a database with these they are the same.
abbrev pub TouchesWith : ℕ → List DataFile → KeptStore → Disk → Disk → Type 0
TouchesWith db files s old new = Effect (λ name. IsOwn db files name ⊎ IsOwn db s.paged.facts.files name) (λ _. Unit {0}) old new
