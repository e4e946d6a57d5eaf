-- Hosted databases that are brought up of a set on a medium.
-- SQL Server: RESTORE (Transact-SQL), WITH RECOVERY; "Complete Database Restores (Full Recovery Model)".
use Rattle.std.specs.Prelude.{◌≡◌, ℕ, false, true, List, [], None, Some, slice_get}
use Rattle.std.specs.List.{AllByRecursion}
use Rattle.bk_device.specs.Disk.{Disk}
use Rattle.bk_facts.specs.declared.facts.DataFile.{DataFile}
use Rattle.bk_hosted.specs.Hosted.{Hosted, is_up}
use Rattle.bk_ids.specs.declared.record.Rec.{Rec}
use Rattle.bk_known.specs.declared.known.Known.{Known}
use Rattle.bk_points.specs.declared.points.Points.{Points}
use Rattle.bk_points.specs.Points.{points_bytes}
use Rattle.bk_stores.specs.Recovering.{EndsWith}
use Rattle.bk_stores.specs.Reopening.{settled}
use Rattle.bk_store.specs.Told.{Told, said}
use Rattle.bk_stores.specs.Beside.{ShareNoFile}
use Rattle.bk_stores.specs.Bringing.{MakesNext}
use Rattle.bk_volume.specs.Stored.{Stored}
use Rattle.bk_world.specs.Records.{Logged}
use Rattle.bk_hosting.specs.Hosting.{Kept}
use Rattle.bk_hosting.specs.Making.{kept_files}

-- none of the databases has one of these data files: one that is being restored has none at all
abbrev pub HaveNone : List Hosted → List DataFile → Type 0
HaveNone hosted files = AllByRecursion (λ (h : Hosted). ShareNoFile files (kept_files (is_up h) h)) hosted

-- The database at this place is being restored. The set of the medium in the file of this name makes one with these data files, of which the others have none, with these points in its note and of which this is known; its recovery ends with this
-- record.
pub record ComesUp (disk : Disk) (x : Kept) (hosted : List Hosted) (at : ℕ) (name : List ℕ) (stored : Stored) (files : List DataFile) (checkpoint : ℕ) (known : Known) (points : Points) (last : Rec) (told : Told) (r : Logged) : Type 0 where
  pub parked : Hosted
  pub there : slice_get hosted at ≡ Some parked
  pub down : is_up parked ≡ false
  pub none : HaveNone hosted files
  pub makes : MakesNext disk x.stores name stored files checkpoint (points_bytes points) known told
  pub ends : EndsWith told r last

-- What it is then: it can be used, with the set's records, all that was pending undone, and that record behind them. Nothing is open in it, no backup of it runs, and these are its points, with no checkpoint to come.
pub record IsUpAs (told : Told) (r : Logged) (points : Points) (h : Hosted) : Type 0 where
  pub spec : told.spec ≡ h.spec
  pub records : (said (settled told) r).records ≡ h.records
  pub points_are : points ≡ h.points
  pub none_next : points.next_checkpoint ≡ 0
  pub none_kept : points.next_kept ≡ 0
  pub up : is_up h ≡ true
  pub runs : h.job ≡ None
  pub idle : h.transactions ≡ []
