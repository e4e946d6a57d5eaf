-- What an instance does with an act of the machine.
-- SQL Server: "Transaction Log Architecture and Management Guide", write-ahead log.
use Rattle.std.specs.Prelude.{◌≡◌, ◌<◌, ◌≤◌, ◌⊎◌, ℕ, suc, Bool, false, true, List, length, map, Some, take}
use Rattle.std.specs.List.{AllByRecursion}
use Rattle.bk_device.specs.Disk.{Disk, Files}
use Rattle.bk_hosted.specs.Fronts.{Waits}
use Rattle.bk_hosted.specs.Hosted.{SaysNoCheckpoint, parking, set_log}
use Rattle.bk_hosting.specs.Hosting.{known_at}
use Rattle.bk_ids.specs.declared.record.Rec.{Rec}
use Rattle.bk_known.specs.declared.known.Known.{Known}
use Rattle.bk_known.specs.Known.{IsKnown}
use Rattle.bk_machine.specs.Acts.{Act, done, kept_after, logged}
use Rattle.bk_machine.specs.MayDo.{MayDo}
use Rattle.bk_machine.specs.Sound.{has_begin}
use Rattle.bk_machine.specs.World.{Database, World, database_named, log_of}
use Rattle.bk_shown.specs.Shown.{AreNext}
use Rattle.bk_store.specs.Told.{data_file}
use Rattle.bk_stores.specs.Beside.{ShareNoFile}
use Rattle.bk_undo.specs.Spelled.{spelled}
use Rattle.bk_world.specs.declared.database.Creation.{Creation}
use Rattle.bk_world.specs.declared.header.Header.{Header}
use Rattle.bk_world.specs.declared.transaction.Open.{Open}
use Rattle.bk_world.specs.Records.{Said, checkpointed, numbered}
use Rattle.bk_world.specs.Says.{alone}
use Rattle.bk_world.specs.Telling.{model}
use Rattle.bk_engine.specs.Stands.{Covers, Kept, StandsFor}

-- from each world for which it stood and to which an act may be done, it goes to the world behind that
abbrev pub DoesAct : Kept → Disk → Act → Kept → Disk → Type 0
DoesAct old before act new after = (w : World) → StandsFor before old w → MayDo w act → StandsFor after new (done w act)

-- a crash leaves the world before it, or the one behind it
abbrev pub CutsAct : World → Act → Files → Type 0
CutsAct w act image = Covers w image ⊎ Covers (done w act) image

-- ---- what a database says

-- The database of a name may say this, and these records spell it: each may come next, none is a checkpoint, and where it isn't to last it waits with what waits already.
pub record MaySayIn (w : World) (name : List ℕ) (said : List Said) (transactions : List Open) (records : List Rec) (lasting : Bool) : Type 0 where
  pub db : Database
  pub found : database_named w.databases name ≡ Some db
  pub may : MayDo w (logged name said transactions)
  pub next : AreNext db.files (log_of w.history db) (numbered db.end said)
  pub spelled_are : map spelled (numbered db.end said) ≡ records
  pub plain : SaysNoCheckpoint said
  pub waits : lasting ≡ false → AllByRecursion (Waits transactions) (numbered db.end said) × AllByRecursion (λ (t : Open). has_begin transactions t.begin ≡ true) db.transactions

-- a crash leaves the world before it, or the one behind a front of what is said
abbrev pub CutsSaying : World → List ℕ → List Said → List Open → Files → Type 0
CutsSaying w name said transactions image = Covers w image ⊎ ((m : ℕ) × (m < length said) × Covers (done w (logged name (take (suc m) said) transactions)) image)

-- ---- a checkpoint

-- the act that makes one of a database, in which the same transactions stay open
abbrev pub marking : List ℕ → ℕ → Database → Act
marking name time db = logged name (alone (checkpointed time)) db.transactions

-- One may be made of the database of a name, behind which the live log holds what comes from this number on.
pub record MayMark (w : World) (name : List ℕ) (time kept : ℕ) (db : Database) : Type 0 where
  pub found : database_named w.databases name ≡ Some db
  pub may : MayDo w (marking name time db)
  pub kept_is : kept ≡ kept_after db (model (log_of w.history db)) db.end

-- ---- a database that is made

-- no database of a world has a data file at one of its paths
abbrev pub HaveNoFileOf : World → Creation → Type 0
HaveNoFileOf w c = AllByRecursion (λ (db : Database). ShareNoFile (map data_file c.storage.files) (map data_file db.files)) w.databases

-- ---- a set that takes a database's place

-- this is known of the set with this header, as of its end
pub record IsSetKnown (w : World) (header : Header) (known : Known) : Type 0 where
  pub is : known ≡ known_at (parking (set_log w header) known.spec.name header)
  pub spelled : IsKnown known
  pub some : 1 ≤ length (set_log w header)
