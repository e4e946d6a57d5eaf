-- Which act of a world a stored act is, and what it needs to be taken in there.
use Rattle.std.specs.Prelude.{◌≡◌, ℕ, false, List, map, Ok}
use Rattle.bk_acts.specs.declared.act.StoredAct.{StoredAct}
use Rattle.bk_acts.specs.declared.act.StoredAct.TheVariants.{Created, Logged as LoggedAct, Checkpointed}
use Rattle.bk_acts.specs.Meaning.{Means, Spell}
use Rattle.bk_ids.specs.declared.record.Rec.{Rec}
use Rattle.bk_machine.specs.Acts.{Act, logged, kept_after}
use Rattle.bk_machine.specs.Checks.{free_paths, paths_of, used_up}
use Rattle.bk_machine.specs.MayDo.{HoldsOf, MayDo}
use Rattle.bk_machine.specs.World.{World, Database, database_named, log_of}
use Rattle.bk_shown.specs.Shown.{AreNext}
use Rattle.bk_world.specs.declared.database.FileSpec.{FileSpec}
use Rattle.bk_world.specs.declared.transaction.Open.{Open}
use Rattle.bk_world.specs.Records.{Said, checkpointed, numbered}
use Rattle.bk_world.specs.Says.{alone}
use Rattle.bk_world.specs.Telling.{model}

-- what is taken in of an act that says something: each record may come next
abbrev pub IsTaken : World → Act → Type 0
IsTaken w (logged name said transactions) = HoldsOf (database_named w.databases name) (λ (db : Database). AreNext db.files (log_of w.history db) (numbered db.end said))
IsTaken w _ = Unit {0}

-- what a database says is numbered from its end on
abbrev pub IsNumbered : World → StoredAct → Type 0
IsNumbered w (LoggedAct name transactions records) = HoldsOf (database_named w.databases name) (λ (db : Database). (said : List Said) × Spell records db.end said)
IsNumbered w _ = Unit {0}

-- A checkpoint is marked of a database at its end: what is open in it stays open, and the live log holds behind it what the machine keeps.
pub record MarksEnd (w : World) (name : List ℕ) (time kept : ℕ) (act : Act) (db : Database) : Type 0 where
  pub act_is : act ≡ logged name (alone (checkpointed time)) db.transactions
  pub kept_is : kept ≡ kept_after db (model (log_of w.history db)) db.end

abbrev pub IsMarked : World → StoredAct → Act → Type 0
IsMarked w (Checkpointed name time kept) act = HoldsOf (database_named w.databases name) (MarksEnd w name time kept act)
IsMarked w _ act = Unit {0}

-- GUIDs are drawn where some are left
abbrev pub MayDraw : World → StoredAct → Type 0
MayDraw w (Created creation) = used_up w.counter ≡ false
MayDraw w _ = Unit {0}

-- a database is made of data files whose paths no other database has
abbrev pub HasFreePaths : World → StoredAct → Type 0
HasFreePaths w (Created creation) = free_paths (paths_of w.databases) (map (λ (f : FileSpec). f.path) creation.storage.files) ≡ Ok tt
HasFreePaths w _ = Unit {0}

-- A stored act is this act, which may be done to a world and is taken in there.
pub record IsDone (w : World) (stored : StoredAct) (act : Act) : Type 0 where
  pub means : Means stored act
  pub may : MayDo w act
  pub draws : MayDraw w stored
  pub unused : HasFreePaths w stored
  pub from_end : IsNumbered w stored
  pub marked : IsMarked w stored act
  pub taken : IsTaken w act

-- The database of a name may say this, behind which these transactions are open, and these records are it from the database's end on.
pub record SaysNamed (w : World) (name : List ℕ) (records : List Rec) (said : List Said) (transactions : List Open) : Type 0 where
  pub may : MayDo w (logged name said transactions)
  pub can : HoldsOf (database_named w.databases name) (λ (db : Database). AreNext db.files (log_of w.history db) (numbered db.end said))
  pub spelled_is : HoldsOf (database_named w.databases name) (λ (db : Database). Spell records db.end said)
