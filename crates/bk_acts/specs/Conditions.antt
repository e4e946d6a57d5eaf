-- What an act keeps beside its types.
use Rattle.std.specs.Prelude.{◌≡◌, Bool, true, false, List}
use Rattle.std.specs.List.{AllByRecursion}
use Rattle.bk_ids.specs.declared.record.Body.{Body}
use Rattle.bk_ids.specs.declared.record.Body.TheVariants.{Checkpoint}
use Rattle.bk_ids.specs.declared.record.Rec.{Rec}
use Rattle.bk_machine.specs.Fits.{FitsStorage}
use Rattle.bk_record.specs.Spelling.{KeepsLimits}
use Rattle.bk_acts.specs.declared.act.StoredAct.{StoredAct}
use Rattle.bk_acts.specs.declared.act.StoredAct.TheVariants.{Created, Dropped, Logged, Checkpointed, Based}

-- what a record tells is a checkpoint
abbrev pub is_checkpoint : Body → Bool
is_checkpoint (Checkpoint time) = true
is_checkpoint _ = false

-- what a database may say by itself: it keeps its limits, and is no checkpoint, which is marked by an act of its own
pub record MayTell (body : Body) : Type 0 where
  pub limits : KeepsLimits body
  pub plain : is_checkpoint body ≡ false

-- so it is with each of some records
pub record KeepRecords (records : List Rec) : Type 0 where
  pub limits : AllByRecursion (λ (r : Rec). KeepsLimits r.body) records
  pub plain : AllByRecursion (λ (r : Rec). is_checkpoint r.body ≡ false) records

-- what an act keeps: what its calls require
abbrev pub KeepsAct : StoredAct → Type 0
KeepsAct (Created creation) = FitsStorage creation.storage
KeepsAct (Dropped name) = Unit {0}
KeepsAct (Logged name transactions records) = KeepRecords records
KeepsAct (Checkpointed name time kept) = Unit {0}
KeepsAct (Based name header) = Unit {0}
