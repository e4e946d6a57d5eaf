-- What plans of one part are.
use Rattle.std.specs.Prelude.{◌≡◌, ℕ, Bool, List, [], ◌∷◌}
use Rattle.bk_acts.specs.declared.act.StoredAct.{StoredAct}
use Rattle.bk_acts.specs.declared.act.StoredAct.TheVariants.{Checkpointed, Logged}
use Rattle.bk_acts.specs.Meaning.{Spell}
use Rattle.bk_ids.specs.declared.record.Rec.{Rec}
use Rattle.bk_machine.specs.Acts.{kept_after, said_time}
use Rattle.bk_machine.specs.World.{World, log_of}
use Rattle.bk_world.specs.Records.{Said}
use Rattle.bk_world.specs.Telling.{model}
use Rattle.bk_world.specs.declared.reply.Reply.{Reply}
use Rattle.bk_world.specs.declared.transaction.Open.{Open}
use Rattle.bk_kept.specs.declared.kept.Database.{Database as KeptDatabase}
use Rattle.bk_plans.specs.declared.parts.Part.TheVariants.{Stored}
use Rattle.bk_plans.specs.declared.parts.Plan.{Plan}
use Rattle.bk_plans.specs.declared.parts.Plan.TheVariants.{Refused, Parts, Readied}
use Rattle.bk_plans.specs.declared.refusal.Refusal.{Refusal}
use Rattle.bk_plans.specs.declared.refusal.Refusal.TheVariants.{Broken, NoMemory}
use Rattle.bk_kept.specs.Keeps.{ShowsLog, database_of}

-- a plan refuses by the rule of a refusal
abbrev pub IsRefusedBy : Refusal → Plan → Type 0
IsRefusedBy (Broken rule) plan = plan ≡ Refused rule
IsRefusedBy NoMemory plan = ⊥

-- a plan stores one act, and replies
abbrev pub IsOne : StoredAct → Reply → Plan → Type 0
IsOne stored reply (Parts parts answer) = (parts.items ≡ Stored stored ∷ []) × (answer ≡ reply)
IsOne stored reply _ = ⊥

-- a plan has no parts, and says whether the current session's next backup only starts
abbrev pub IsReadied : Bool → Reply → Plan → Type 0
IsReadied starts reply (Readied parts ready answer) = (parts.items ≡ []) × (ready ≡ starts) × (answer ≡ reply)
IsReadied starts reply _ = ⊥

-- a plan stores one act of which this is known, and replies
abbrev pub StoresOne : (StoredAct → Type 0) → Reply → Plan → Type 0
StoresOne P reply plan = (stored : StoredAct) × IsOne stored reply plan × P stored

-- By an act a database says this at its end, and then these transactions are open.
pub record SaysNow (d : KeptDatabase) (said : List Said) (transactions : List Open) (stored : StoredAct) : Type 0 where
  pub records : List Rec
  pub is : stored ≡ Logged d.name transactions records
  pub spell : Spell records d.shown.«end» said

-- By an act it says what is said at a time, which is the machine's where its log is what it shows.
pub record SaysThen (d : KeptDatabase) (now : ℕ) (said : ℕ → List Said) (transactions : List Open) (stored : StoredAct) : Type 0 where
  pub time : ℕ
  pub says : SaysNow d (said time) transactions stored
  pub time_is : (w : World) → ShowsLog w.history d → time ≡ said_time w (database_of d) now

-- the live log of a database holds what comes from this number on, behind a checkpoint at its end
abbrev pub IsKeptBehind : KeptDatabase → ℕ → Type 0
IsKeptBehind d kept = (w : World) → ShowsLog w.history d → kept ≡ kept_after (database_of d) (model (log_of w.history (database_of d))) d.shown.«end»

-- By an act a database marks a checkpoint at its end.
pub record MarksNow (d : KeptDatabase) (time : ℕ) (stored : StoredAct) : Type 0 where
  pub kept : ℕ
  pub is : stored ≡ Checkpointed d.name time kept
  pub kept_is : IsKeptBehind d kept

-- By an act it marks one at a time, which is the machine's where its log is what it shows.
pub record MarksThen (d : KeptDatabase) (now : ℕ) (stored : StoredAct) : Type 0 where
  pub time : ℕ
  pub marks : MarksNow d time stored
  pub time_is : (w : World) → ShowsLog w.history d → time ≡ said_time w (database_of d) now
