-- What an engine does with the parts of statements.
use Rattle.std.specs.Prelude.{◌≡◌, ◌⊎◌, ℕ, Bool, List, [], ◌∷◌, ◌++◌}
use Rattle.bk_acts.specs.declared.act.StoredAct.{StoredAct}
use Rattle.bk_device.specs.Disk.{Disk}
use Rattle.bk_device.specs.Effects.{Effect}
use Rattle.bk_engine.specs.Stands.{IsOurs, Kept, StandsFor}
use Rattle.bk_kept.specs.Jobs.{IsApart}
use Rattle.bk_kept.specs.Stored.{IsDone}
use Rattle.bk_machine.specs.Acts.{Act, done, done_all, readied, seated}
use Rattle.bk_machine.specs.MayDo.{MayDo}
use Rattle.bk_machine.specs.World.{World}
use Rattle.bk_plans.specs.declared.parts.Part.{Part}
use Rattle.bk_plans.specs.declared.parts.Part.TheVariants.{Stored, MediumMade, SetDrawn, SetSealed, Noted, JobBegun, JobStepped}
use Rattle.bk_plans.specs.declared.parts.Plan.{Plan}
use Rattle.bk_plans.specs.declared.parts.Plan.TheVariants.{Parts, Readied, Seated}
use Rattle.bk_plans.specs.Planning.{AreActsOf, IsPart}
use Rattle.bk_restarts.specs.Crashes.{CutIn}
use Rattle.bk_sealing.specs.Sealing.{IsSetNow}

-- ---- acts that outlast a run

-- from each world for which it stood and where it may be done, it goes to the world behind it
abbrev pub DoesStored : Kept → Disk → StoredAct → Kept → Disk → Type 0
DoesStored old before stored new after = (w : World) (act : Act) → StandsFor before old w → IsDone w stored act → StandsFor after new (done w act)

-- a crash leaves what it may leave inside of the act, whatever comes behind it
abbrev pub CutsStored : Kept → Disk → StoredAct → Disk → Type 0
CutsStored old before stored after = (w : World) (act : Act) (acts : List Act) → StandsFor before old w → IsDone w stored act → Effect IsOurs (CutIn w (act ∷ acts)) before after

-- ---- parts

-- a set that is sealed is one of its database as it is, and of no backup that runs
abbrev pub SealsNow : World → Part → Type 0
SealsNow w (SetSealed path header) = IsSetNow w header × IsApart w header.set
SealsNow w (Stored stored) = Unit {0}
SealsNow w (MediumMade path) = Unit {0}
SealsNow w SetDrawn = Unit {0}
SealsNow w (Noted row) = Unit {0}
SealsNow w (JobBegun name job) = Unit {0}
SealsNow w (JobStepped name count) = Unit {0}

-- a part is this act, which may be done so
abbrev pub MayDoPart : World → Part → Act → Type 0
MayDoPart w part act = IsPart w part act × SealsNow w part

-- parts are these acts, each of which may be done behind those before it
abbrev pub MayDoParts : World → List Part → List Act → Type 0
MayDoParts w [] [] = Unit {0}
MayDoParts w (part ∷ parts) (act ∷ acts) = MayDoPart w part act × MayDoParts (done w act) parts acts
MayDoParts w _ _ = ⊥

abbrev pub DoesPart : Kept → Disk → Part → Kept → Disk → Type 0
DoesPart old before part new after = (w : World) (act : Act) → StandsFor before old w → MayDoPart w part act → StandsFor after new (done w act)

abbrev pub DoesParts : Kept → Disk → List Part → Kept → Disk → Type 0
DoesParts old before parts new after = (w : World) (acts : List Act) → StandsFor before old w → MayDoParts w parts acts → StandsFor after new (done_all w acts)

abbrev pub CutsPart : Kept → Disk → Part → Disk → Type 0
CutsPart old before part after = (w : World) (act : Act) (acts : List Act) → StandsFor before old w → MayDoPart w part act → Effect IsOurs (CutIn w (act ∷ acts)) before after

abbrev pub CutsParts : Kept → Disk → List Part → Disk → Type 0
CutsParts old before parts after = (w : World) (acts : List Act) → StandsFor before old w → MayDoParts w parts acts → Effect IsOurs (CutIn w acts) before after

-- ---- plans

-- parts are these acts but for the last, by which the current session's next backup only starts, or it doesn't any more
pub record MayReady (w : World) (parts : List Part) (starts : Bool) (acts : List Act) : Type 0 where
  pub front : List Act
  pub parts_are : MayDoParts w parts front
  pub are : acts ≡ front ++ readied starts ∷ []

abbrev pub DoesReadying : Kept → Disk → List Part → Bool → Kept → Disk → Type 0
DoesReadying old before parts starts new after = (w : World) (acts : List Act) → StandsFor before old w → MayReady w parts starts acts → StandsFor after new (done_all w acts)

abbrev pub CutsReadying : Kept → Disk → List Part → Bool → Disk → Type 0
CutsReadying old before parts starts after = (w : World) (acts : List Act) → StandsFor before old w → MayReady w parts starts acts → Effect IsOurs (CutIn w acts) before after

-- a plan is these acts, each of which may be done behind those before it
abbrev pub MayFollow : World → Plan → List Act → Type 0
MayFollow w (Parts parts answer) acts = MayDoParts w parts.items acts
MayFollow w (Readied parts starts answer) acts = MayReady w parts.items starts acts
MayFollow w (Seated session) acts = (acts ≡ seated session ∷ []) × MayDo w (seated session)
MayFollow w plan acts = AreActsOf w plan acts

abbrev pub DoesPlan : Kept → Disk → Plan → Kept → Disk → Type 0
DoesPlan old before plan new after = (w : World) (acts : List Act) → StandsFor before old w → MayFollow w plan acts → StandsFor after new (done_all w acts)

abbrev pub CutsPlan : Kept → Disk → Plan → Disk → Type 0
CutsPlan old before plan after = (w : World) (acts : List Act) → StandsFor before old w → MayFollow w plan acts → Effect IsOurs (CutIn w acts) before after

-- a plan stores nothing
abbrev pub HasNoParts : Plan → Type 0
HasNoParts (Parts parts answer) = parts.items ≡ []
HasNoParts (Readied parts starts answer) = parts.items ≡ []
HasNoParts _ = Unit {0}

-- ---- who writes to the medium at a path

abbrev pub PartWrites : Part → List ℕ → Type 0
PartWrites (Stored stored) path = ⊥
PartWrites (MediumMade at) path = path ≡ at
PartWrites SetDrawn path = ⊥
PartWrites (SetSealed at header) path = path ≡ at
PartWrites (Noted row) path = ⊥
PartWrites (JobBegun name job) path = ⊥
PartWrites (JobStepped name count) path = ⊥

abbrev pub PartsWrite : List Part → List ℕ → Type 0
PartsWrite [] path = ⊥
PartsWrite (part ∷ parts) path = PartWrites part path ⊎ PartsWrite parts path

abbrev pub PlanWrites : Plan → List ℕ → Type 0
PlanWrites (Parts parts answer) path = PartsWrite parts.items path
PlanWrites (Readied parts starts answer) path = PartsWrite parts.items path
PlanWrites _ path = ⊥
