-- What calls of an engine do with a part.
use Rattle.std.proofs.Common.{◌≡◌, ℕ, List, ◌∷◌, None, Option, Some, sym, subst}
use Rattle.bk_device.specs.Compose.{effect_weaken}
use Rattle.bk_device.specs.Disk.{Disk}
use Rattle.bk_device.specs.Effects.{Effect}
use Rattle.bk_engine.specs.Acts.{CutsAct}
use Rattle.bk_engine.specs.Jobs.{StartsSet, StepsSet}
use Rattle.bk_engine.specs.Stands.{Covers, IsOurs, Kept, StandsFor}
use Rattle.bk_kept.specs.Jobs.{IsApart}
use Rattle.bk_machine.specs.Acts.{Act, done, done_all, job_set, medium_made, noted, seated, set_drawn, set_sealed, turned}
use Rattle.bk_machine.specs.declared.history_row.HistoryRow.{HistoryRow}
use Rattle.bk_machine.specs.declared.history_row.HistoryRow.TheVariants as history
use Rattle.bk_machine.specs.declared.job.Job.{Job}
use Rattle.bk_machine.specs.MayDo.{MayDo}
use Rattle.bk_machine.specs.statements.Job.{stepped}
use Rattle.bk_machine.specs.World.{World}
use Rattle.bk_plans.specs.declared.parts.Part.{Part}
use Rattle.bk_plans.specs.declared.parts.Part.TheVariants as part
use Rattle.bk_plans.specs.declared.parts.Plan.TheVariants as plan
use Rattle.bk_plans.specs.Planning.{IsShortStop, KeepsRow, StartsJob, StepsJob}
use Rattle.bk_msdb.specs.Spelling.{IsShortStop as IsShortSpelled, KeepsRow as KeepsSpelled}
use Rattle.bk_restarts.specs.Crashes.{CutIn}
use Rattle.bk_restarts.specs.CutLaws.{cut-act, cut-first}
use Rattle.bk_sealing.specs.Sealing.{IsSetNow}
use Rattle.bk_world.specs.declared.header.Header.{Header}
use Rattle.bk_world.specs.Medium.{medium_at}
use Rattle.bk_executing.specs.Parts.{CutsPart, DoesPart, DoesPlan}

-- ---- an act that is whole or absent

pub whole-cut : (w : World) (act meant : Act) (acts : List Act) {a b : Disk} → meant ≡ act → Effect IsOurs (CutsAct w act) a b → Effect IsOurs (CutIn w (meant ∷ acts)) a b
whole-cut w act meant acts {a = a} {b = b} same effect = subst (λ (x : Act). Effect IsOurs (CutIn w (x ∷ acts)) a b) (sym same) (effect_weaken (λ image cut. cut-act w act acts image cut) effect)

-- ---- a medium is made

pub medium-does : (old new : Kept) (a b : Disk) (path : List ℕ) → ((w : World) → StandsFor a old w → medium_at w.media path ≡ None → StandsFor b new (done w (medium_made path))) → DoesPart old a (part.MediumMade path) new b
medium-does old new a b path does w act stands is = subst (λ (x : Act). StandsFor b new (done w x)) (sym is.0.is) (does w stands is.0.absent)

pub medium-cuts : (old : Kept) (a b : Disk) (path : List ℕ) → ((w : World) → StandsFor a old w → medium_at w.media path ≡ None → Effect IsOurs (CutsAct w (medium_made path)) a b) → CutsPart old a (part.MediumMade path) b
medium-cuts old a b path cuts w act acts stands is = whole-cut w (medium_made path) act acts is.0.is (cuts w stands is.0.absent)

-- ---- the GUID of a set is drawn

pub drawn-does : (old new : Kept) (a b : Disk) → ((w : World) → StandsFor a old w → StandsFor b new (done w set_drawn)) → DoesPart old a part.SetDrawn new b
drawn-does old new a b does w act stands is = subst (λ (x : Act). StandsFor b new (done w x)) (sym is.0.is) (does w stands)

pub drawn-cuts : (old : Kept) (a b : Disk) → ((w : World) → StandsFor a old w → Effect IsOurs (CutsAct w set_drawn) a b) → CutsPart old a part.SetDrawn b
drawn-cuts old a b cuts w act acts stands is = whole-cut w set_drawn act acts is.0.is (cuts w stands)

-- ---- a set is sealed

pub set-does : (old new : Kept) (a b : Disk) (path : List ℕ) (header : Header) → ((w : World) → StandsFor a old w → IsSetNow w header → IsApart w header.set → StandsFor b new (done w (set_sealed path header))) → DoesPart old a (part.SetSealed path header) new b
set-does old new a b path header does w act stands is = subst (λ (x : Act). StandsFor b new (done w x)) (sym is.0.is) (does w stands is.1.0 is.1.1)

pub set-cuts : (old : Kept) (a b : Disk) (path : List ℕ) (header : Header) → ((w : World) → StandsFor a old w → IsSetNow w header → IsApart w header.set → Effect IsOurs (CutsAct w (set_sealed path header)) a b) → CutsPart old a (part.SetSealed path header) b
set-cuts old a b path header cuts w act acts stands is = whole-cut w (set_sealed path header) act acts is.0.is (cuts w stands is.1.0 is.1.1)

-- ---- a row comes to its table of msdb

-- what a plan keeps of a row is what its file asks for
keeps-stop : (stop : Option (List ℕ)) → IsShortStop stop → IsShortSpelled stop
keeps-stop None is = tt
keeps-stop (Some stop) is = is

pub keeps-spelled : (row : HistoryRow) → KeepsRow row → KeepsSpelled row
keeps-spelled (history.Backup row) keeps = keeps
keeps-spelled (history.Restore row) keeps = keeps-stop row.stop keeps
keeps-spelled (history.Mark row) keeps = keeps

pub noted-does : (old : Kept) (a b : Disk) (row : HistoryRow) → ((w : World) → StandsFor a old w → StandsFor b old (done w (noted row))) → DoesPart old a (part.Noted row) old b
noted-does old a b row does w act stands is = subst (λ (x : Act). StandsFor b old (done w x)) (sym is.0) (does w stands)

pub noted-cuts : (old : Kept) (a b : Disk) (row : HistoryRow) → ((w : World) → StandsFor a old w → Effect IsOurs (CutsAct w (noted row)) a b) → CutsPart old a (part.Noted row) b
noted-cuts old a b row cuts w act acts stands is = whole-cut w (noted row) act acts is.0 (cuts w stands)

-- ---- backups that run beside the sessions

-- what a plan says of one that starts is what the call asks for
starts-set : (w : World) (name : List ℕ) (job : Job) → StartsJob w name job → StartsSet w name job
starts-set w name job is = record { db = is.db; found = is.found; none = is.none; may = is.may; whole = is.whole; apart = is.apart }

module _ (old : Kept) (a b : Disk) (name : List ℕ) (job copy : Job) (same : copy ≡ job) where
  pub begun-does : (new : Kept) → ((w : World) → StandsFor a old w → StartsSet w name copy → StandsFor b new (done w (job_set name (Some copy)))) → DoesPart old a (part.JobBegun name job) new b
  begun-does new does w act stands is =
      let made : StandsFor b new (done w (job_set name (Some copy))) = does w stands (subst (StartsSet w name) (sym same) (starts-set w name job is.0.starts)) in
      subst (λ (x : Act). StandsFor b new (done w x)) (sym is.0.is) (subst (λ (j : Job). StandsFor b new (done w (job_set name (Some j)))) same made)

  pub begun-cuts : ((w : World) → StandsFor a old w → StartsSet w name copy → Effect IsOurs (CutsAct w (job_set name (Some copy))) a b) → CutsPart old a (part.JobBegun name job) b
  begun-cuts cuts w act acts stands is =
      let cut : Effect IsOurs (CutsAct w (job_set name (Some copy))) a b = cuts w stands (subst (StartsSet w name) (sym same) (starts-set w name job is.0.starts)) in
      whole-cut w (job_set name (Some job)) act acts is.0.is (subst (λ (j : Job). Effect IsOurs (CutsAct w (job_set name (Some j))) a b) same cut)

-- nothing of a part was done yet
pub part-none : (old : Kept) (a b : Disk) (p : Part) → ((w : World) → StandsFor a old w → Effect IsOurs (Covers w) a b) → CutsPart old a p b
part-none old a b p here w act acts stands is = effect_weaken (λ image covers. cut-first w (act ∷ acts) image covers) (here w stands)

-- and of one that goes on
steps-set : (w : World) (name : List ℕ) (count : ℕ) (act : Act) (is : StepsJob w name count act) → StepsSet w name count is.job
steps-set w name count act is = record { db = is.db; found = is.found; runs = is.runs; may = subst (MayDo w) is.is is.may }

pub stepped-does : (old new : Kept) (a b : Disk) (name : List ℕ) (count : ℕ) → ((w : World) (job : Job) → StandsFor a old w → StepsSet w name count job → StandsFor b new (done w (job_set name (Some (stepped count job))))) → DoesPart old a (part.JobStepped name count) new b
stepped-does old new a b name count does w act stands is = subst (λ (x : Act). StandsFor b new (done w x)) (sym is.0.is) (does w is.0.job stands (steps-set w name count act is.0))

pub stepped-cuts : (old : Kept) (a b : Disk) (name : List ℕ) (count : ℕ) → ((w : World) (job : Job) → StandsFor a old w → StepsSet w name count job → Effect IsOurs (Covers w) a b) → CutsPart old a (part.JobStepped name count) b
stepped-cuts old a b name count cuts w act acts stands is = effect_weaken (λ image covers. cut-first w (act ∷ acts) image covers) (cuts w is.0.job stands (steps-set w name count act is.0))

-- ---- sessions

pub turned-does : (old new : Kept) (a b : Disk) (name : Option (List ℕ)) → ((w : World) → Unit {0} → StandsFor a old w → StandsFor b new (done w (turned name))) → DoesPlan old a (plan.Turned name) new b
turned-does old new a b name does w acts stands are = subst (λ (all : List Act). StandsFor b new (done_all w all)) (sym are) (does w tt stands)

pub seated-does : (old new : Kept) (a b : Disk) (session : ℕ) → ((w : World) → MayDo w (seated session) → StandsFor a old w → StandsFor b new (done w (seated session))) → DoesPlan old a (plan.Seated session) new b
seated-does old new a b session does w acts stands are = subst (λ (all : List Act). StandsFor b new (done_all w all)) (sym are.0) (does w are.1 stands)
