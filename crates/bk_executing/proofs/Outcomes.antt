-- What the parts of a plan write to, and which plans store nothing.
use Rattle.std.proofs.Common.{◌≡◌, inl, inr, ℕ, List, [], ◌∷◌, ◌++◌, refl, sym, subst}
use Rattle.std.specs.List.{AllByRecursion}
use Rattle.bk_acts.specs.declared.act.StoredAct.{StoredAct}
use Rattle.bk_acts.specs.declared.act.StoredAct.TheVariants as kind
use Rattle.bk_acts.specs.Meaning.{Means}
use Rattle.bk_machine.specs.Acts.{Act, done, readied}
use Rattle.bk_machine.specs.Outcome.{Outcome}
use Rattle.bk_machine.specs.World.{World}
use Rattle.bk_machine.specs.Writes.{ActWrites, ActsWrite, IsStill, IsTurn}
use Rattle.bk_plans.specs.declared.parts.Part.{Part}
use Rattle.bk_plans.specs.declared.parts.Part.TheVariants.{Stored, MediumMade, SetDrawn, SetSealed, Noted, JobBegun, JobStepped}
use Rattle.bk_plans.specs.declared.parts.Plan.{Plan}
use Rattle.bk_plans.specs.declared.parts.Plan.TheVariants.{Refused, Answered, Turned, Seated, Parts, Readied}
use Rattle.bk_plans.specs.Planning.{AreActsOf, AreParts, IsPart}
use Rattle.bk_executing.specs.Parts.{HasNoParts, PartWrites, PartsWrite, PlanWrites}

-- Parts.

part-writes : (w : World) (part : Part) (act : Act) → IsPart w part act → (path : List ℕ) → PartWrites part path → ActWrites act path
part-writes w (Stored stored) act is path writes = absurd writes
part-writes w (MediumMade at) act is path writes = subst (λ a. ActWrites a path) (sym is.is) writes
part-writes w SetDrawn act is path writes = absurd writes
part-writes w (SetSealed at header) act is path writes = subst (λ a. ActWrites a path) (sym is.is) writes
part-writes w (Noted row) act is path writes = absurd writes
part-writes w (JobBegun name job) act is path writes = absurd writes
part-writes w (JobStepped name count) act is path writes = absurd writes

parts-write : (w : World) (parts : List Part) (acts : List Act) → AreParts w parts acts → (path : List ℕ) → PartsWrite parts path → ActsWrite acts path
parts-write w [] acts are path writes = absurd writes
parts-write w (part ∷ parts) [] are path writes = absurd are
parts-write w (part ∷ parts) (act ∷ acts) are path (inl writes) = inl (part-writes w part act are.0 path writes)
parts-write w (part ∷ parts) (act ∷ acts) are path (inr writes) = inr (parts-write (done w act) parts acts are.1 path writes)

-- what acts write to, they write to where others come behind them
pub writes-before : (front rest : List Act) (path : List ℕ) → ActsWrite front path → ActsWrite (front ++ rest) path
writes-before [] rest path writes = absurd writes
writes-before (act ∷ front) rest path (inl writes) = inl writes
writes-before (act ∷ front) rest path (inr writes) = inr (writes-before front rest path writes)

-- no part writes to another medium than the acts of the plan
pub plan-writes : (w : World) (plan : Plan) (acts : List Act) → AreActsOf w plan acts → (path : List ℕ) → PlanWrites plan path → ActsWrite acts path
plan-writes w (Refused rule) acts are path writes = absurd writes
plan-writes w (Answered answer) acts are path writes = absurd writes
plan-writes w (Turned name) acts are path writes = absurd writes
plan-writes w (Seated session) acts are path writes = absurd writes
plan-writes w (Parts parts answer) acts are path writes = parts-write w parts.items acts are path writes
plan-writes w (Readied parts starts answer) acts are path writes =
    subst (λ (all : List Act). ActsWrite all path) (sym are.are) (writes-before are.front (readied starts ∷ []) path (parts-write w parts.items are.front are.parts_are path writes))

-- What stores nothing.

-- a stored act touches more than memory
not-meant : (stored : StoredAct) (act : Act) → IsTurn act → Means stored act → ⊥
not-meant (kind.Created creation) act is means = subst IsTurn means is
not-meant (kind.Dropped other) act is means = subst IsTurn means is
not-meant (kind.Logged other transactions records) act is means = subst IsTurn means.act_is is
not-meant (kind.Checkpointed other time kept) act is means = subst IsTurn means.act_is is
not-meant (kind.Based other header) act is means = subst IsTurn means is

-- and so does each part
not-part : (w : World) (part : Part) (act : Act) → IsTurn act → IsPart w part act → ⊥
not-part w (Stored stored) act turn is = not-meant stored act turn is.means
not-part w (MediumMade at) act turn is = subst IsTurn is.is turn
not-part w SetDrawn act turn is = subst IsTurn is.is turn
not-part w (SetSealed at header) act turn is = subst IsTurn is.is turn
not-part w (Noted row) act turn is = subst IsTurn is turn
not-part w (JobBegun name job) act turn is = subst IsTurn is.is turn
not-part w (JobStepped name count) act turn is = subst IsTurn is.is turn

none-stored : (w : World) (parts : List Part) (acts : List Act) → AreParts w parts acts → AllByRecursion IsTurn acts → parts ≡ []
none-stored w [] acts are still = refl
none-stored w (part ∷ parts) [] are still = absurd are
none-stored w (part ∷ parts) (act ∷ acts) are still = absurd (not-part w part act still.0 are.0)

still-front : (front rest : List Act) → AllByRecursion IsTurn (front ++ rest) → AllByRecursion IsTurn front
still-front [] rest still = tt
still-front (act ∷ front) rest still = (still.0, still-front front rest still.1)

-- the plan of an outcome that stores nothing has no parts
pub still-plan : (w : World) (plan : Plan) (outcome : Outcome) → AreActsOf w plan outcome.acts → IsStill outcome → HasNoParts plan
still-plan w (Refused rule) outcome are still = tt
still-plan w (Answered answer) outcome are still = tt
still-plan w (Turned name) outcome are still = tt
still-plan w (Seated session) outcome are still = tt
still-plan w (Parts parts answer) outcome are still = none-stored w parts.items outcome.acts are still
still-plan w (Readied parts starts answer) outcome are still =
    none-stored w parts.items are.front are.parts_are (still-front are.front (readied starts ∷ []) (subst (λ (all : List Act). AllByRecursion IsTurn all) are.are still))
