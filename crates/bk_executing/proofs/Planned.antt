-- A statement that was planned, and whose plan is followed.
use Rattle.std.proofs.Common.{◌≡◌, inl, inr, ℕ, List, [], ◌∷◌, ◌++◌, None, Ok, Err, refl, sym, ◌∙◌, subst}
use Rattle.std.specs.Prelude.{Result, IfOk, OnOk, OnErr}
use Rattle.bk_engine.specs.RowLaws.{calm-nothing}
use Rattle.bk_archive.specs.MediaLaws.{media-in}
use Rattle.bk_device.specs.Calls.{ChangesNothing}
use Rattle.bk_device.specs.Compose.{effect_of_nothing, effect_then}
use Rattle.bk_device.specs.Disk.{Disk, IsLawful}
use Rattle.bk_device.specs.Effects.{Effect}
use Rattle.bk_device.specs.Laws.{effect_after_nothing, nothing_then}
use Rattle.bk_device.specs.declared.trouble.Trouble.{Trouble}
use Rattle.bk_engine.specs.BesideLaws.{hosting-stays, stores-stand}
use Rattle.bk_engine.specs.CopiedLaws.{copied-nothing}
use Rattle.bk_engine.specs.Stands.{IsOurs, Kept, StandsFor}
use Rattle.bk_engine.specs.Touched.{IsPath, TouchesOnly}
use Rattle.bk_engine.specs.TouchLaws.{wider-touch}
use Rattle.bk_engine.specs.Viewing.{Remembers}
use Rattle.bk_engine.specs.ViewLaws.{remembers}
use Rattle.bk_items.specs.declared.item.ScriptEntry.{ScriptEntry}
use Rattle.bk_items.specs.declared.item.ScriptItem.{ScriptItem}
use Rattle.bk_items.specs.declared.options.RestoreOptions.{RestoreOptions}
use Rattle.bk_kept.specs.declared.kept.Kept.{Kept as KeptOf}
use Rattle.bk_kept.specs.Keeps.{Sees}
use Rattle.bk_machine.specs.Acts.{Act, done, readied}
use Rattle.bk_machine.specs.Machine.{May}
use Rattle.bk_machine.specs.MayDo.{MayDoAll}
use Rattle.bk_machine.specs.Outcome.{Outcome}
use Rattle.bk_machine.specs.Sound.{IsSound}
use Rattle.bk_machine.specs.World.{World}
use Rattle.bk_machine.specs.Writes.{ActWrites, ActsWrite, IsStill}
use Rattle.bk_media_plans.specs.declared.restore_plan.RestorePlan.{RestorePlan}
use Rattle.bk_media_plans.specs.Found.{Found}
use Rattle.bk_media_plans.specs.RestorePlans.{PlansRestore}
use Rattle.bk_media_plans.specs.declared.wait_plan.WaitPlan.{WaitPlan}
use Rattle.bk_media_plans.specs.Waits.{HasSets, PlansWait}
use Rattle.bk_plans.specs.declared.parts.Part.{Part}
use Rattle.bk_plans.specs.declared.parts.Part.TheVariants.{JobBegun, JobStepped, MediumMade, Noted, SetDrawn, SetSealed, Stored}
use Rattle.bk_plans.specs.declared.parts.Plan.{Plan}
use Rattle.bk_plans.specs.declared.parts.Plan.TheVariants.{Answered, Parts, Readied, Refused, Seated, Turned}
use Rattle.bk_plans.specs.Planning.{AreActsOf, AreParts, Plans, reply_of}
use Rattle.bk_restarts.specs.Crashes.{CutIn}
use Rattle.bk_stores.specs.Standing.{AreStanding}
use Rattle.bk_stores.specs.Stores.{Kept as KeptStores}
use Rattle.bk_volume.specs.Names.{medium_file}
use Rattle.bk_world.specs.declared.reply.Reply.{Reply}
use Rattle.bk_world.specs.declared.rule.Rule.{Rule}
use Rattle.bk_executing.specs.Executing.{Executed, Failed, Rests}
use Rattle.bk_executing.specs.Parts.{CutsPlan, DoesPlan, HasNoParts, MayDoParts, MayFollow, PlanWrites, SealsNow}
use Rattle.bk_executing.specs.Planned.{IsPlanned, IsRestorePlanned, IsWaitPlanned}
use Rattle.bk_executing.proofs.Outcomes.{plan-writes, still-plan, writes-before}

-- ---- a device that was read alone

pub stands-nothing : (a b : Disk) (e : Kept) (w : World) → ChangesNothing a b → StandsFor a e w → StandsFor b e w
stands-nothing a b e w call is = record {
  sound = is.sound;
  instance = is.instance;
  counter = is.counter;
  session = is.session;
  sessions = is.sessions;
  hosted = is.hosted;
  hosts = is.hosts;
  hosting = hosting-stays e.hosting is.hosted (record { same = λ name at. call.files name; nothing_more = λ name at. call.nothing_more name }) is.hosting;
  media = media-in w None a.files b.files (λ path are. call.files (medium_file path)) is.media;
  calm = calm-nothing call is.calm;
  copied = copied-nothing a b is.hosted call is.copied;
}

pub standing-nothing : (a b : Disk) (s : KeptStores) → ChangesNothing a b → AreStanding a s → AreStanding b s
standing-nothing a b s call is = stores-stand s (record { same = λ name at. call.files name; nothing_more = λ name at. call.nothing_more name }) is

pub touches-nothing : {named : List ℕ → Type 0} {a b : Disk} → ChangesNothing a b → TouchesOnly named a b
touches-nothing call = effect_of_nothing (λ image left. tt) call

-- ---- plans over what is seen

pub planned : (k : KeptOf) (e : Kept) (Known : World → Type 0) (s : ScriptEntry) (now : ℕ) (plan : Plan) → ((w : World) → Remembers e w → Sees w k) → Plans k Known s now plan → IsPlanned e Known s now plan
planned k e Known s now plan sees plans = record {
  outcome = plans.outcome;
  replies = plans.replies;
  may = λ w sound has known. plans.may w sound (sees w has) known;
  acts = λ w sound has known. plans.acts w sound (sees w has) known;
}

pub planned-all : {E : Type 0} (k : KeptOf) (e : Kept) (Known : World → Type 0) (s : ScriptEntry) (now : ℕ) (result : Result Plan E) → ((w : World) → Remembers e w → Sees w k) → IfOk result (Plans k Known s now) → IfOk result (IsPlanned e Known s now)
planned-all k e Known s now (Ok plan) sees plans = planned k e Known s now plan sees plans
planned-all k e Known s now (Err error) sees plans = tt

pub restore-planned : {E : Type 0} (k : KeptOf) (e : Kept) (Known : World → Type 0) (options : RestoreOptions) (found : Result Found Rule) (s : ScriptEntry) (now : ℕ) (result : Result RestorePlan E) → ((w : World) → Remembers e w → Sees w k) → IfOk result (PlansRestore k Known options found s now)
    → IfOk result (IsRestorePlanned e Known options found s now)
restore-planned k e Known options found s now (Ok plan) sees plans = record {
  outcome = plans.outcome;
  replies = plans.replies;
  may = λ w sound has known. plans.may w sound (sees w has) known;
  acts = λ w sound has known. plans.acts w sound (sees w has) known;
}
restore-planned k e Known options found s now (Err error) sees plans = tt

pub wait-planned : (k : KeptOf) (e : Kept) (sets : ℕ) (s : ScriptEntry) (now : ℕ) (plan : WaitPlan) → ((w : World) → Remembers e w → Sees w k) → PlansWait k (λ w. HasSets w sets) sets s now plan → IsWaitPlanned e sets s now plan
wait-planned k e sets s now plan sees plans = record {
  outcome = plans.outcome;
  replies = plans.replies;
  may = λ w sound has known. plans.may w sound (sees w has) known;
  acts = λ w sound has known. plans.acts w sound (sees w has) known;
}

-- ---- sets that are sealed

-- each is one of its database as it is
abbrev pub SetsNow : World → List Part → List Act → Type 0
SetsNow w (part ∷ parts) (act ∷ acts) = SealsNow w part × SetsNow (done w act) parts acts
SetsNow w _ _ = Unit {0}

abbrev pub PlanSets : World → Plan → List Act → Type 0
PlanSets w (Parts parts answer) acts = SetsNow w parts.items acts
PlanSets w (Readied parts starts answer) acts = (front : List Act) → AreParts w parts.items front → acts ≡ front ++ readied starts ∷ [] → SetsNow w parts.items front
PlanSets w _ acts = Unit {0}

parts-may : (w : World) (parts : List Part) (acts : List Act) → AreParts w parts acts → SetsNow w parts acts → MayDoParts w parts acts
parts-may w [] [] are sets = tt
parts-may w [] (act ∷ acts) are sets = absurd are
parts-may w (part ∷ parts) [] are sets = absurd are
parts-may w (part ∷ parts) (act ∷ acts) are sets = ((are.0, sets.0), parts-may (done w act) parts acts are.1 sets.1)

plan-may : (w : World) (plan : Plan) (acts : List Act) → AreActsOf w plan acts → MayDoAll w acts → PlanSets w plan acts → MayFollow w plan acts
plan-may w (Refused rule) acts are may sets = are
plan-may w (Answered answer) acts are may sets = are
plan-may w (Turned name) acts are may sets = are
plan-may w (Seated session) acts are may sets = (are, (subst (MayDoAll w) are may).0)
plan-may w (Parts parts answer) acts are may sets = parts-may w parts.items acts are sets
plan-may w (Readied parts starts answer) acts are may sets = record { front = are.front; parts_are = parts-may w parts.items are.front are.parts_are (sets are.front are.parts_are are.are); are = are.are }

-- where no act writes to a medium there is none
none-sealed : (w : World) (parts : List Part) (acts : List Act) → AreParts w parts acts → ((path : List ℕ) → ActsWrite acts path → ⊥) → SetsNow w parts acts
none-sealed w [] acts are none = tt
none-sealed w (part ∷ parts) [] are none = tt
none-sealed w (Stored stored ∷ parts) (act ∷ acts) are none = (tt, none-sealed (done w act) parts acts are.1 (λ path writes. none path (inr writes)))
none-sealed w (MediumMade path ∷ parts) (act ∷ acts) are none = (tt, none-sealed (done w act) parts acts are.1 (λ other writes. none other (inr writes)))
none-sealed w (SetDrawn ∷ parts) (act ∷ acts) are none = (tt, none-sealed (done w act) parts acts are.1 (λ other writes. none other (inr writes)))
none-sealed w (Noted row ∷ parts) (act ∷ acts) are none = (tt, none-sealed (done w act) parts acts are.1 (λ other writes. none other (inr writes)))
none-sealed w (JobBegun name job ∷ parts) (act ∷ acts) are none = (tt, none-sealed (done w act) parts acts are.1 (λ other writes. none other (inr writes)))
none-sealed w (JobStepped name count ∷ parts) (act ∷ acts) are none = (tt, none-sealed (done w act) parts acts are.1 (λ other writes. none other (inr writes)))
none-sealed w (SetSealed path header ∷ parts) (act ∷ acts) are none = absurd (none path (inl (subst (λ (a : Act). ActWrites a path) (sym are.0.is) refl)))

pub none-planned : (w : World) (plan : Plan) (acts : List Act) → AreActsOf w plan acts → ((path : List ℕ) → ActsWrite acts path → ⊥) → PlanSets w plan acts
none-planned w (Refused rule) acts are none = tt
none-planned w (Answered answer) acts are none = tt
none-planned w (Turned name) acts are none = tt
none-planned w (Seated session) acts are none = tt
none-planned w (Parts parts answer) acts are none = none-sealed w parts.items acts are none
none-planned w (Readied parts starts answer) acts are none = λ front parts_are is.
    none-sealed w parts.items front parts_are (λ path writes. none path (subst (λ (all : List Act). ActsWrite all path) (sym is) (writes-before front (readied starts ∷ []) path writes)))

-- ---- a plan is followed

-- What is known of each world for which an engine stands, once its device was read; what its outcome comes to may be done there, its sets too.
pub record Knows (tells : Type 0) (e : Kept) (a b : Disk) (Known : World → Type 0) (plan : Plan) (s : ScriptEntry) (now : ℕ) (outcome : Outcome) : Type 0 where
  pub lawful : tells → IsLawful a
  pub call : tells → ChangesNothing a b
  pub known : tells → (w : World) → StandsFor a e w → Known w
  pub may : (w : World) → IsSound w → May w s now outcome → MayDoAll w outcome.acts
  pub sets : (w : World) → IsSound w → May w s now outcome → AreActsOf w plan outcome.acts → PlanSets w plan outcome.acts

pub record Follows (tells : Type 0) (e : Kept) (b : Disk) (plan : Plan) (result : Result Reply Trouble) (new : Kept) (c : Disk) : Type 0 where
  pub replies : IfOk result (λ reply. reply ≡ reply_of plan)
  pub does : tells → OnOk result (DoesPlan e b plan new c)
  pub crash : tells → CutsPlan e b plan c
  pub still : tells → HasNoParts plan → OnOk result (Rests e b new c)
  pub touches : tells → TouchesOnly (PlanWrites plan) b c

module _ {tells : Type 0} {Known : World → Type 0} (e new : Kept) (a b c : Disk) (s : ScriptEntry) (now : ℕ) (plan : Plan) (plans : IsPlanned e Known s now plan) (knows : Knows tells e a b Known plan s now plans.outcome) where
  then-may : tells → (w : World) → StandsFor a e w → May w s now plans.outcome
  then-may told w stands = plans.may w stands.sound (remembers a e w stands) (knows.known told w stands)

  then-acts : tells → (w : World) → StandsFor a e w → AreActsOf w plan plans.outcome.acts
  then-acts told w stands = plans.acts w stands.sound (remembers a e w stands) (knows.known told w stands)

  then-follow : tells → (w : World) → StandsFor a e w → MayFollow w plan plans.outcome.acts
  then-follow told w stands =
      let may = then-may told w stands in
      let acts = then-acts told w stands in
      plan-may w plan plans.outcome.acts acts (knows.may w stands.sound may) (knows.sets w stands.sound may acts)

  then-cuts : (tells → CutsPlan e b plan c) → tells → (w : World) → StandsFor a e w → Effect IsOurs (CutIn w plans.outcome.acts) a c
  then-cuts crash told w stands = effect_after_nothing (knows.lawful told) (knows.call told) (crash told w plans.outcome.acts (stands-nothing a b e w (knows.call told) stands) (then-follow told w stands))

  then-spares : (tells → TouchesOnly (PlanWrites plan) b c) → tells → (w : World) → StandsFor a e w → TouchesOnly (ActsWrite plans.outcome.acts) a c
  then-spares touches told w stands = effect_then (touches-nothing (knows.call told)) (wider-touch (plan-writes w plan plans.outcome.acts (then-acts told w stands)) (touches told))

  then-still : (tells → HasNoParts plan → Rests e b new c) → tells → (w : World) → StandsFor a e w → IsStill plans.outcome → Rests e a new c
  then-still rests told w stands still =
      let then : Rests e b new c = rests told (still-plan w plan plans.outcome (then-acts told w stands) still) in
      record { device = nothing_then (knows.lawful told) (knows.call told) then.device; own = then.own; drawn = then.drawn }

  pub plan-executed : (result : Result Reply Trouble) → Follows tells e b plan result new c → IfOk result (λ reply. Executed tells e a s now reply new c)
  plan-executed (Ok reply) follows = record {
    outcome = plans.outcome;
    replies = plans.replies ∙ sym follows.replies;
    may = then-may;
    does = λ told w stands. follows.does told w plans.outcome.acts (stands-nothing a b e w (knows.call told) stands) (then-follow told w stands);
    crash = then-cuts follows.crash;
    still = then-still follows.still;
    spares = then-spares follows.touches;
  }
  plan-executed (Err error) follows = tt

  pub plan-failed : (result : Result Reply Trouble) → Follows tells e b plan result new c → OnErr result (Failed tells e a s now c)
  plan-failed (Ok reply) follows = tt
  plan-failed (Err error) follows = inr (record { outcome = plans.outcome; may = then-may; crash = then-cuts follows.crash; spares = then-spares follows.touches })

-- what was touched, whatever the files hold
pub plan-touches : {named : List ℕ → Type 0} (a b c : Disk) → ChangesNothing a b → TouchesOnly named b c → TouchesOnly IsPath a c
plan-touches a b c call touches = effect_then (touches-nothing call) (wider-touch (λ path at. tt) touches)

-- a statement is executed by its item
pub executed-by : (tells : Type 0) (e new : Kept) (a c : Disk) (s : ScriptEntry) (item : ScriptItem) (now : ℕ) (result : Result Reply Trouble) → s.item ≡ item
    → IfOk result (λ reply. Executed tells e a (record { item = item; line = s.line }) now reply new c) → IfOk result (λ reply. Executed tells e a s now reply new c)
executed-by tells e new a c s item now result is = subst (λ it. IfOk result (λ reply. Executed tells e a (record { item = it; line = s.line }) now reply new c)) (sym is)

pub failed-by : (tells : Type 0) (e : Kept) (a c : Disk) (s : ScriptEntry) (item : ScriptItem) (now : ℕ) (result : Result Reply Trouble) → s.item ≡ item
    → OnErr result (Failed tells e a (record { item = item; line = s.line }) now c) → OnErr result (Failed tells e a s now c)
failed-by tells e a c s item now result is = subst (λ it. OnErr result (Failed tells e a (record { item = it; line = s.line }) now c)) (sym is)
