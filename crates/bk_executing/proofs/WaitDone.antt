-- `:wait` that was planned, and whose backup was ended.
use Rattle.std.proofs.Common.{◌≡◌, inl, inr, ℕ, List, Option, Some, None, Ok, Err, sym, ◌∙◌, subst}
use Rattle.std.specs.Prelude.{Result, IfOk, OnOk, OnErr}
use Rattle.std.specs.List.{AllByRecursion}
use Rattle.std.specs.Option.{option_map}
use Rattle.bk_device.specs.Calls.{ChangesNothing}
use Rattle.bk_device.specs.Compose.{effect_then}
use Rattle.bk_device.specs.Disk.{Disk, IsLawful}
use Rattle.bk_device.specs.Effects.{Effect}
use Rattle.bk_device.specs.Laws.{effect_after_nothing}
use Rattle.bk_device.specs.declared.trouble.Trouble.{Trouble}
use Rattle.bk_engine.specs.Stands.{IsOurs, Kept, StandsFor}
use Rattle.bk_engine.specs.Touched.{IsAt, TouchesOnly}
use Rattle.bk_engine.specs.TouchLaws.{wider-touch}
use Rattle.bk_engine.specs.ViewLaws.{remembers}
use Rattle.bk_items.specs.declared.item.ScriptEntry.{ScriptEntry}
use Rattle.bk_machine.specs.Acts.{Act, done_all}
use Rattle.bk_machine.specs.declared.job.Job.{Job}
use Rattle.bk_machine.specs.Machine.{May}
use Rattle.bk_machine.specs.Outcome.{Outcome}
use Rattle.bk_machine.specs.Sound.{JobIs}
use Rattle.bk_machine.specs.World.{World}
use Rattle.bk_machine.specs.Writes.{ActsWrite, IsTurn, current_job}
use Rattle.bk_machine.specs.statements.Backup.{ShowsRoom}
use Rattle.bk_media_plans.specs.declared.wait_plan.Finish.{Finish}
use Rattle.bk_media_plans.specs.declared.wait_plan.WaitPlan.TheVariants as wait
use Rattle.bk_media_plans.specs.Waits.{AreFinishing, HasSets}
use Rattle.bk_plans.specs.declared.parts.Plan.TheVariants as plan
use Rattle.bk_restarts.specs.Crashes.{CutIn}
use Rattle.bk_world.specs.declared.reply.Reply.{Reply}
use Rattle.bk_world.specs.declared.rule.Rule.{Rule}
use Rattle.bk_world.specs.Medium.{medium_at}
use Rattle.bk_executing.specs.Executing.{Executed, Failed}
use Rattle.bk_executing.specs.Planned.{IsPlanned, IsWaitPlanned}
use Rattle.bk_executing.proofs.Other.{DoWhatTheyMay}
use Rattle.bk_executing.proofs.Planned.{Knows, stands-nothing, touches-nothing}

-- ---- how many sets are on the medium of the backup that runs

-- what is read of a medium is known of that of the backup
pub has-sets : (w : World) (path : List ℕ) (sets : ℕ) → Some path ≡ option_map (λ (job : Job). job.medium) (current_job w) → ShowsRoom (medium_at w.media path) (Ok (Some sets)) → HasSets w sets
has-sets w path sets is room = by (current_job w) is
  where
    by : (o : Option Job) → Some path ≡ option_map (λ (job : Job). job.medium) o → JobIs (λ (job : Job). ShowsRoom (medium_at w.media job.medium) (Ok (Some sets))) o
    by None same = tt
    by (Some job) same = let one : path ≡ job.medium = cc in subst (λ (p : List ℕ). ShowsRoom (medium_at w.media p) (Ok (Some sets))) one room

-- nothing where none runs
pub no-sets : (w : World) (sets : ℕ) → None ≡ option_map (λ (job : Job). job.medium) (current_job w) → HasSets w sets
no-sets w sets is = by (current_job w) is
  where
    by : (o : Option Job) → None ≡ option_map (λ (job : Job). job.medium) o → JobIs (λ (job : Job). ShowsRoom (medium_at w.media job.medium) (Ok (Some sets))) o
    by None same = tt
    by (Some job) same = absurd (cc)

-- the room of a medium, as it was read
pub room-sets : (w : World) (path : List ℕ) (sets : ℕ) (room : Result (Option ℕ) Rule) → room ≡ Ok (Some sets) → ShowsRoom (medium_at w.media path) room → ShowsRoom (medium_at w.media path) (Ok (Some sets))
room-sets w path sets room is shows = subst (ShowsRoom (medium_at w.media path)) is shows

pub each-sets : {E : Type 0} (result : Result ℕ E) (w : World) (path : List ℕ) → Some path ≡ option_map (λ (job : Job). job.medium) (current_job w) → IfOk result (λ sets. ShowsRoom (medium_at w.media path) (Ok (Some sets))) → IfOk result (HasSets w)
each-sets (Ok sets) w path is room = has-sets w path sets is room
each-sets (Err error) w path is room = tt

-- ---- one that is refused

pub refused-wait : (e : Kept) (sets : ℕ) (s : ScriptEntry) (now : ℕ) (rule : Rule) → IsWaitPlanned e sets s now (wait.Refused rule) → IsPlanned e (λ w. HasSets w sets) s now (plan.Refused rule)
refused-wait e sets s now rule plans = record { outcome = plans.outcome; replies = plans.replies; may = plans.may; acts = plans.acts }

pub knows-refused : {tells : Type 0} (e : Kept) (a b : Disk) (sets : ℕ) (s : ScriptEntry) (now : ℕ) (rule : Rule) (outcome : Outcome) → (tells → IsLawful a) → (tells → ChangesNothing a b) → (tells → (w : World) → StandsFor a e w → HasSets w sets) → DoWhatTheyMay
    → Knows tells e a b (λ w. HasSets w sets) (plan.Refused rule) s now outcome
knows-refused e a b sets s now rule outcome lawful call known does = record { lawful = lawful; call = call; known = known; may = λ w sound may. does w s now outcome sound may; sets = λ w sound may acts. tt }

-- ---- one whose backup ends

-- it writes to its medium
finish-writes : (w : World) (now sets : ℕ) (finish : Finish) (acts : List Act) → AreFinishing w now sets finish acts → (path : List ℕ) → IsAt finish.path path → ActsWrite acts path
finish-writes w now sets finish acts f path at = subst (λ (all : List Act). ActsWrite all path) (sym f.are) (inr (inr (inl (at ∙ f.path_is))))

-- and stores something
finish-stores : (w : World) (now sets : ℕ) (finish : Finish) (acts : List Act) → AreFinishing w now sets finish acts → AllByRecursion IsTurn acts → ⊥
finish-stores w now sets finish acts f still = (subst (λ (all : List Act). AllByRecursion IsTurn all) f.are still).0

module _ {tells : Type 0} (e new : Kept) (a b c : Disk) (s : ScriptEntry) (now sets : ℕ) (finish : Finish) (plans : IsWaitPlanned e sets s now (wait.Finishes finish)) (lawful : tells → IsLawful a) (call : tells → ChangesNothing a b) (known : tells → (w : World) → StandsFor a e w → HasSets w sets) where
  acts-are : tells → (w : World) → StandsFor a e w → AreFinishing w now sets finish plans.outcome.acts
  acts-are told w stands = plans.acts w stands.sound (remembers a e w stands) (known told w stands)

  may-so : tells → (w : World) → StandsFor a e w → May w s now plans.outcome
  may-so told w stands = plans.may w stands.sound (remembers a e w stands) (known told w stands)

  cuts-so : (tells → (w : World) (now sets : ℕ) (acts : List Act) → StandsFor b e w → AreFinishing w now sets finish acts → Effect IsOurs (CutIn w acts) b c) → tells → (w : World) → StandsFor a e w → Effect IsOurs (CutIn w plans.outcome.acts) a c
  cuts-so crash told w stands = effect_after_nothing (lawful told) (call told) (crash told w now sets plans.outcome.acts (stands-nothing a b e w (call told) stands) (acts-are told w stands))

  spares-so : (tells → TouchesOnly (IsAt finish.path) b c) → tells → (w : World) → StandsFor a e w → TouchesOnly (ActsWrite plans.outcome.acts) a c
  spares-so touches told w stands = effect_then (touches-nothing (call told)) (wider-touch (finish-writes w now sets finish plans.outcome.acts (acts-are told w stands)) (touches told))

  pub end-executed : (result : Result Reply Trouble) → IfOk result (λ answer. answer ≡ finish.reply)
      → (tells → (w : World) (now sets : ℕ) (acts : List Act) → StandsFor b e w → AreFinishing w now sets finish acts → OnOk result (StandsFor c new (done_all w acts)))
      → (tells → (w : World) (now sets : ℕ) (acts : List Act) → StandsFor b e w → AreFinishing w now sets finish acts → Effect IsOurs (CutIn w acts) b c) → (tells → TouchesOnly (IsAt finish.path) b c)
      → IfOk result (λ answer. Executed tells e a s now answer new c)
  end-executed (Ok answer) replies does crash touches = record {
    outcome = plans.outcome;
    replies = plans.replies ∙ sym replies;
    may = may-so;
    does = λ told w stands. does told w now sets plans.outcome.acts (stands-nothing a b e w (call told) stands) (acts-are told w stands);
    crash = cuts-so crash;
    still = λ told w stands still. absurd (finish-stores w now sets finish plans.outcome.acts (acts-are told w stands) still);
    spares = spares-so touches;
  }
  end-executed (Err error) replies does crash touches = tt

  pub end-failed : (result : Result Reply Trouble) → (tells → (w : World) (now sets : ℕ) (acts : List Act) → StandsFor b e w → AreFinishing w now sets finish acts → Effect IsOurs (CutIn w acts) b c) → (tells → TouchesOnly (IsAt finish.path) b c)
      → OnErr result (Failed tells e a s now c)
  end-failed (Ok answer) crash touches = tt
  end-failed (Err error) crash touches = inr (record { outcome = plans.outcome; may = may-so; crash = cuts-so crash; spares = spares-so touches })
