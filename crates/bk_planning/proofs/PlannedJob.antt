-- The lines `:start` and `:step n` as they are planned.
use Rattle.std.proofs.Common.{◌≡◌, ℕ, List, [], ◌∷◌, Some, Ok, refl, sym, subst}
use Rattle.std.specs.Prelude.{true}
use Rattle.bk_items.specs.declared.item.ScriptItem.TheVariants as script
use Rattle.bk_machine.specs.Acts.{job_set}
use Rattle.bk_machine.specs.Machine.{May}
use Rattle.bk_machine.specs.Outcome.{in_one}
use Rattle.bk_machine.specs.Sound.{IsSound}
use Rattle.bk_machine.specs.World.{World}
use Rattle.bk_machine.specs.declared.job.Job.{Job}
use Rattle.bk_machine.specs.statements.Job.{DoesStep, Running, check_job, stepped}
use Rattle.bk_world.specs.declared.reply.Reply.TheVariants.{Done, Nothing}
use Rattle.bk_kept.specs.declared.kept.Database.{Database as KeptDatabase}
use Rattle.bk_kept.specs.declared.kept.Kept.{Kept}
use Rattle.bk_kept.specs.Keeps.{Sees, database_of}
use Rattle.bk_plans.specs.declared.parts.Part.{Part}
use Rattle.bk_plans.specs.declared.parts.Part.TheVariants.{JobStepped}
use Rattle.bk_plans.specs.declared.parts.Plan.{Plan}
use Rattle.bk_plans.specs.declared.parts.Plan.TheVariants.{Refused, Answered, Turned, Seated, Parts, Readied}
use Rattle.bk_plans.specs.declared.refusal.Refusal.{Refusal}
use Rattle.bk_plans.specs.Checking.{IsRefused}
use Rattle.bk_plans.specs.JobLaws.{IsRunning, was-running}
use Rattle.bk_plans.specs.Planned.{IsReadied, IsRefusedBy}
use Rattle.bk_plans.specs.Planning.{AreParts, Plans, StepsJob}
use Rattle.bk_plans.specs.PlanLaws.{DoWhatTheyMay, comes-found, comes-refused, plans-readied, plans-refusal}
use Rattle.bk_planning.specs.Stepping.{IsStep}

pub start-planned : (k : Kept) (line now : ℕ) (plan : Plan) → IsReadied true Nothing plan → Plans k (λ w. Unit {0}) (record { item = script.Start; line = line }) now plan
unfolding May
start-planned k line now plan is = plans-readied k (λ w. Unit {0}) (record { item = script.Start; line = line }) now true Nothing plan is (λ w sound sees known. refl)

module _ (k : Kept) (line now count : ℕ) where
  pub step-refused : (refusal : Refusal) (plan : Plan) → IsRefusedBy refusal plan → ((w : World) → Sees w k → IsRefused refusal (check_job w))
      → Plans k (λ w. Unit {0}) (record { item = script.Step count; line = line }) now plan
  unfolding May
  step-refused refusal plan is refuses =
      plans-refusal k (λ w. Unit {0}) (record { item = script.Step count; line = line }) now check_job refusal plan is
      (λ w sound sees known. refuses w sees) (λ w rule e. comes-refused (check_job w) (DoesStep count) rule e)

  module _ (law : DoWhatTheyMay) (d : KeptDatabase) (job : Job) (passes : (w : World) → Sees w k → check_job w ≡ Ok (record { database = database_of d; job = job })) where
    -- it comes to one act
    may-step : (w : World) → Sees w k → May w (record { item = script.Step count; line = line }) now (in_one (job_set d.name (Some (stepped count job))) Done)
    unfolding May
    may-step w sees = comes-found (check_job w) (DoesStep count) (record { database = database_of d; job = job }) (in_one (job_set d.name (Some (stepped count job))) Done) (passes w sees) refl

    -- by which the backup goes on
    steps : (w : World) → IsSound w → Sees w k → StepsJob w d.name count (job_set d.name (Some (stepped count job)))
    steps w sound sees =
        let its : IsRunning w (record { database = database_of d; job = job }) = was-running w (record { database = database_of d; job = job }) (passes w sees) in
        record {
          db = database_of d;
          found = its.named;
          job = job;
          runs = its.runs;
          is = refl;
          may = (law w (record { item = script.Step count; line = line }) now (in_one (job_set d.name (Some (stepped count job))) Done) sound (may-step w sees)).0;
        }

    pub step-planned : (plan : Plan) → IsStep d.name count plan → Plans k (λ w. Unit {0}) (record { item = script.Step count; line = line }) now plan
    step-planned (Parts parts answer) is = record {
      outcome = in_one (job_set d.name (Some (stepped count job))) Done;
      replies = sym is.1;
      may = λ w sound sees known. may-step w sees;
      acts = λ w sound sees known. subst (λ (ps : List Part). AreParts w ps (job_set d.name (Some (stepped count job)) ∷ [])) (sym is.0) (steps w sound sees, tt);
    }
    step-planned (Refused rule) is = absurd is
    step-planned (Answered reply) is = absurd is
    step-planned (Turned name) is = absurd is
    step-planned (Seated session) is = absurd is
    step-planned (Readied parts starts answer) is = absurd is
