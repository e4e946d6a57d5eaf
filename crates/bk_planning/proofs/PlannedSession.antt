-- The line `:session n` as it is planned.
use Rattle.std.proofs.Common.{◌≡◌, ℕ, Ok, refl}
use Rattle.bk_items.specs.declared.item.ScriptItem.TheVariants as script
use Rattle.bk_machine.specs.Acts.{seated}
use Rattle.bk_machine.specs.Machine.{May}
use Rattle.bk_machine.specs.Outcome.{in_one}
use Rattle.bk_machine.specs.statements.Session.{check_session, DoesSession}
use Rattle.bk_world.specs.declared.reply.Reply.TheVariants.{Nothing}
use Rattle.bk_kept.specs.declared.kept.Kept.{Kept}
use Rattle.bk_plans.specs.declared.parts.Plan.{Plan}
use Rattle.bk_plans.specs.declared.parts.Plan.TheVariants.{Seated}
use Rattle.bk_plans.specs.declared.refusal.Refusal.{Refusal}
use Rattle.bk_plans.specs.Checking.{IsRefused}
use Rattle.bk_plans.specs.Planned.{IsRefusedBy}
use Rattle.bk_plans.specs.Planning.{Plans}
use Rattle.bk_plans.specs.PlanLaws.{comes-found, comes-refused, plans-refusal, plans-seated}

module _ (k : Kept) (line now number : ℕ) where
  pub session-refused : (refusal : Refusal) (plan : Plan) → IsRefusedBy refusal plan → IsRefused refusal (check_session line number) → Plans k (λ w. Unit {0}) (record { item = script.Session number; line = line }) now plan
  unfolding May
  session-refused refusal plan is refuses =
      plans-refusal k (λ w. Unit {0}) (record { item = script.Session number; line = line }) now (λ w. check_session line number) refusal plan is
      (λ w sound sees known. refuses) (λ w rule e. comes-refused (check_session line number) DoesSession rule e)

  pub session-seated : (session : ℕ) → check_session line number ≡ Ok session → Plans k (λ w. Unit {0}) (record { item = script.Session number; line = line }) now (Seated session)
  unfolding May
  session-seated session passes =
      plans-seated k (λ w. Unit {0}) (record { item = script.Session number; line = line }) now session
      (λ w sound sees known. comes-found (check_session line number) DoesSession session (in_one (seated session) Nothing) passes refl)
