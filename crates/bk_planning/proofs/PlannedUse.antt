-- USE as it is planned.
use Rattle.std.proofs.Common.{◌≡◌, ℕ, List, Option, Ok, ap}
use Rattle.bk_items.specs.declared.item.ScriptItem.TheVariants as script
use Rattle.bk_machine.specs.Acts.{turned}
use Rattle.bk_machine.specs.Machine.{May}
use Rattle.bk_machine.specs.Outcome.{in_one}
use Rattle.bk_machine.specs.World.{World}
use Rattle.bk_machine.specs.statements.Use.{check_use, DoesUse}
use Rattle.bk_world.specs.declared.reply.Reply.TheVariants.{Done}
use Rattle.bk_kept.specs.declared.kept.Kept.{Kept}
use Rattle.bk_plans.specs.declared.parts.Plan.{Plan}
use Rattle.bk_plans.specs.declared.parts.Plan.TheVariants.{Turned}
use Rattle.bk_plans.specs.declared.refusal.Refusal.{Refusal}
use Rattle.bk_plans.specs.Checking.{IsRefused}
use Rattle.bk_kept.specs.Keeps.{Sees}
use Rattle.bk_plans.specs.Planned.{IsRefusedBy}
use Rattle.bk_plans.specs.Planning.{Plans}
use Rattle.bk_plans.specs.PlanLaws.{comes-found, comes-refused, plans-refusal, plans-turned}

module _ (k : Kept) (line now : ℕ) (name : List ℕ) where
  pub use-refused : (refusal : Refusal) (plan : Plan) → IsRefusedBy refusal plan → ((w : World) → Sees w k → IsRefused refusal (check_use w name))
      → Plans k (λ w. Unit {0}) (record { item = script.Use name; line = line }) now plan
  unfolding May
  use-refused refusal plan is refuses =
      plans-refusal k (λ w. Unit {0}) (record { item = script.Use name; line = line }) now (λ w. check_use w name) refusal plan is
      (λ w sound sees known. refuses w sees) (λ w rule e. comes-refused (check_use w name) DoesUse rule e)

  pub use-turned : (found own : Option (List ℕ)) → own ≡ found → ((w : World) → Sees w k → check_use w name ≡ Ok found)
      → Plans k (λ w. Unit {0}) (record { item = script.Use name; line = line }) now (Turned own)
  unfolding May
  use-turned found own is passes =
      plans-turned k (λ w. Unit {0}) (record { item = script.Use name; line = line }) now own
      (λ w sound sees known.
      comes-found (check_use w name) DoesUse found (in_one (turned own) Done) (passes w sees) (ap (λ (n : Option (List ℕ)). in_one (turned n) Done) is))
