-- DROP DATABASE as it is planned.
use Rattle.std.proofs.Common.{◌≡◌, ℕ, List, Ok, refl, ap}
use Rattle.bk_acts.specs.declared.act.StoredAct.TheVariants.{Dropped}
use Rattle.bk_items.specs.declared.item.ScriptItem.TheVariants as script
use Rattle.bk_machine.specs.Acts.{dropped}
use Rattle.bk_machine.specs.Machine.{May}
use Rattle.bk_machine.specs.Outcome.{in_one}
use Rattle.bk_machine.specs.World.{World}
use Rattle.bk_machine.specs.statements.DropDatabase.{check_drop_database, DoesDropDatabase}
use Rattle.bk_world.specs.declared.reply.Reply.TheVariants.{Done}
use Rattle.bk_kept.specs.declared.kept.Database.{Database as KeptDatabase}
use Rattle.bk_kept.specs.declared.kept.Kept.{Kept}
use Rattle.bk_plans.specs.declared.parts.Plan.{Plan}
use Rattle.bk_plans.specs.declared.refusal.Refusal.{Refusal}
use Rattle.bk_plans.specs.Checking.{IsRefused}
use Rattle.bk_kept.specs.Keeps.{Sees, database_of}
use Rattle.bk_plans.specs.Planned.{IsOne, IsRefusedBy}
use Rattle.bk_plans.specs.Planning.{Plans}
use Rattle.bk_plans.specs.PlanLaws.{DoWhatTheyMay, comes-found, comes-refused, plans-one, plans-refusal}

module _ (k : Kept) (line now : ℕ) (name : List ℕ) where
  pub drop-refused : (refusal : Refusal) (plan : Plan) → IsRefusedBy refusal plan → ((w : World) → Sees w k → IsRefused refusal (check_drop_database w name))
      → Plans k (λ w. Unit {0}) (record { item = script.DropDatabase name; line = line }) now plan
  unfolding May
  drop-refused refusal plan is refuses =
      plans-refusal k (λ w. Unit {0}) (record { item = script.DropDatabase name; line = line }) now (λ w. check_drop_database w name) refusal plan is
      (λ w sound sees known. refuses w sees) (λ w rule e. comes-refused (check_drop_database w name) DoesDropDatabase rule e)

  pub drop-done : (d : KeptDatabase) (own : List ℕ) (plan : Plan) → own ≡ d.name → IsOne (Dropped own) Done plan → DoWhatTheyMay
      → ((w : World) → Sees w k → check_drop_database w name ≡ Ok (database_of d)) → Plans k (λ w. Unit {0}) (record { item = script.DropDatabase name; line = line }) now plan
  unfolding May
  drop-done d own plan is one law passes =
      plans-one k (λ w. Unit {0}) (record { item = script.DropDatabase name; line = line }) now (Dropped own) (dropped own) Done plan one refl law
      (λ w sound sees known.
      comes-found (check_drop_database w name) DoesDropDatabase (database_of d) (in_one (dropped own) Done) (passes w sees) (ap (λ (n : List ℕ). in_one (dropped n) Done) is))
      (λ w sound sees known. record { draws = tt; unused = tt; from_end = tt; marked = tt; taken = tt })
