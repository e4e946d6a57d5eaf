-- CREATE DATABASE as it is planned.
use Rattle.std.proofs.Common.{◌≡◌, ℕ, ◌+◌, min, false, List, Option, Ok, refl, sym, ◌∙◌, ap, subst}
use Rattle.bk_acts.specs.declared.act.StoredAct.TheVariants.{Created}
use Rattle.bk_items.specs.declared.item.NewFile.{NewFile}
use Rattle.bk_items.specs.declared.item.NewGroup.{NewGroup}
use Rattle.bk_items.specs.declared.item.ScriptItem.TheVariants as script
use Rattle.bk_machine.specs.Acts.{created, latest}
use Rattle.bk_machine.specs.Checks.{used_up}
use Rattle.bk_machine.specs.Machine.{May}
use Rattle.bk_machine.specs.Outcome.{Outcome, in_one}
use Rattle.bk_machine.specs.World.{World}
use Rattle.bk_machine.specs.statements.CreateDatabase.{check_create_database, DoesCreateDatabase}
use Rattle.bk_world.specs.declared.database.Creation.{Creation}
use Rattle.bk_world.specs.declared.database.Storage.{Storage}
use Rattle.bk_world.specs.declared.reply.Reply.TheVariants.{Done}
use Rattle.bk_kept.specs.declared.kept.Kept.{Kept}
use Rattle.bk_plans.specs.declared.parts.Plan.{Plan}
use Rattle.bk_plans.specs.declared.refusal.Refusal.{Refusal}
use Rattle.bk_plans.specs.Checking.{IsRefused}
use Rattle.bk_kept.specs.Keeps.{Sees}
use Rattle.bk_plans.specs.Planned.{IsOne, IsRefusedBy}
use Rattle.bk_plans.specs.Planning.{Plans}
use Rattle.bk_new_plans.proofs.FreeFiles.{paths-unused}
use Rattle.bk_plans.specs.PlanLaws.{DoWhatTheyMay, comes-found, comes-refused, plans-one, plans-refusal}

-- behind a check that was passed
module _ (k : Kept) (line now : ℕ) (name : List ℕ) (primary : List NewFile) (groups : List NewGroup) (log : Option NewFile) where
  pub create-refused : (refusal : Refusal) (plan : Plan) → IsRefusedBy refusal plan → ((w : World) → Sees w k → IsRefused refusal (check_create_database w line name primary groups log))
      → Plans k (λ w. Unit {0}) (record { item = script.CreateDatabase name primary groups log; line = line }) now plan
  unfolding May
  create-refused refusal plan is refuses =
      plans-refusal k (λ w. Unit {0}) (record { item = script.CreateDatabase name primary groups log; line = line }) now (λ w. check_create_database w line name primary groups log) refusal plan is
      (λ w sound sees known. refuses w sees) (λ w rule e. comes-refused (check_create_database w line name primary groups log) (DoesCreateDatabase w name now) rule e)

  -- a database with these files, made on these two GUIDs
  creation_on : Storage → ℕ → ℕ → Creation
  creation_on storage high low = record { name = name; family = record { high = high; low = low }; branch = record { high = high; low = low + 1 }; time = min now latest; storage = storage }

  made_on : Storage → ℕ → ℕ → Outcome
  made_on storage high low = in_one (created (creation_on storage high low)) Done

  pub create-made : (found : Storage) (plan : Plan)
      → IsOne (Created (record { name = name; family = record { high = k.number; low = k.counter }; branch = record { high = k.number; low = k.counter + 1 }; time = min now latest; storage = found })) Done plan → DoWhatTheyMay
      → ((w : World) → Sees w k → check_create_database w line name primary groups log ≡ Ok found) → used_up k.counter ≡ false
      → Plans k (λ w. Unit {0}) (record { item = script.CreateDatabase name primary groups log; line = line }) now plan
  unfolding May made_on creation_on
  create-made found plan one law passes left =
      plans-one k (λ w. Unit {0}) (record { item = script.CreateDatabase name primary groups log; line = line }) now
      (Created (creation_on found k.number k.counter)) (created (creation_on found k.number k.counter)) Done plan one refl law
      (λ w sound sees known.
      comes-found (check_create_database w line name primary groups log) (DoesCreateDatabase w name now) found (made_on found k.number k.counter) (passes w sees)
      (ap (λ (n : ℕ). made_on found n k.counter) (sym sees.number) ∙ ap (λ (n : ℕ). made_on found w.instance n) (sym sees.counter)))
      (λ w sound sees known. record { draws = subst (λ (n : ℕ). used_up n ≡ false) (sym sees.counter) left; unused = paths-unused w line name primary groups log found (passes w sees); from_end = tt; marked = tt; taken = tt })
