-- CHECKPOINT as it is planned.
use Rattle.std.proofs.Common.{◌≡◌, ℕ, false, Some, Ok, ◌∙◌, ap, arith}
use Rattle.bk_items.specs.declared.item.ScriptEntry.{ScriptEntry}
use Rattle.bk_items.specs.declared.item.ScriptItem.TheVariants as script
use Rattle.bk_kept.specs.Keeps.{Sees, ShowsLog, database_of}
use Rattle.bk_kept.specs.declared.kept.Database.{Database as KeptDatabase}
use Rattle.bk_kept.specs.declared.kept.Kept.{Kept}
use Rattle.bk_machine.specs.Acts.{logged}
use Rattle.bk_machine.specs.CheckLaws.{Up, passed, was-found, was-online}
use Rattle.bk_machine.specs.Checks.{limit, online, or_refuse, used_up}
use Rattle.bk_machine.specs.FindingLaws.{current-found}
use Rattle.bk_machine.specs.Machine.{May}
use Rattle.bk_machine.specs.Outcome.{in_one}
use Rattle.bk_machine.specs.World.{World, Database, current_database}
use Rattle.bk_machine.specs.statements.Checkpoint.{check_checkpoint, DoesCheckpoint}
use Rattle.bk_plans.specs.Checking.{IsRefused}
use Rattle.bk_plans.specs.PlanLaws.{DoWhatTheyMay, comes-found, comes-refused, plans-refusal}
use Rattle.bk_plans.specs.Planned.{IsRefusedBy, MarksThen, StoresOne}
use Rattle.bk_plans.specs.Planning.{Plans}
use Rattle.bk_plans.specs.SaidLaws.{low-left, plans-marked}
use Rattle.bk_plans.specs.declared.parts.Plan.{Plan}
use Rattle.bk_plans.specs.declared.refusal.Refusal.{Refusal}
use Rattle.bk_world.specs.Records.{checkpointed}
use Rattle.bk_world.specs.Says.{alone}
use Rattle.bk_world.specs.declared.reply.Reply.TheVariants.{Done}
use Rattle.bk_world.specs.declared.rule.Rule.TheVariants.{NoSuchDatabase}

-- it is of the current database
checked-checkpoint : (w : World) (db : Database) → check_checkpoint w ≡ Ok db → current_database w ≡ Some db
unfolding check_checkpoint
checked-checkpoint w db e =
    let one = passed (or_refuse (current_database w) NoSuchDatabase) _ db e in
    let two = passed (online one.found) _ db one.then in
    let three = passed (limit (used_up two.found.end)) _ db two.then in
    let up : Up one.found two.found = was-online one.found two.found two.is in
    let last = three.then in
    let same : two.found ≡ db = cc in
    was-found (current_database w) NoSuchDatabase one.found one.is ∙ ap (λ (d : Database). Some d) (up.is ∙ same)

module _ (k : Kept) (line now : ℕ) where
  abbrev s : ScriptEntry
  s = record { item = script.Checkpoint; line = line }

  pub checkpoint-refused : (refusal : Refusal) (plan : Plan) → IsRefusedBy refusal plan → ((w : World) → Sees w k → IsRefused refusal (check_checkpoint w)) → Plans k (λ w. Unit {0}) (record { item = script.Checkpoint; line = line }) now plan
  unfolding May
  checkpoint-refused refusal plan is refuses =
      plans-refusal k (λ w. Unit {0}) s now (λ w. check_checkpoint w) refusal plan is (λ w sound sees known. refuses w sees)
      (λ w rule e. comes-refused (check_checkpoint w) (DoesCheckpoint w now) rule e)

  pub checkpoint-planned : (d : KeptDatabase) (plan : Plan) → StoresOne (MarksThen d now) Done plan → DoWhatTheyMay → ((w : World) → Sees w k → check_checkpoint w ≡ Ok (database_of d))
      → ((w : World) → Sees w k → ShowsLog w.history d) → used_up d.shown.«end» ≡ false → Plans k (λ w. Unit {0}) (record { item = script.Checkpoint; line = line }) now plan
  unfolding May
  checkpoint-planned d plan (stored, one, its) law passes shows left =
      plans-marked k (λ w. Unit {0}) s now d its.time stored Done plan one its.marks law
      (λ w sound sees known. current-found w (database_of d) (checked-checkpoint w (database_of d) (passes w sees))) (λ w sound sees known. shows w sees) (low-left d.shown.«end» 1 left (omega arith))
      (λ w sound sees known.
      comes-found (check_checkpoint w) (DoesCheckpoint w now) (database_of d) (in_one (logged d.name (alone (checkpointed its.time)) d.transactions) Done) (passes w sees)
      (ap (λ (time : ℕ). in_one (logged d.name (alone (checkpointed time)) d.transactions) Done) (its.time_is w (shows w sees))))
