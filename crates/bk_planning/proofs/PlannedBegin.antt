-- BEGIN TRANSACTION as it is planned.
use Rattle.std.proofs.Common.{◌≡◌, ℕ, false, Option, Some, Ok, sym, ◌∙◌, ap, arith}
use Rattle.std.specs.Prelude.{not}
use Rattle.bk_acts.specs.declared.act.StoredAct.{StoredAct}
use Rattle.bk_ids.specs.declared.record.Mark.{Mark}
use Rattle.bk_items.specs.declared.item.NamedTransaction.{NamedTransaction}
use Rattle.bk_items.specs.declared.item.ScriptEntry.{ScriptEntry}
use Rattle.bk_items.specs.declared.item.ScriptItem.TheVariants as script
use Rattle.bk_kept.specs.Keeps.{Sees, ShowsLog, database_of}
use Rattle.bk_kept.specs.declared.kept.Database.{Database as KeptDatabase}
use Rattle.bk_kept.specs.declared.kept.Kept.{Kept}
use Rattle.bk_machine.specs.Acts.{logged}
use Rattle.bk_machine.specs.CheckLaws.{passed, was-found, was-online}
use Rattle.bk_machine.specs.Checks.{limit, online, or_refuse, outside, refuse_if, used_up}
use Rattle.bk_machine.specs.FindingLaws.{current-found}
use Rattle.bk_machine.specs.Machine.{May}
use Rattle.bk_machine.specs.Outcome.{in_one}
use Rattle.bk_machine.specs.World.{World, Database, current_database}
use Rattle.bk_machine.specs.statements.Begin.{check_begin, has_fit_texts, mark_of, DoesBegin}
use Rattle.bk_world.specs.Says.{begin_said}
use Rattle.bk_world.specs.declared.reply.Reply.TheVariants.{Done}
use Rattle.bk_world.specs.declared.rule.Rule.TheVariants.{NoSuchDatabase, NotBuilt}
use Rattle.bk_plans.specs.Checking.{IsRefused}
use Rattle.bk_plans.specs.PlanLaws.{DoWhatTheyMay, comes-found, comes-refused, plans-refusal}
use Rattle.bk_plans.specs.Planned.{IsOne, IsRefusedBy, SaysNow}
use Rattle.bk_plans.specs.Planning.{Plans}
use Rattle.bk_plans.specs.SaidLaws.{low-left, plans-said}
use Rattle.bk_plans.specs.declared.parts.Plan.{Plan}
use Rattle.bk_plans.specs.declared.refusal.Refusal.{Refusal}
use Rattle.bk_planning.specs.Opening.{begun_in}

checked-begin : (w : World) (line : ℕ) (transaction : Option NamedTransaction) (db : Database) → check_begin w line transaction ≡ Ok db → current_database w ≡ Some db
unfolding check_begin
checked-begin w line transaction db e =
    let one = passed (refuse_if (not (has_fit_texts transaction)) (NotBuilt line)) _ db e in
    let two = passed (outside w) _ db one.then in
    let three = passed (or_refuse (current_database w) NoSuchDatabase) _ db two.then in
    let four = passed (online three.found) _ db three.then in
    let five = passed (limit (used_up four.found.end)) _ db four.then in
    let last = five.then in
    let same : four.found ≡ db = cc in
    let up = was-online three.found four.found four.is in
    was-found (current_database w) NoSuchDatabase three.found three.is ∙ ap (λ (d : Database). Some d) (up.is ∙ same)

module _ (k : Kept) (line now : ℕ) (transaction : Option NamedTransaction) where
  abbrev s : ScriptEntry
  s = record { item = script.Begin transaction; line = line }

  pub begin-refused : (refusal : Refusal) (plan : Plan) → IsRefusedBy refusal plan → ((w : World) → Sees w k → IsRefused refusal (check_begin w line transaction)) → Plans k (λ w. Unit {0}) (record { item = script.Begin transaction; line = line }) now plan
  unfolding May
  begin-refused refusal plan is refuses =
      plans-refusal k (λ w. Unit {0}) s now (λ w. check_begin w line transaction) refusal plan is (λ w sound sees known. refuses w sees)
      (λ w rule e. comes-refused (check_begin w line transaction) (DoesBegin w (mark_of transaction)) rule e)

  pub begin-done : (d : KeptDatabase) (mark : Option Mark) (stored : StoredAct) (plan : Plan) → mark ≡ mark_of transaction → IsOne stored Done plan → SaysNow d (begin_said d.shown.«end») (begun_in d k.session mark) stored → DoWhatTheyMay
      → ((w : World) → Sees w k → check_begin w line transaction ≡ Ok (database_of d)) → ((w : World) → Sees w k → ShowsLog w.history d) → used_up d.shown.«end» ≡ false
      → Plans k (λ w. Unit {0}) (record { item = script.Begin transaction; line = line }) now plan
  unfolding May
  begin-done d mark stored plan is one says law passes shows left =
      plans-said k (λ w. Unit {0}) s now d (begin_said d.shown.«end») (begun_in d k.session mark) stored Done plan one says law
      (λ w sound sees known. current-found w (database_of d) (checked-begin w line transaction (database_of d) (passes w sees))) (λ w sound sees known. shows w sees) (low-left d.shown.«end» 1 left (omega arith))
      (λ w sound sees known.
      comes-found (check_begin w line transaction) (DoesBegin w (mark_of transaction)) (database_of d) (in_one (logged d.name (begin_said d.shown.«end») (begun_in d k.session mark)) Done) (passes w sees)
      (ap (λ (m : Option Mark). in_one (logged d.name (begin_said d.shown.«end») (begun_in d k.session m)) Done) is
      ∙ ap (λ (n : ℕ). in_one (logged d.name (begin_said d.shown.«end») (begun_in d n (mark_of transaction))) Done) (sym sees.session)))
      (λ w sound sees known logs. (tt, tt))
