-- COMMIT and ROLLBACK as they are planned, and the act by which a transaction is rolled back.
use Rattle.std.proofs.Common.{◌≡◌, ◌≤◌, ℕ, ◌+◌, ◌^◌, List, [], ◌∷◌, map, length, Option, None, Some, Ok, refl, sym, ◌∙◌, ap, subst, arith}
use Rattle.std.proofs.lemmas.List.{length-map}
use Rattle.bk_acts.specs.Meaning.{Spell}
use Rattle.bk_acts.specs.declared.act.StoredAct.{StoredAct}
use Rattle.bk_acts.specs.declared.act.StoredAct.TheVariants.{Logged as LoggedAct}
use Rattle.bk_asked.specs.Asked.{held_of}
use Rattle.bk_asked.specs.declared.opens.Held.{Held as HeldRef}
use Rattle.bk_ids.specs.declared.record.Mark.{Mark}
use Rattle.bk_ids.specs.declared.record.Rec.{Rec}
use Rattle.bk_items.specs.declared.item.ScriptEntry.{ScriptEntry}
use Rattle.bk_items.specs.declared.item.ScriptItem.TheVariants as script
use Rattle.bk_kept.specs.Keeps.{Sees, ShowsLog, database_of}
use Rattle.bk_kept.specs.Stored.{IsDone}
use Rattle.bk_kept.specs.declared.kept.Database.{Database as KeptDatabase}
use Rattle.bk_kept.specs.declared.kept.Kept.{Kept}
use Rattle.bk_machine.specs.Acts.{Act, logged, said_time}
use Rattle.bk_machine.specs.CheckLaws.{was-found}
use Rattle.bk_machine.specs.Checks.{or_refuse}
use Rattle.bk_machine.specs.HeldLaws.{held-up}
use Rattle.bk_machine.specs.Machine.{May}
use Rattle.bk_machine.specs.MayDo.{MayDo}
use Rattle.bk_machine.specs.Outcome.{Outcome, in_one}
use Rattle.bk_machine.specs.Sound.{IsSound}
use Rattle.bk_machine.specs.World.{World, database_named, log_of, own_held, without_begin}
use Rattle.bk_machine.specs.statements.Commit.{check_commit, DoesCommit, notes_mark}
use Rattle.bk_machine.specs.statements.Rollback.{check_rollback, rolls_back, DoesRollback}
use Rattle.bk_plans.specs.Checking.{IsRefused}
use Rattle.bk_plans.specs.PlanLaws.{DoWhatTheyMay, comes-found, comes-refused, plans-refusal}
use Rattle.bk_plans.specs.Planned.{IsOne, IsRefusedBy}
use Rattle.bk_plans.specs.Planning.{AreParts, Plans}
use Rattle.bk_plans.specs.declared.parts.Part.{Part}
use Rattle.bk_plans.specs.declared.parts.Part.TheVariants.{Stored}
use Rattle.bk_plans.specs.declared.parts.Plan.TheVariants.{Refused, Answered, Turned, Seated, Parts, Readied}
use Rattle.bk_planning.specs.Marking.{IsCommit, NotesMark, mark_part, marked_row}
use Rattle.bk_world.specs.declared.msdb.MarkRow.{MarkRow}
use Rattle.bk_plans.specs.SaidLaws.{done-said, plans-said, says-now}
use Rattle.bk_plans.specs.UndoingLaws.{rollback-length, rollback-placed}
use Rattle.bk_plans.specs.declared.parts.Plan.{Plan}
use Rattle.bk_plans.specs.declared.refusal.Refusal.{Refusal}
use Rattle.bk_planning.specs.Undoing.{Commits, SaysOf}
use Rattle.bk_shown.specs.Shown.{pending_of}
use Rattle.bk_shown.specs.declared.shown.Written.{Written}
use Rattle.bk_world.specs.Pending.{Pending, pending}
use Rattle.bk_world.specs.Says.{commit_said, rollback_said}
use Rattle.bk_world.specs.declared.reply.Reply.TheVariants.{Done}
use Rattle.bk_world.specs.declared.rule.Rule.TheVariants.{NoTransaction}
use Rattle.bk_world.specs.declared.transaction.Open.{Open}

-- The acts.

module _ (d : KeptDatabase) (stored : StoredAct) (records : List Rec) (written : List Written) (are : (w : World) → ShowsLog w.history d → map pending_of written ≡ pending (log_of w.history (database_of d))) where
  pub says-rollback : (t : Open) → stored ≡ LoggedAct d.name (without_begin d.transactions t.begin) records → Spell records d.shown.«end» (rollback_said t.begin (map pending_of written)) → d.shown.«end» + (length written + 1) ≤ 2 ^ 62
      → SaysOf d (rollback_said t.begin) (without_begin d.transactions t.begin) stored
  says-rollback t is spell low =
      let fits : length (rollback_said t.begin (map pending_of written)) ≤ length (map pending_of written) + 1 = rollback-length t.begin (map pending_of written) in
      let same : length (map pending_of written) ≡ length written = length-map written pending_of in
      record { writes = map pending_of written; are = are; says = says-now d (rollback_said t.begin (map pending_of written)) (without_begin d.transactions t.begin) stored records is spell; low = omega (arith, fits, same, low) }

module _ (w : World) (d : KeptDatabase) (stored : StoredAct) (named : database_named w.databases d.name ≡ Some (database_of d)) (shows : ShowsLog w.history d) where
  pub rollback-done : (t : Open) → SaysOf d (rollback_said t.begin) (without_begin d.transactions t.begin) stored → MayDo w (rolls_back w (record { database = database_of d; transaction = t }))
      → IsDone w stored (rolls_back w (record { database = database_of d; transaction = t }))
  rollback-done t says may =
      let own : List Pending → Act = λ ws. logged d.name (rollback_said t.begin ws) (without_begin d.transactions t.begin) in
      let is : own says.writes ≡ own (pending (log_of w.history (database_of d))) = ap own (says.are w shows) in
      subst (IsDone w stored) is
      (done-said w d (rollback_said t.begin says.writes) (without_begin d.transactions t.begin) stored says.says named shows (subst (MayDo w) (sym is) may) says.low
      (λ logs. rollback-placed d.files (log_of w.history (database_of d)) d.shown.«end» t.begin says.writes))

-- the row of a commit is what its part says
row-noted : (w : World) (name : List ℕ) (lsn time : ℕ) (mark : Option Mark) → AreParts w (mark_part (marked_row name lsn time mark)) (notes_mark name lsn time mark)
row-noted w name lsn time None = tt
row-noted w name lsn time (Some mark) = (refl, tt)

-- what a commit comes to that says this, with this row
abbrev commits-by : List ℕ → ℕ → ℕ → List Open → ℕ → Option Mark → ℕ → Option Mark → Outcome
commits-by name lsn begin ts time mark row_time row_mark = record { acts = logged name (commit_said begin time mark) ts ∷ notes_mark name lsn row_time row_mark; reply = Done }

-- at the same time and with the same mark it is the same
committed-same : (name : List ℕ) (lsn begin : ℕ) (ts : List Open) (time row_time at : ℕ) (mark row_mark its : Option Mark) → time ≡ at → mark ≡ its → row_time ≡ at → row_mark ≡ its
    → commits-by name lsn begin ts time mark row_time row_mark ≡ commits-by name lsn begin ts at its at its
committed-same name lsn begin ts time row_time at mark row_mark its times marks row_times row_marks =
    ap (λ (n : ℕ). commits-by name lsn begin ts n mark row_time row_mark) times
    ∙ ap (λ (m : Option Mark). commits-by name lsn begin ts at m row_time row_mark) marks
    ∙ ap (λ (n : ℕ). commits-by name lsn begin ts at its n row_mark) row_times
    ∙ ap (λ (m : Option Mark). commits-by name lsn begin ts at its at m) row_marks

-- Plans.

module _ (k : Kept) (line now : ℕ) where
  abbrev committing : ScriptEntry
  committing = record { item = script.Commit; line = line }

  abbrev rolling : ScriptEntry
  rolling = record { item = script.Rollback; line = line }

  pub commit-refused : (refusal : Refusal) (plan : Plan) → IsRefusedBy refusal plan → ((w : World) → Sees w k → IsRefused refusal (or_refuse (own_held w) NoTransaction)) → Plans k (λ w. Unit {0}) (record { item = script.Commit; line = line }) now plan
  unfolding May check_commit
  commit-refused refusal plan is refuses =
      plans-refusal k (λ w. Unit {0}) committing now (λ w. or_refuse (own_held w) NoTransaction) refusal plan is (λ w sound sees known. refuses w sees)
      (λ w rule e. comes-refused (check_commit w) (DoesCommit w now) rule e)

  pub rollback-refused : (refusal : Refusal) (plan : Plan) → IsRefusedBy refusal plan → ((w : World) → Sees w k → IsRefused refusal (or_refuse (own_held w) NoTransaction)) → Plans k (λ w. Unit {0}) (record { item = script.Rollback; line = line }) now plan
  unfolding May check_rollback
  rollback-refused refusal plan is refuses =
      plans-refusal k (λ w. Unit {0}) rolling now (λ w. or_refuse (own_held w) NoTransaction) refusal plan is (λ w sound sees known. refuses w sees)
      (λ w rule e. comes-refused (check_rollback w) (DoesRollback w) rule e)

  module _ (h : HeldRef) (passes : (w : World) → Sees w k → or_refuse (own_held w) NoTransaction ≡ Ok (held_of h)) (shows : (w : World) → Sees w k → ShowsLog w.history h.database.now) (law : DoWhatTheyMay)
      (stored : StoredAct) where
    abbrev d : KeptDatabase
    d = h.database.now

    abbrev t : Open
    t = h.transaction.now

    named : (w : World) → IsSound w → Sees w k → database_named w.databases h.database.now.name ≡ Some (database_of h.database.now)
    named w sound sees = (held-up w w.session (held_of h) sound (was-found (own_held w) NoTransaction (held_of h) (passes w sees))).up.named

    module _ (row : Option MarkRow) (it : Commits h.database.now now h.transaction.now stored) (notes : NotesMark h.database.now now h.transaction.now row) where
      -- what the statement comes to
      abbrev ends : Outcome
      ends = commits-by d.name d.shown.«end» t.begin (without_begin d.transactions t.begin) it.says.time it.mark notes.time notes.mark

      ends-may : (w : World) → Sees w k → May w committing now ends
      unfolding May check_commit
      ends-may w sees =
          comes-found (check_commit w) (DoesCommit w now) (held_of h) ends (passes w sees)
          (committed-same d.name d.shown.«end» t.begin (without_begin d.transactions t.begin) it.says.time notes.time _ it.mark notes.mark _ (it.says.time_is w (shows w sees)) (it.is w (shows w sees)) (notes.time_is w (shows w sees)) (notes.is w (shows w sees)))

      ends-done : (w : World) → IsSound w → Sees w k → IsDone w stored (logged d.name (commit_said t.begin it.says.time it.mark) (without_begin d.transactions t.begin))
      ends-done w sound sees =
          done-said w d (commit_said t.begin it.says.time it.mark) (without_begin d.transactions t.begin) stored it.says.says (named w sound sees) (shows w sees) (law w committing now ends sound (ends-may w sees)).0 it.low (λ logs. (tt, tt))

      pub commit-planned : (plan : Plan) → IsCommit stored row plan → Plans k (λ w. Unit {0}) (record { item = script.Commit; line = line }) now plan
      commit-planned (Parts parts answer) is = record {
        outcome = ends;
        replies = sym is.1;
        may = λ w sound sees known. ends-may w sees;
        acts = λ w sound sees known.
            subst (λ (ps : List Part). AreParts w ps ends.acts) (sym is.0)
            (subst (λ (o : Option MarkRow). AreParts w (Stored stored ∷ mark_part o) ends.acts) (sym notes.row_is) (ends-done w sound sees, row-noted _ d.name d.shown.«end» notes.time notes.mark));
      }
      commit-planned (Refused rule) is = absurd is
      commit-planned (Answered answer) is = absurd is
      commit-planned (Turned name) is = absurd is
      commit-planned (Seated session) is = absurd is
      commit-planned (Readied parts starts answer) is = absurd is

    pub rollback-planned : (plan : Plan) → IsOne stored Done plan → SaysOf h.database.now (rollback_said h.transaction.now.begin) (without_begin h.database.now.transactions h.transaction.now.begin) stored → Plans k (λ w. Unit {0}) (record { item = script.Rollback; line = line }) now plan
    unfolding May check_rollback
    rollback-planned plan one it =
        plans-said k (λ w. Unit {0}) rolling now d (rollback_said t.begin it.writes) (without_begin d.transactions t.begin) stored Done plan one it.says law
        (λ w sound sees known. named w sound sees) (λ w sound sees known. shows w sees) it.low
        (λ w sound sees known.
        comes-found (check_rollback w) (DoesRollback w) (held_of h) (in_one (logged d.name (rollback_said t.begin it.writes) (without_begin d.transactions t.begin)) Done) (passes w sees)
        (ap (λ (ws : List Pending). in_one (logged d.name (rollback_said t.begin ws) (without_begin d.transactions t.begin)) Done) (it.are w (shows w sees))))
        (λ w sound sees known logs. rollback-placed d.files (log_of w.history (database_of d)) d.shown.«end» t.begin it.writes)
