-- Statements on the rows of a table, as they are planned.
use Rattle.std.proofs.Common.{◌≡◌, ◌≤◌, ℕ, ◌+◌, ◌^◌, false, List, length, Option, Some, None, Ok, refl, sym, ◌∙◌, ap, subst, arith}
use Rattle.std.specs.Prelude.{IfSome, MatchOption}
use Rattle.bk_ids.specs.declared.record.Place.{Place}
use Rattle.bk_items.specs.declared.item.ScriptEntry.{ScriptEntry}
use Rattle.bk_items.specs.declared.item.ScriptItem.TheVariants as script
use Rattle.bk_items.specs.declared.rows.RowStatement.{RowStatement}
use Rattle.bk_kept.specs.Keeps.{Sees, ShowsLog, database_of}
use Rattle.bk_kept.specs.declared.kept.Database.{Database as KeptDatabase}
use Rattle.bk_kept.specs.declared.kept.Kept.{Kept}
use Rattle.bk_machine.specs.Acts.{logged}
use Rattle.bk_machine.specs.Checks.{Checked, used_up}
use Rattle.bk_machine.specs.FindingLaws.{current-found}
use Rattle.bk_machine.specs.Machine.{May}
use Rattle.bk_machine.specs.MayDo.{MayLog}
use Rattle.bk_machine.specs.Outcome.{ComesTo, Outcome, answered, in_one}
use Rattle.bk_machine.specs.Sound.{IsSound}
use Rattle.bk_machine.specs.TargetLaws.{IsTarget}
use Rattle.bk_machine.specs.World.{World, log_of}
use Rattle.bk_machine.specs.statements.Rows.{RowsMay}
use Rattle.bk_machine.specs.Seen.{visible}
use Rattle.bk_machine.specs.statements.Target.{DoesChange, DoesWrite, MayPlace, Target, own_open, row_said, row_set, writes_row}
use Rattle.bk_shown.specs.Shown.{ArePlaced}
use Rattle.bk_shown.specs.Values.{FitsRow}
use Rattle.bk_world.specs.Records.{numbered}
use Rattle.bk_world.specs.Telling.{row_at}
use Rattle.bk_world.specs.declared.database.TableSpec.{TableSpec}
use Rattle.bk_world.specs.declared.reply.Reply.{Reply}
use Rattle.bk_world.specs.declared.transaction.Open.{Open}
use Rattle.bk_world.specs.declared.reply.Reply.TheVariants.{Counted}
use Rattle.bk_plans.specs.Checking.{IsRefused}
use Rattle.bk_plans.specs.PlanLaws.{DoWhatTheyMay, comes-found, comes-refused, plans-answered, plans-refusal}
use Rattle.bk_plans.specs.Planned.{IsRefusedBy, SaysThen, StoresOne}
use Rattle.bk_plans.specs.Planning.{Plans}
use Rattle.bk_row_plans.specs.Targets.{target_of}
use Rattle.bk_plans.specs.declared.parts.Plan.{Plan}
use Rattle.bk_plans.specs.declared.parts.Plan.TheVariants.{Answered}
use Rattle.bk_plans.specs.declared.refusal.Refusal.{Refusal}
use Rattle.bk_plans.specs.SaidLaws.{low-left, plans-said}

-- the statement on the rows of a table on a line
abbrev pub entry : List ℕ → RowStatement → ℕ → ScriptEntry
entry table statement line = record { item = script.Rows table statement; line = line }

-- A statement does what it may with the table that its check finds.
module _ (k : Kept) (line now : ℕ) (table : List ℕ) (statement : RowStatement) (check : World → Checked Target) (does : World → Target → Outcome → Type 0)
    (comes : (w : World) (outcome : Outcome) → ComesTo (check w) (does w) outcome → RowsMay w line table statement now outcome) where
  may-come : (w : World) (outcome : Outcome) → ComesTo (check w) (does w) outcome → May w (entry table statement line) now outcome
  unfolding May
  may-come w outcome is = comes w outcome is

  pub rows-refused : (refusal : Refusal) (plan : Plan) → IsRefusedBy refusal plan → ((w : World) → IsSound w → Sees w k → IsRefused refusal (check w)) → Plans k (λ w. Unit {0}) (entry table statement line) now plan
  rows-refused refusal plan is refuses =
      plans-refusal k (λ w. Unit {0}) (entry table statement line) now check refusal plan is (λ w sound sees known. refuses w sound sees)
      (λ w rule e. may-come w _ (comes-refused (check w) (does w) rule e))

  module _ (d : KeptDatabase) (t : TableSpec) (passes : (w : World) → IsSound w → Sees w k → check w ≡ Ok (target_of d t)) where
    pub rows-answered : (answer : Reply) → ((w : World) → IsSound w → Sees w k → does w (target_of d t) (answered answer)) → Plans k (λ w. Unit {0}) (entry table statement line) now (Answered answer)
    rows-answered answer own =
        plans-answered k (λ w. Unit {0}) (entry table statement line) now answer
        (λ w sound sees known. may-come w (answered answer) (comes-found (check w) (does w) (target_of d t) (answered answer) (passes w sound sees) (own w sound sees)))

    module _ (shows : (w : World) → Sees w k → ShowsLog w.history d) (its : (w : World) → Sees w k → IsTarget w table (target_of d t)) (law : DoWhatTheyMay) (left : used_up d.shown.«end» ≡ false)
        (own : Option Open) (mine : (w : World) → Sees w k → own ≡ own_open w (database_of d)) (key : ℕ) (before value : Option (List ℕ)) (at : Place) where
      few : (time : ℕ) → d.shown.«end» + length (row_said own d.shown.«end» at before (row_set (target_of d t) key value) time) ≤ 2 ^ 62
      few time = by own
        where
          by : (o : Option Open) → d.shown.«end» + length (row_said o d.shown.«end» at before (row_set (target_of d t) key value) time) ≤ 2 ^ 62
          by None = low-left d.shown.«end» 3 left (omega arith)
          by (Some mine) = low-left d.shown.«end» 1 left (omega arith)

      placed : (w : World) (time : ℕ) → FitsRow t.number key before value → MayLog w (database_of d) (row_said own d.shown.«end» at before (row_set (target_of d t) key value) time) d.transactions
          → ArePlaced d.files (log_of w.history (database_of d)) (numbered d.shown.«end» (row_said own d.shown.«end» at before (row_set (target_of d t) key value) time))
      placed w time fits = by own
        where
          by : (o : Option Open) → MayLog w (database_of d) (row_said o d.shown.«end» at before (row_set (target_of d t) key value) time) d.transactions
              → ArePlaced d.files (log_of w.history (database_of d)) (numbered d.shown.«end» (row_said o d.shown.«end» at before (row_set (target_of d t) key value) time))
          by None logs = let where_it = logs.says.places.1.0 in (tt, ((fits, (where_it.0, (where_it.1, where_it.2))), (tt, tt)))
          by (Some mine) logs = let where_it = logs.says.places.0 in ((fits, (where_it.0, (where_it.1, where_it.2))), tt)

      pub rows-written : (plan : Plan) → StoresOne (SaysThen d now (row_said own d.shown.«end» at before (record { table = t.number; key = key; value = value })) d.transactions) (Counted 1) plan → FitsRow t.number key before value
          → ((w : World) → IsSound w → Sees w k → does w (target_of d t) (writes_row w (target_of d t) at before key value now)) → Plans k (λ w. Unit {0}) (entry table statement line) now plan
      rows-written plan (stored, one, says) fits does_it =
          plans-said k (λ w. Unit {0}) (entry table statement line) now d (row_said own d.shown.«end» at before (row_set (target_of d t) key value) says.time) d.transactions stored (Counted 1) plan one says.says law
          (λ w sound sees none. current-found w (database_of d) (its w sees).is) (λ w sound sees none. shows w sees) (few says.time)
          (λ w sound sees none.
          let is : writes_row w (target_of d t) at before key value now ≡ in_one (logged d.name (row_said own d.shown.«end» at before (row_set (target_of d t) key value) says.time) d.transactions) (Counted 1) =
          ap (λ (time : ℕ). in_one (logged d.name (row_said (own_open w (database_of d)) d.shown.«end» at before (row_set (target_of d t) key value) time) d.transactions) (Counted 1)) (sym (says.time_is w (shows w sees)))
          ∙ ap (λ (o : Option Open). in_one (logged d.name (row_said o d.shown.«end» at before (row_set (target_of d t) key value) says.time) d.transactions) (Counted 1)) (sym (mine w sees)) in
          may-come w _ (comes-found (check w) (does w) (target_of d t) _ (passes w sound sees) (subst (does w (target_of d t)) is (does_it w sound sees))))
          (λ w sound sees none. placed w says.time fits)

-- What UPDATE and DELETE do with a row, by what is seen of it.

pub changes-none : (w : World) (d : KeptDatabase) (t : TableSpec) (key : ℕ) (value : Option (List ℕ)) (now : ℕ) → row_at (visible w (database_of d) t) key ≡ None → DoesWrite w key value now (target_of d t) (answered (Counted 0))
changes-none w d t key value now is = subst (λ (o : Option (List ℕ)). DoesChange w key value now (target_of d t) o (answered (Counted 0))) (sym is) refl

pub changes-some : (w : World) (d : KeptDatabase) (t : TableSpec) (key : ℕ) (value : Option (List ℕ)) (now : ℕ) (before : List ℕ) (at : Place) → row_at (visible w (database_of d) t) key ≡ Some before
    → MayPlace w (target_of d t) (t.number, key) at → DoesWrite w key value now (target_of d t) (writes_row w (target_of d t) at (Some before) key value now)
changes-some w d t key value now before at is place =
    subst (λ (o : Option (List ℕ)). DoesChange w key value now (target_of d t) o (writes_row w (target_of d t) at (Some before) key value now)) (sym is) (at, place, refl)

-- By the row that is there.

pub in-some : {X : Type 0} (o : Option X) (x : X) (A : Type 0) (B : X → Type 0) → o ≡ Some x → MatchOption o A B → B x
in-some o x A B is given = subst (λ p. MatchOption p A B) is given

pub in-none : {X : Type 0} (o : Option X) (A : Type 0) (B : X → Type 0) → o ≡ None → MatchOption o A B → A
in-none o A B is given = subst (λ p. MatchOption p A B) is given

pub if-some : {X : Type 0} (o : Option X) (x : X) (B : X → Type 0) → o ≡ Some x → IfSome o B → B x
if-some o x B is given = subst (λ p. IfSome p B) is given
