-- A run is closed by acts that may be done, behind which nothing is open.
use Rattle.bk_items.specs.declared.item.ScriptEntry.{ScriptEntry}
use Rattle.bk_machine.proofs.ActsJobs.{all-dropped}
use Rattle.bk_machine.specs.Outcome.{Outcome}
use Rattle.bk_machine.specs.Run.{IsRun, behind_all}
use Rattle.bk_machine.proofs.statements.Running.{RunsWell, runs-well, well-one_more}
use Rattle.std.proofs.Common.{◌≡◌, inl, ℕ, suc, true, not, List, [], ◌∷◌, ◌++◌, Some, sym, ◌∙◌, ap, subst, inr, refl}
use Rattle.std.specs.Prelude.{◌==◌}
use Rattle.std.specs.List.{AllByRecursion}
use Rattle.bk_world.specs.Cut.{is_among}
use Rattle.bk_lemmas.specs.Lists.{all_filter, all_mapped}
use Rattle.bk_world.specs.Pending.{pending}
use Rattle.bk_world.specs.Records.{Said}
use Rattle.bk_world.specs.Says.{rollback_said}
use Rattle.bk_machine.specs.Acts.{Act, done, done_all, jobs_dropped}
use Rattle.bk_machine.specs.Built.{SayNoLoad}
use Rattle.bk_machine.specs.Closing.{AreClosing, IsClosingFront, closed_by}
use Rattle.bk_machine.specs.Crash.{open_begins}
use Rattle.bk_machine.specs.MayDo.{MayDo, MayDoAll}
use Rattle.bk_machine.specs.NamedLaws.{of-named}
use Rattle.bk_machine.specs.Sound.{AreIdle, IsIdle, IsSound}
use Rattle.bk_world.specs.declared.transaction.Open.{Open}
use Rattle.bk_machine.specs.World.{Database, Held, World, held_in, log_of}
use Rattle.bk_machine.specs.statements.Rollback.{rolls_back}
use Rattle.bk_machine.proofs.Acting.{act-sound}
use Rattle.bk_machine.proofs.Cutting.{HaveNumbers, IsOwn, OpenOwn, OpensOwn, open-before, open-done}
use Rattle.bk_machine.proofs.Ends.{IsSteady}
use Rattle.bk_machine.proofs.Left.{of-contained}
use Rattle.bk_machine.proofs.statements.Ending.{said-rollback}
use Rattle.bk_machine.proofs.statements.Facts.{GoWell, all-take}
use Rattle.bk_machine.proofs.statements.Transactions.{rollback-may, rollback-plain, rollback-well}
use Rattle.bk_machine.specs.HeldLaws.{IsHeldBy, held-up, open-there}

-- ---- what closing does

-- acts that go well, seen from where closing begins
record Closes (before w : World) (acts : List Act) : Type 0 where
  may : MayDoAll w acts
  opens : AllByRecursion (OpensOwn before) acts
  own : AllByRecursion (IsOwn before) acts
  numbers : HaveNumbers w acts
  steady : AllByRecursion IsSteady acts
  plain : SayNoLoad w acts

module _ (before w : World) (h : Held) (sound : IsSound w) (is : held_in w.databases h.transaction.session ≡ Some h) (open_own : AllByRecursion (OpenOwn before) w.databases) where
  held : IsHeldBy w h.transaction.session h
  held = held-up w h.transaction.session h sound is

  its : OpenOwn before h.database
  its = of-named (OpenOwn before) w.databases h.database.name h.database open_own held.up.named

  first-opens : OpensOwn before (rolls_back w h)
  first-opens = all_filter (λ (t : Open). is_among (open_begins before h.database) t.begin ≡ true) (λ (t : Open). not (t.begin == h.transaction.begin)) h.database.transactions its

  first-own : IsOwn before (rolls_back w h)
  first-own n quiet =
      let among : is_among (open_begins before h.database) h.transaction.begin ≡ true =
      of-contained (λ (t : Open). is_among (open_begins before h.database) t.begin ≡ true) h.database.transactions h.transaction its (open-there h.database.transactions h.transaction.session h.transaction held.own) in
      all-take (λ (s : Said). is_among (open_begins before h.database) s.begin ≡ true) (suc n) (rollback_said h.transaction.begin (pending (log_of w.history h.database)))
      (all_mapped (λ (s : Said). s.begin ≡ h.transaction.begin) (λ (s : Said). is_among (open_begins before h.database) s.begin ≡ true) (λ s same. ap (is_among (open_begins before h.database)) same ∙ among)
      (rollback_said h.transaction.begin (pending (log_of w.history h.database))) (said-rollback (log_of w.history h.database) h.transaction.begin))

-- one rollback, and what goes on behind it
closes-first : (before w : World) (acts : List Act) (h : Held) → IsSound w → AllByRecursion (OpenOwn before) w.databases → held_in w.databases h.transaction.session ≡ Some h
    → (IsSound (done w (rolls_back w h)) → AllByRecursion (OpenOwn before) (done w (rolls_back w h)).databases → Closes before (done w (rolls_back w h)) acts) → Closes before w (rolls_back w h ∷ acts)
closes-first before w acts h sound open_own there rest =
    let well : GoWell w (rolls_back w h ∷ []) = rollback-well w h.transaction.session h sound there in
    let opens : OpensOwn before (rolls_back w h) = first-opens before w h sound there open_own in
    let later : Closes before (done w (rolls_back w h)) acts = rest (act-sound w (rolls_back w h) sound well.may.0) (open-done before w (rolls_back w h) sound.whole.different opens open_own) in record {
      may = (well.may.0, later.may);
      opens = (opens, later.opens);
      own = (first-own before w h sound there open_own, later.own);
      numbers = (well.numbers.0, later.numbers);
      steady = (tt, later.steady);
      plain = (rollback-plain w h, later.plain);
    }

closes : (before w : World) (acts : List Act) → IsSound w → AllByRecursion (OpenOwn before) w.databases → AreClosing w acts → Closes before w acts
closes before w [] sound open_own closing = record { may = tt; opens = tt; own = tt; numbers = tt; steady = tt; plain = tt }
closes before w (act ∷ acts) sound open_own (inl is, rest) =
    let later : Closes before (done w jobs_dropped) acts =
    closes before (done w jobs_dropped) acts (act-sound w jobs_dropped sound tt) (open-done before w jobs_dropped sound.whole.different tt open_own) (subst (λ a. AreClosing (done w a) acts) is rest) in
    subst (λ a. Closes before w (a ∷ acts)) (sym is)
    (record { may = (tt, later.may); opens = (tt, later.opens); own = (tt, later.own); numbers = (tt, later.numbers); steady = (tt, later.steady); plain = (tt, later.plain) })
closes before w (act ∷ acts) sound open_own (inr (h, first, is), rest) =
    subst (λ a. Closes before w (a ∷ acts)) (sym is)
    (closes-first before w acts h sound open_own first.there (λ next open_next. closes before (done w (rolls_back w h)) acts next open_next (subst (λ a. AreClosing (done w a) acts) is rest)))

pub closing-well : (w : World) (acts : List Act) → AreClosing w acts → IsSound w → GoWell w acts
closing-well w acts closing sound =
    let c : Closes w w acts = closes w w acts sound (open-before w sound.whole.different) closing in
    record { may = c.may; opens = c.opens; own = c.own; numbers = c.numbers; ends = inl c.steady; plain = λ built. c.plain }

-- a run and its closing go well
pub closed-well : (w : World) (statements : List ScriptEntry) (moments : List ℕ) (outcomes : List Outcome) (acts : List Act) → IsRun w statements moments outcomes → AreClosing (behind_all w outcomes) acts → RunsWell w (outcomes ++ closed_by acts ∷ [])
closed-well w statements moments outcomes acts run closing = well-one_more w outcomes (closed_by acts) (runs-well w statements moments outcomes run) (closing-well (behind_all w outcomes) acts closing)

-- ---- behind it nothing is open

pub closing-idle : (w : World) (acts : List Act) → AreClosing w acts → AreIdle (done_all w acts)
closing-idle w [] closing = closing
closing-idle w (act ∷ acts) (_, rest) = closing-idle (done w act) acts rest

-- where no transaction is open, jobs are dropped last
pub dropped-idle : (w : World) → AllByRecursion (λ (db : Database). db.transactions ≡ []) w.databases → AreIdle (done w jobs_dropped)
unfolding done
dropped-idle w none = all-dropped (λ (db : Database). db.transactions ≡ []) IsIdle (λ db closed. record { job = refl; transactions = closed }) w.databases none

-- ---- fronts

pub front-may : (w : World) (acts : List Act) → IsSound w → IsClosingFront w acts → MayDoAll w acts
front-may w [] sound front = tt
front-may w (act ∷ acts) sound (inl is, front) =
    subst (λ a. MayDo w a × MayDoAll (done w a) acts) (sym is) (tt, front-may (done w jobs_dropped) acts (act-sound w jobs_dropped sound tt) (subst (λ a. IsClosingFront (done w a) acts) is front))
front-may w (act ∷ acts) sound (inr (h, first, is), front) =
    let may : MayDo w (rolls_back w h) = rollback-may w h.transaction.session h sound first.there in
    subst (λ a. MayDo w a × MayDoAll (done w a) acts) (sym is) (may, front-may (done w (rolls_back w h)) acts (act-sound w (rolls_back w h) sound may) (subst (λ a. IsClosingFront (done w a) acts) is front))
