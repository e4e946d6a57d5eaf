-- In a sound log that has each number once, the first record of each write that is pending or undone lies below the end.
use Rattle.std.proofs.Common.{◌≡◌, ◌<◌, ◌≤◌, ℕ, zero, suc, ◌+◌, Bool, true, false, List, [], ◌∷◌, ◌++◌, refl, sym, subst, arith, append_assoc}
use Rattle.std.specs.Prelude.{◌==◌}
use Rattle.std.specs.List.{filter, AllByRecursion}
use Rattle.std.proofs.lemmas.Bool.Decides.{nat_tests}
use Rattle.std.proofs.lemmas.List.{append-nil}
use Rattle.bk_ids.specs.declared.record.Place.{Place}
use Rattle.bk_world.specs.Entry.{RowChange}
use Rattle.bk_lemmas.specs.Lists.{all_filter, all_joined, all_mapped, all_middle, filter_passed}
use Rattle.bk_world.specs.Pending.{Pending, load_writes, of_transaction, pending, pending_after}
use Rattle.bk_world.specs.ReadingLaws.{pending-more}
use Rattle.bk_world.specs.Records.{Counts, Deed, Load, Logged, database_made, table_made, begun, written, committed, rolled_back, undone, checkpointed, stamped, model_set, loaded, recovered}
use Rattle.bk_world.specs.SoundLogs.{IsSound as IsSoundLog, MayCome, MayFollow, MayUndo, undoes}

-- a record undoes no write of a transaction that begins at a number or above
abbrev pub UndoesBelow : ℕ → Logged → Type 0
UndoesBelow n r = (begin : ℕ) → n ≤ begin → undoes begin r ≡ false

pub record BeginBelow (rs : List Logged) (n : ℕ) : Type 0 where
  pub pending : AllByRecursion (λ w. w.begin < n) (pending rs)
  pub undone : AllByRecursion (UndoesBelow n) rs

higher : (ws : List Pending) (n : ℕ) → AllByRecursion (λ w. w.begin < n) ws → AllByRecursion (λ w. w.begin < n + 1) ws
higher ws n below = all_mapped (λ w. w.begin < n) (λ w. w.begin < n + 1) (λ w lt. omega arith) ws below

fewer : (p : Pending → Bool) (ws : List Pending) (n : ℕ) → AllByRecursion (λ w. w.begin < n) ws → AllByRecursion (λ w. w.begin < n + 1) (filter p ws)
fewer p ws n below = all_filter (λ w. w.begin < n + 1) p ws (higher ws n below)

load-begins : (lsn begin : ℕ) (load : Load) (i k : ℕ) → begin < lsn → AllByRecursion (λ w. w.begin < lsn + 1) (load_writes lsn begin load i k)
load-begins lsn begin load i zero lt = tt
load-begins lsn begin load i (suc k) lt = (omega (arith, lt), load-begins lsn begin load (i + 1) k lt)

-- one record more
begins-after : (rs : List Logged) (n begin : ℕ) (deed : Deed) → MayCome rs n begin deed → AllByRecursion (λ w. w.begin < n) (pending rs) → AllByRecursion (λ w. w.begin < n + 1) (pending_after (pending rs) n begin deed)
begins-after rs n begin (database_made time family branch) may below = higher (pending rs) n below
begins-after rs n begin (table_made time spec) may below = higher (pending rs) n below
begins-after rs n begin begun may below = higher (pending rs) n below
begins-after rs n begin (written at before c) may below = all_joined (λ w. w.begin < n + 1) (pending rs) _ (higher (pending rs) n below) (omega (arith, may.behind), tt)
begins-after rs n begin (committed time mark) may below = fewer _ (pending rs) n below
begins-after rs n begin rolled_back may below = fewer _ (pending rs) n below
begins-after rs n begin (undone at c k) may below = fewer _ (pending rs) n below
begins-after rs n begin (checkpointed time) may below = higher (pending rs) n below
begins-after rs n begin (stamped time set) may below = higher (pending rs) n below
begins-after rs n begin (model_set time model) may below = higher (pending rs) n below
begins-after rs n begin (loaded load) may below = all_joined (λ w. w.begin < n + 1) (pending rs) (load_writes n begin load 0 load.count) (higher (pending rs) n below) (load-begins n begin load 0 load.count may.behind)
begins-after rs n begin (recovered branch) may below = higher (pending rs) n below

-- what is undone was pending
undone-below : (rs : List Logged) (n begin : ℕ) (at : Place) (c : RowChange) (k : ℕ) (m : MayUndo rs begin at c k) → AllByRecursion (λ w. w.begin < n) (pending rs) → begin < n
undone-below rs n begin at c k m below =
    let its : AllByRecursion (λ w. (w.begin == begin) ≡ true) (of_transaction begin (pending rs)) = filter_passed (λ w. w.begin == begin) (pending rs) in
    let lower : AllByRecursion (λ w. w.begin < n) (of_transaction begin (pending rs)) = all_filter (λ w. w.begin < n) (λ w. w.begin == begin) (pending rs) below in
    let own : (m.write.begin == begin) ≡ true = all_middle (λ w. (w.begin == begin) ≡ true) m.before m.write [] (subst (AllByRecursion (λ w. (w.begin == begin) ≡ true)) m.last its) in
    let lt : m.write.begin < n = all_middle (λ w. w.begin < n) m.before m.write [] (subst (AllByRecursion (λ w. w.begin < n)) m.last lower) in
    grind (arith, nat_tests, own, lt)

undoes-after : (rs : List Logged) (r : Logged) → MayCome rs r.lsn r.begin r.deed → AllByRecursion (λ w. w.begin < r.lsn) (pending rs) → UndoesBelow (r.lsn + 1) r
undoes-after rs r may below begin le = by r.deed refl may
  where
    by : (d : Deed) → r.deed ≡ d → MayCome rs r.lsn r.begin d → undoes begin (record { lsn = r.lsn; begin = r.begin; deed = d }) ≡ false
    by (undone at c k) is may = let lt : r.begin < r.lsn = undone-below rs r.lsn r.begin at c k may below in grind (arith, nat_tests, lt, le)
    by (database_made time family branch) is may = refl
    by (table_made time spec) is may = refl
    by begun is may = refl
    by (written at before c) is may = refl
    by (committed time mark) is may = refl
    by rolled_back is may = refl
    by (checkpointed time) is may = refl
    by (stamped time set) is may = refl
    by (model_set time model) is may = refl
    by (loaded load) is may = refl
    by (recovered branch) is may = refl

below-more : (rs ss : List Logged) (n end : ℕ) → MayFollow rs ss → Counts n ss end → BeginBelow rs n → BeginBelow (rs ++ ss) end
below-more rs [] n end may counts below = subst (λ log. BeginBelow log end) (sym (append-nil rs)) (subst (BeginBelow rs) counts below)
below-more rs (r ∷ ss) n end may counts below =
    let here : AllByRecursion (λ w. w.begin < r.lsn) (pending rs) = subst (λ m. AllByRecursion (λ w. w.begin < m) (pending rs)) (sym counts.0) below.pending in
    let next : AllByRecursion (λ w. w.begin < r.lsn + 1) (pending_after (pending rs) r.lsn r.begin r.deed) = begins-after rs r.lsn r.begin r.deed may.0 here in
    let one : BeginBelow (rs ++ r ∷ []) (n + 1) = record {
      pending = subst (AllByRecursion (λ w. w.begin < n + 1)) (sym (pending-more rs (r ∷ []))) (subst (λ m. AllByRecursion (λ w. w.begin < m + 1) (pending_after (pending rs) r.lsn r.begin r.deed)) counts.0 next);
      undone = all_joined (UndoesBelow (n + 1)) rs (r ∷ []) (all_mapped (UndoesBelow n) (UndoesBelow (n + 1)) (λ s low begin le. low begin (omega (arith, le))) rs below.undone)
          (subst (λ m. UndoesBelow (m + 1) r) counts.0 (undoes-after rs r may.0 here), tt);
    } in
    subst (λ log. BeginBelow log end) (append_assoc rs (r ∷ []) ss) (below-more (rs ++ r ∷ []) ss (n + 1) end may.1 counts.1 one)

pub begin-below : (rs : List Logged) (end : ℕ) → IsSoundLog rs → Counts 1 rs end → BeginBelow rs end
unfolding pending
begin-below rs end sound counts = below-more [] rs 1 end sound counts (record { pending = tt; undone = tt })
