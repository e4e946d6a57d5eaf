-- Transactions that begin and end: BEGIN, COMMIT, ROLLBACK.
use Rattle.std.proofs.Common.{◌≡◌, ◌≢◌, ◌<◌, ◌≤◌, ℕ, ◌+◌, Bool, true, false, not, ◌&&◌, cond, List, [], ◌∷◌, ◌++◌, length, reverse, Option, None, Some, refl, sym, ◌∙◌, ap, subst, arith}
use Rattle.std.specs.Prelude.{◌==◌, ◌||◌}
use Rattle.std.specs.List.{filter, AllByRecursion}
use Rattle.std.proofs.lemmas.Bool.Decides.{nat_tests}
use Rattle.std.proofs.lemmas.List.{append-nil, length-append, length-reverse, reverse-append, reverse-reverse}
use Rattle.bk_ids.specs.declared.record.Mark.{Mark}
use Rattle.bk_world.specs.FoldLaws.{tables_of-more}
use Rattle.bk_lemmas.specs.Lists.{all_both, all_filter, all_joined, all_mapped, all_middle, filter_passed, filter_swap}
use Rattle.bk_world.specs.Pending.{Pending, PendingRise, of_others, of_transaction, pending}
use Rattle.bk_world.specs.ReadingLaws.{entries-commit, entries-rollback, pending-more, rise-filter}
use Rattle.bk_world.specs.Records.{Logged, Said, more, numbered, rolled_back}
use Rattle.bk_world.specs.Rows.{tables_of}
use Rattle.bk_world.specs.Says.{begin_said, commit_said, rollback_said, undoing, within}
use Rattle.bk_world.specs.SoundLogs.{MayFollow, NoLoadPends, undoes}
use Rattle.bk_world.specs.Telling.{entries, tables}
use Rattle.bk_world.specs.SettledLaws.{length-undoing}
use Rattle.bk_world.specs.UndoLaws.{filter-undone}
use Rattle.bk_world.specs.declared.database.FileSpec.{FileSpec}
use Rattle.bk_machine.specs.Checks.{last_number}
use Rattle.bk_machine.specs.Crash.{AreQuiet}
use Rattle.bk_machine.specs.Sound.{Apart, AreApart, AreOpen, ArePlaced, HasFew, KeepsAll, has_begin, LeavesStamp}
use Rattle.bk_machine.specs.UpLaws.{begins-later, kept-more}
use Rattle.bk_world.specs.declared.transaction.Open.{Open}
use Rattle.bk_machine.specs.World.{most_sessions, most_writes, transaction_of, without_begin}
use Rattle.bk_machine.proofs.statements.Begins.{BeginBelow}
use Rattle.bk_machine.proofs.statements.Few.{fewer, one-less, split}

-- ---- a transaction more

has-more : (ts : List Open) (u : Open) (n : ℕ) → has_begin ts n ≡ true → has_begin (ts ++ u ∷ []) n ≡ true
has-more [] u n there = absurd (cc)
has-more (t ∷ ts) u n there = by (t.begin == n) there (has-more ts u n)
  where
    by : (b : Bool) → (b || has_begin ts n) ≡ true → (has_begin ts n ≡ true → has_begin (ts ++ u ∷ []) n ≡ true) → (b || has_begin (ts ++ u ∷ []) n) ≡ true
    by true there later = refl
    by false there later = later there

apart-more : (ts : List Open) (u : Open) → AreApart ts → AllByRecursion (λ (t : Open). Apart t u) ts → AreApart (ts ++ u ∷ [])
apart-more [] u apart others = (tt, tt)
apart-more (t ∷ ts) u apart others = (all_joined (Apart t) ts (u ∷ []) apart.0 (others.0, tt), apart-more ts u apart.1 others.1)

-- where a session has none, none is its
pub none-its : (ts : List Open) (session : ℕ) → transaction_of ts session ≡ None → AllByRecursion (λ (t : Open). t.session ≢ session) ts
none-its [] session none = tt
none-its (t ∷ ts) session none = by (t.session == session) refl none (none-its ts session)
  where
    by : (b : Bool) → (t.session == session) ≡ b → cond b (Some t) (transaction_of ts session) ≡ None → (transaction_of ts session ≡ None → AllByRecursion (λ (u : Open). u.session ≢ session) ts) → AllByRecursion (λ (u : Open). u.session ≢ session) (t ∷ ts)
    by true is none later = absurd (cc)
    by false is none later = (λ same. let wrong : (t.session == session) ≡ true = grind (arith, nat_tests, same) in absurd (cc), later none)

module _ (rs : List Logged) (n : ℕ) (ts : List Open) (opens : AreOpen rs n ts) (below : BeginBelow rs n) (positive : 0 < n) (session : ℕ) (mark : Option Mark) (seat : session ≤ most_sessions) (none : transaction_of ts session ≡ None)
    (room : n + (length (pending rs) + (length ts + 16)) ≤ last_number) where
  abbrev new : Open
  new = record { session = session; begin = n; mark = mark }

  begun-pending : pending (more rs n (begin_said n)) ≡ pending rs
  begun-pending = pending-more rs (numbered n (begin_said n))

  others : AllByRecursion (λ (t : Open). Apart t (record { session = session; begin = n; mark = mark })) ts
  others =
      all_both (λ (t : Open). t.session ≢ session) (λ (t : Open). (0 < t.begin) × (t.begin < n)) (λ (t : Open). Apart t (record { session = session; begin = n; mark = mark }))
      (λ t other lies. record { session = other; begin = λ same. absurd (omega (arith, lies.1, same)) }) ts (none-its ts session none) opens.begins

  no-writes : AllByRecursion (λ w. w.begin < n) (pending rs) → length (of_transaction n (pending rs)) ≤ most_writes
  no-writes lies =
      let nothing : of_transaction n (pending rs) ≡ [] = Rattle.bk_lemmas.specs.Lists.filter_no (λ (w : Pending). w.begin == n) (pending rs) (all_mapped (λ w. w.begin < n) (λ w. (w.begin == n) ≡ false) (λ w lt. grind (arith, nat_tests, lt)) (pending rs) lies) in
      let count : length (of_transaction n (pending rs)) ≡ 0 = ap length nothing in
      omega (arith, count)

  pub opens-begun : AreOpen (more rs n (begin_said n)) (n + 1) (ts ++ (record { session = session; begin = n; mark = mark }) ∷ [])
  opens-begun =
      let u : Open = record { session = session; begin = n; mark = mark } in record {
        pending = subst (AllByRecursion (λ (w : Pending). has_begin (ts ++ u ∷ []) w.begin ≡ true)) (sym begun-pending)
            (all_mapped (λ (w : Pending). has_begin ts w.begin ≡ true) (λ (w : Pending). has_begin (ts ++ u ∷ []) w.begin ≡ true) (λ w there. has-more ts u w.begin there) (pending rs) opens.pending);
        loads = subst (AllByRecursion (λ (w : Pending). w.extents ≡ [])) (sym begun-pending) opens.loads;
        apart = apart-more ts u opens.apart others;
        begins = all_joined (λ (t : Open). (0 < t.begin) × (t.begin < n + 1)) ts (u ∷ []) (begins-later n (n + 1) ts (omega arith) opens.begins) ((positive, omega arith), tt);
        few = subst (λ ws. AllByRecursion (λ (t : Open). length (of_transaction t.begin ws) ≤ most_writes) (ts ++ u ∷ [])) (sym begun-pending)
            (all_joined (HasFew rs) ts (u ∷ []) opens.few (no-writes below.pending, tt));
        seats = all_joined (λ (t : Open). t.session ≤ most_sessions) ts (u ∷ []) opens.seats (seat, tt);
        kept = all_joined (KeepsAll (more rs n (begin_said n))) ts (u ∷ []) (kept-more rs (numbered n (begin_said n)) ts (λ b. refl, tt) opens.kept)
            (all_joined (λ (r : Logged). undoes n r ≡ false) rs (numbered n (begin_said n)) (all_mapped _ (λ (r : Logged). undoes n r ≡ false) (λ r low. low n (omega arith)) rs below.undone) (refl, tt), tt);
        numbers = (
            let many : length (pending (more rs n (begin_said n))) ≡ length (pending rs) = ap length begun-pending in
            let one_more : length (ts ++ u ∷ []) ≡ length ts + 1 = length-append ts (u ∷ []) in
            omega (arith, room, many, one_more));
      }

  pub leaves-begun : LeavesStamp (more rs n (begin_said n)) (n + 1) (ts ++ (record { session = session; begin = n; mark = mark }) ∷ [])
  leaves-begun =
      let many : length (pending (more rs n (begin_said n))) ≡ length (pending rs) = ap length begun-pending in
      let one_more : length (ts ++ new ∷ []) ≡ length ts + 1 = length-append ts (new ∷ []) in
      omega (arith, room, many, one_more)

-- ---- a transaction less

has-less : (ts : List Open) (begin n : ℕ) → has_begin ts n ≡ true → (n == begin) ≡ false → has_begin (without_begin ts begin) n ≡ true
has-less [] begin n there other = absurd (cc)
has-less (t ∷ ts) begin n there other = by (t.begin == n) refl (t.begin == begin) refl there (λ h. has-less ts begin n h other)
  where
    by : (a : Bool) → (t.begin == n) ≡ a → (b : Bool) → (t.begin == begin) ≡ b → (a || has_begin ts n) ≡ true → (has_begin ts n ≡ true → has_begin (without_begin ts begin) n ≡ true)
        → has_begin (cond (not b) (t ∷ without_begin ts begin) (without_begin ts begin)) n ≡ true
    by true is true own there later = let same : (n == begin) ≡ true = grind (arith, nat_tests, is, own) in let wrong : true ≡ false = sym same ∙ other in absurd (cc)
    by true is false own there later = rw is refl
    by false is true own there later = later there
    by false is false own there later = rw is (later there)

apart-filter : (p : Open → Bool) (ts : List Open) → AreApart ts → AreApart (filter p ts)
apart-filter p [] apart = tt
apart-filter p (t ∷ ts) apart = by (p t) (apart-filter p ts apart.1)
  where
    by : (b : Bool) → AreApart (filter p ts) → AreApart (cond b (t ∷ filter p ts) (filter p ts))
    by true rest = (all_filter (Apart t) p ts apart.0, rest)
    by false rest = rest

other-begin : (begin : ℕ) (w : Pending) → not (w.begin == begin) ≡ true → (w.begin == begin) ≡ false
other-begin begin w is = by (w.begin == begin) is
  where
    by : (b : Bool) → not b ≡ true → b ≡ false
    by true e = absurd (cc)
    by false e = refl

module _ (rs : List Logged) (n : ℕ) (ts : List Open) (opens : AreOpen rs n ts) (begin : ℕ) (said : List Said) (left : pending (more rs n said) ≡ of_others begin (pending rs))
    (kept : AllByRecursion (KeepsAll (more rs n said)) (without_begin ts begin)) (there : has_begin ts begin ≡ true) (few : length said ≤ length (of_transaction begin (pending rs)) + 1) where
  -- where it has ended the others are open: it took the numbers that were left for it
  pub opens-without : AreOpen (more rs n said) (n + length said) (without_begin ts begin)
  opens-without = record {
    pending = subst (AllByRecursion (λ (w : Pending). has_begin (without_begin ts begin) w.begin ≡ true)) (sym left)
        (all_both (λ (w : Pending). not (w.begin == begin) ≡ true) (λ (w : Pending). has_begin ts w.begin ≡ true) (λ (w : Pending). has_begin (without_begin ts begin) w.begin ≡ true)
        (λ w other there. has-less ts begin w.begin there (other-begin begin w other)) (of_others begin (pending rs)) (filter_passed (λ (w : Pending). not (w.begin == begin)) (pending rs))
        (all_filter (λ (w : Pending). has_begin ts w.begin ≡ true) (λ (w : Pending). not (w.begin == begin)) (pending rs) opens.pending));
    loads = subst (AllByRecursion (λ (w : Pending). w.extents ≡ [])) (sym left) (all_filter (λ (w : Pending). w.extents ≡ []) (λ (w : Pending). not (w.begin == begin)) (pending rs) opens.loads);
    apart = apart-filter (λ (t : Open). not (t.begin == begin)) ts opens.apart;
    begins = all_filter (λ (t : Open). (0 < t.begin) × (t.begin < n + length said)) (λ (t : Open). not (t.begin == begin)) ts (begins-later n (n + length said) ts (omega arith) opens.begins);
    few = subst (λ ws. AllByRecursion (λ (t : Open). length (of_transaction t.begin ws) ≤ most_writes) (without_begin ts begin)) (sym left)
        (all_filter (λ (t : Open). length (of_transaction t.begin (of_others begin (pending rs))) ≤ most_writes) (λ (t : Open). not (t.begin == begin)) ts
        (all_mapped (HasFew rs) (λ (t : Open). length (of_transaction t.begin (of_others begin (pending rs))) ≤ most_writes)
        (λ t le. let less : length (of_transaction t.begin (of_others begin (pending rs))) ≤ length (of_transaction t.begin (pending rs)) = fewer (λ (w : Pending). w.begin == t.begin) (λ (w : Pending). not (w.begin == begin)) (pending rs) in omega (arith, le, less)) ts opens.few));
    seats = all_filter (λ (t : Open). t.session ≤ most_sessions) (λ (t : Open). not (t.begin == begin)) ts opens.seats;
    kept = kept;
    numbers = (
        let many : length (pending (more rs n said)) ≡ length (of_others begin (pending rs)) = ap length left in
        let parts : length (of_transaction begin (pending rs)) + length (of_others begin (pending rs)) ≡ length (pending rs) = split begin (pending rs) in
        let less : length (without_begin ts begin) + 1 ≡ length ts = one-less ts begin opens.apart there in
        omega (arith, opens.numbers, many, parts, less, few));
  }

  -- and left those for a stamp
  pub leaves-without : LeavesStamp rs n ts → LeavesStamp (more rs n said) (n + length said) (without_begin ts begin)
  leaves-without stamp =
      let many : length (pending (more rs n said)) ≡ length (of_others begin (pending rs)) = ap length left in
      let parts : length (of_transaction begin (pending rs)) + length (of_others begin (pending rs)) ≡ length (pending rs) = split begin (pending rs) in
      let less : length (without_begin ts begin) + 1 ≡ length ts = one-less ts begin opens.apart there in
      omega (arith, stamp, many, parts, less, few)

-- ---- COMMIT

pub kept-commit : (rs : List Logged) (n : ℕ) (ts : List Open) (begin time : ℕ) (mark : Option Mark) → AllByRecursion (KeepsAll rs) ts → AllByRecursion (KeepsAll (more rs n (commit_said begin time mark))) (without_begin ts begin)
kept-commit rs n ts begin time mark kept =
    all_filter (KeepsAll (more rs n (commit_said begin time mark))) (λ (t : Open). not (t.begin == begin)) ts (kept-more rs (numbered n (commit_said begin time mark)) ts (λ b. refl, tt) kept)

pub tables-commit : (rs : List Logged) (n begin time : ℕ) (mark : Option Mark) → tables (more rs n (commit_said begin time mark)) ≡ tables rs
unfolding tables
tables-commit rs n begin time mark = ap tables_of (entries-commit rs n begin time mark) ∙ tables_of-more (entries rs) _ ∙ append-nil (tables_of (entries rs))

-- ---- ROLLBACK

-- two tests, one after the other
rolled-follows : (rs : List Logged) (n begin : ℕ) (vs : List Pending) → PendingRise (pending rs) → NoLoadPends rs → reverse (of_transaction begin (pending rs)) ≡ vs → MayFollow rs (numbered n (undoing vs ++ within begin rolled_back))
rolled-follows rs n begin [] rise none is = (sym (reverse-reverse (of_transaction begin (pending rs))) ∙ ap reverse is, tt)
rolled-follows rs n begin (v ∷ vs) rise none is =
    let own : of_transaction begin (pending rs) ≡ reverse vs ++ v ∷ [] = sym (reverse-reverse (of_transaction begin (pending rs))) ∙ (ap reverse is ∙ reverse-append (v ∷ []) vs) in
    let OfPassed : List Pending → Type 0 = AllByRecursion (λ (w : Pending). (w.begin == begin) ≡ true) in
    let its : (v.begin == begin) ≡ true = all_middle (λ (w : Pending). (w.begin == begin) ≡ true) (reverse vs) v [] (subst OfPassed own (filter_passed (λ (w : Pending). w.begin == begin) (pending rs))) in
    let same : v.begin ≡ begin = grind (arith, nat_tests, its) in
    let OfNone : List Pending → Type 0 = AllByRecursion (λ (w : Pending). w.extents ≡ []) in
    let single : v.extents ≡ [] = all_middle (λ (w : Pending). w.extents ≡ []) (reverse vs) v [] (subst OfNone own (all_filter (λ (w : Pending). w.extents ≡ []) (λ (w : Pending). w.begin == begin) (pending rs) none)) in
    let next : List Logged = more rs n (undoing (v ∷ [])) in
    let undone : Pending → Bool = λ w. not (w.begin == v.begin && w.lsn == v.lsn) in
    let now : pending next ≡ filter undone (pending rs) = pending-more rs (numbered n (undoing (v ∷ []))) in
    let own_now : of_transaction begin (pending next) ≡ reverse vs =
    ap (of_transaction begin) now ∙ filter_swap (λ (w : Pending). w.begin == begin) undone (pending rs) ∙ ap (filter undone) own
    ∙ filter-undone (reverse vs) v [] (subst PendingRise own (rise-filter (λ (w : Pending). w.begin == begin) (pending rs) rise)) ∙ append-nil (reverse vs) in
    let rest : reverse (of_transaction begin (pending next)) ≡ vs = ap reverse own_now ∙ reverse-reverse vs in (
      record { before = reverse vs; write = v; last = ap (λ b. of_transaction b (pending rs)) same ∙ own; single = single; place = refl; back = refl; number = refl },
      rolled-follows next (n + 1) begin vs (subst PendingRise (sym now) (rise-filter undone (pending rs) rise)) (subst OfNone (sym now) (all_filter (λ (w : Pending). w.extents ≡ []) undone (pending rs) none)) rest,
    )

pub may-roll-back : (rs : List Logged) (n begin : ℕ) → PendingRise (pending rs) → NoLoadPends rs → MayFollow rs (numbered n (rollback_said begin (pending rs)))
may-roll-back rs n begin rise none = rolled-follows rs n begin (reverse (of_transaction begin (pending rs))) rise none refl

placed-rolled : (files : List FileSpec) (before : List Logged) (n begin : ℕ) (ws : List Pending) → ArePlaced files before (numbered n (undoing ws ++ within begin rolled_back))
placed-rolled files before n begin [] = (tt, tt)
placed-rolled files before n begin (w ∷ ws) = (tt, placed-rolled files (before ++ numbered n (undoing (w ∷ []))) (n + 1) begin ws)

pub placed-rollback : (files : List FileSpec) (rs : List Logged) (n begin : ℕ) → ArePlaced files rs (numbered n (rollback_said begin (pending rs)))
placed-rollback files rs n begin = placed-rolled files rs n begin (reverse (of_transaction begin (pending rs)))

pub tables-rollback : (rs : List Logged) (n begin : ℕ) → tables (more rs n (rollback_said begin (pending rs))) ≡ tables rs
unfolding tables
tables-rollback rs n begin = ap tables_of (entries-rollback rs n begin)

all-reverse : {X : Type 0} (Q : X → Type 0) (xs : List X) → AllByRecursion Q xs → AllByRecursion Q (reverse xs)
all-reverse Q [] all = tt
all-reverse Q (x ∷ xs) all = subst (AllByRecursion Q) (sym (reverse-append (x ∷ []) xs)) (all_joined Q (reverse xs) (x ∷ []) (all-reverse Q xs all.1) (all.0, tt))

-- all that it says is of the transaction
said-rolled : (begin : ℕ) (ws : List Pending) → AllByRecursion (λ (w : Pending). (w.begin == begin) ≡ true) ws → AllByRecursion (λ (s : Said). s.begin ≡ begin) (undoing ws ++ within begin rolled_back)
said-rolled begin [] all = (refl, tt)
said-rolled begin (w ∷ ws) all = (grind (arith, nat_tests, all.0), said-rolled begin ws all.1)

pub said-rollback : (rs : List Logged) (begin : ℕ) → AllByRecursion (λ (s : Said). s.begin ≡ begin) (rollback_said begin (pending rs))
said-rollback rs begin =
    said-rolled begin (reverse (of_transaction begin (pending rs))) (all-reverse (λ (w : Pending). (w.begin == begin) ≡ true) (of_transaction begin (pending rs)) (filter_passed (λ (w : Pending). w.begin == begin) (pending rs)))

-- it undoes nothing of the others
undoes-own : (n begin b : ℕ) (said : List Said) → (begin == b) ≡ false → AllByRecursion (λ (s : Said). s.begin ≡ begin) said → AllByRecursion (λ (r : Logged). undoes b r ≡ false) (numbered n said)
undoes-own n begin b [] other all = tt
undoes-own n begin b (s ∷ said) other all =
    let off : (s.begin == b) ≡ false = ap (λ x. x == b) all.0 ∙ other in
    (by s.deed (s.begin == b) refl off, undoes-own (n + 1) begin b said other all.1)
  where
    by : (deed : _) (t : Bool) → (s.begin == b) ≡ t → (s.begin == b) ≡ false → undoes b (record { lsn = n; begin = s.begin; deed = deed }) ≡ false
    by (Rattle.bk_world.specs.Records.undone at c m) t is off = off
    by (Rattle.bk_world.specs.Records.database_made time family branch) t is off = refl
    by (Rattle.bk_world.specs.Records.table_made time spec) t is off = refl
    by Rattle.bk_world.specs.Records.begun t is off = refl
    by (Rattle.bk_world.specs.Records.written at before c) t is off = refl
    by (Rattle.bk_world.specs.Records.committed time mark) t is off = refl
    by Rattle.bk_world.specs.Records.rolled_back t is off = refl
    by (Rattle.bk_world.specs.Records.checkpointed time) t is off = refl
    by (Rattle.bk_world.specs.Records.stamped time set) t is off = refl
    by (Rattle.bk_world.specs.Records.model_set time model) t is off = refl
    by (Rattle.bk_world.specs.Records.loaded load) t is off = refl
    by (Rattle.bk_world.specs.Records.recovered branch) t is off = refl

-- it says a record for each of its writes, and one
pub few-rollback : (rs : List Logged) (begin : ℕ) → length (rollback_said begin (pending rs)) ≤ length (of_transaction begin (pending rs)) + 1
few-rollback rs begin =
    let own : List Pending = of_transaction begin (pending rs) in
    let parts : length (rollback_said begin (pending rs)) ≡ length (undoing (reverse own)) + 1 = length-append (undoing (reverse own)) (within begin rolled_back) in
    let many : length (undoing (reverse own)) ≡ length own = length-undoing (reverse own) ∙ length-reverse own in
    omega (arith, parts, many)

quiet-undoing : (begin : ℕ) (ws : List Pending) → AreQuiet (undoing ws ++ within begin rolled_back)
quiet-undoing begin [] = (refl, tt)
quiet-undoing begin (w ∷ ws) = (refl, quiet-undoing begin ws)

-- none of which tells an entry
pub quiet-rollback : (rs : List Logged) (begin : ℕ) → AreQuiet (rollback_said begin (pending rs))
quiet-rollback rs begin = quiet-undoing begin (reverse (of_transaction begin (pending rs)))

pub kept-rollback : (rs : List Logged) (n : ℕ) (ts : List Open) (begin : ℕ) → AllByRecursion (KeepsAll rs) ts → AllByRecursion (KeepsAll (more rs n (rollback_said begin (pending rs)))) (without_begin ts begin)
kept-rollback rs n ts begin kept =
    all_both (λ (t : Open). not (t.begin == begin) ≡ true) (KeepsAll rs) (KeepsAll (more rs n (rollback_said begin (pending rs))))
    (λ t other before. all_joined (λ (r : Logged). undoes t.begin r ≡ false) rs (numbered n (rollback_said begin (pending rs))) before
    (undoes-own n begin t.begin (rollback_said begin (pending rs)) (apart t other) (said-rollback rs begin)))
    (without_begin ts begin) (filter_passed (λ (t : Open). not (t.begin == begin)) ts) (all_filter (KeepsAll rs) (λ (t : Open). not (t.begin == begin)) ts kept)
  where
    apart : (t : Open) → not (t.begin == begin) ≡ true → (begin == t.begin) ≡ false
    apart t other = by (t.begin == begin) refl other
      where
        by : (b : Bool) → (t.begin == begin) ≡ b → not b ≡ true → (begin == t.begin) ≡ false
        by true is e = absurd (cc)
        by false is e = grind (arith, nat_tests, is)
