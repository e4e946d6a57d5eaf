-- What a log says with more behind it.
use Rattle.std.proofs.Common.{◌≡◌, ◌<◌, ◌≤◌, ℕ, ◌+◌, Bool, true, false, not, ◌&&◌, cond, List, [], ◌∷◌, ◌++◌, reverse, Option, None, refl, sym, ◌∙◌, ap, arith, append_assoc, length, add-zero, zero-add}
use Rattle.std.specs.Prelude.{◌==◌, ◌||◌}
use Rattle.std.specs.List.{filter, list_any, AllByRecursion}
use Rattle.std.proofs.lemmas.Bool.Decides.{nat_tests}
use Rattle.std.proofs.lemmas.List.{append-nil}
use Rattle.std.proofs.lemmas.List.Elements.{filter-append}
use Rattle.std.proofs.lemmas.List.Folds.{list_any-append}
use Rattle.bk_ids.specs.declared.record.Mark.{Mark}
use Rattle.bk_ids.specs.declared.record.Place.{Place}
use Rattle.bk_world.specs.Entry.{RowChange}
use Rattle.bk_world.specs.Rows.{rows_of}
use Rattle.bk_world.specs.FoldLaws.{rows_of-more}
use Rattle.bk_lemmas.specs.Lists.{all_filter, all_joined, all_mapped, filter_every, filter_no, filter_passed, reverse_cons, all_reverse}
use Rattle.bk_world.specs.Records.{Logged, RowId, Said, more, numbered, rolled_back}
use Rattle.bk_world.specs.Pending.{Lies, Pending, PendingRise, of_others, of_transaction, pending, pending_after, pending_from}
use Rattle.bk_world.specs.Telling.{commit_entry, entries, entries_from, entry_of, rows, seen}
use Rattle.bk_world.specs.Places.{home_behind, homes, homes_after, homes_from, last_of}
use Rattle.bk_world.specs.Says.{commit_said, rollback_said, settle_said, single_said, undoing}

-- ---- one part behind another

pub pending-append : (ws : List Pending) (rs ss : List Logged) → pending_from ws (rs ++ ss) ≡ pending_from (pending_from ws rs) ss
pending-append ws [] ss = refl
pending-append ws (r ∷ rs) ss = pending-append (pending_after ws r.lsn r.begin r.deed) rs ss

pub entries-append : (ws : List Pending) (rs ss : List Logged) → entries_from ws (rs ++ ss) ≡ entries_from ws rs ++ entries_from (pending_from ws rs) ss
entries-append ws [] ss = refl
entries-append ws (r ∷ rs) ss =
    ap (λ es. entry_of ws r.lsn r.begin r.deed ++ es) (entries-append (pending_after ws r.lsn r.begin r.deed) rs ss)
    ∙ sym (append_assoc (entry_of ws r.lsn r.begin r.deed) (entries_from (pending_after ws r.lsn r.begin r.deed) rs) (entries_from (pending_from (pending_after ws r.lsn r.begin r.deed) rs) ss))

pub homes-append : (ws : List Pending) (hs : RowId → Option Place) (rs ss : List Logged) → homes_from ws hs (rs ++ ss) ≡ homes_from (pending_from ws rs) (homes_from ws hs rs) ss
homes-append ws hs [] ss = refl
homes-append ws hs (r ∷ rs) ss = homes-append (pending_after ws r.lsn r.begin r.deed) (homes_after ws hs r.begin r.deed) rs ss

pub pending-more : (rs ss : List Logged) → pending (rs ++ ss) ≡ pending_from (pending rs) ss
unfolding pending
pending-more rs ss = pending-append [] rs ss

pub entries-more : (rs ss : List Logged) → entries (rs ++ ss) ≡ entries rs ++ entries_from (pending rs) ss
unfolding pending entries
entries-more rs ss = entries-append [] rs ss

pub homes-more : (rs ss : List Logged) → homes (rs ++ ss) ≡ homes_from (pending rs) (homes rs) ss
unfolding pending homes
homes-more rs ss = homes-append [] (λ id. None) rs ss

-- ---- a commit

pub entries-commit : (rs : List Logged) (n begin time : ℕ) (mark : Option Mark)
    → entries (more rs n (commit_said begin time mark)) ≡ entries rs ++ commit_entry (of_transaction begin (pending rs)) n time mark ∷ []
entries-commit rs n begin time mark = entries-more rs (numbered n (commit_said begin time mark))

-- a commit shows to all what its transaction saw
pub rows-commit : (rs : List Logged) (n begin time : ℕ) (mark : Option Mark) (table : ℕ) → rows (more rs n (commit_said begin time mark)) table ≡ seen rs begin table
unfolding rows seen
rows-commit rs n begin time mark table =
    ap (rows_of table []) (entries-commit rs n begin time mark)
    ∙ rows_of-more table [] (entries rs) (commit_entry (of_transaction begin (pending rs)) n time mark)

-- ---- a transaction of one row

none-of : (begin : ℕ) (ws : List Pending) → AllByRecursion (λ w. w.begin < begin) ws → AllByRecursion (λ w. (w.begin == begin) ≡ false) ws
none-of begin ws all = all_mapped (λ w. w.begin < begin) (λ w. (w.begin == begin) ≡ false) (λ w lt. grind arith) ws all

of-new : (begin : ℕ) (ws : List Pending) (w : Pending) → AllByRecursion (λ v. v.begin < begin) ws → (w.begin == begin) ≡ true → of_transaction begin (ws ++ w ∷ []) ≡ w ∷ []
of-new begin ws w all is =
    let one : of_transaction begin (w ∷ []) ≡ w ∷ [] = rw is refl in
    filter-append (λ v. v.begin == begin) ws (w ∷ [])
    ∙ ap (λ vs. vs ++ of_transaction begin (w ∷ [])) (filter_no (λ v. v.begin == begin) ws (none-of begin ws all)) ∙ one

-- ---- undoing

-- it tells no entry
pub undoing-quiet : (ws vs : List Pending) (n : ℕ) → entries_from ws (numbered n (undoing vs)) ≡ []
undoing-quiet ws [] n = refl
undoing-quiet ws (v ∷ vs) n = undoing-quiet (filter (λ w. not (w.begin == v.begin && w.lsn == v.lsn)) ws) vs (n + 1)

-- one of these writes
abbrev is_of : List Pending → Pending → Bool
is_of vs w = list_any (λ v. w.begin == v.begin && w.lsn == v.lsn) vs

-- and leaves the other writes
pub undoing-leaves : (ws vs : List Pending) (n : ℕ) → pending_from ws (numbered n (undoing vs)) ≡ filter (λ w. not (is_of vs w)) ws
undoing-leaves ws [] n = sym (filter_every (λ w. true) ws (every ws))
  where
    every : (ws : List Pending) → AllByRecursion (λ w. true ≡ true) ws
    every [] = tt
    every (w ∷ ws) = (refl, every ws)
undoing-leaves ws (v ∷ vs) n =
    undoing-leaves (filter (λ w. not (w.begin == v.begin && w.lsn == v.lsn)) ws) vs (n + 1)
    ∙ both (λ w. w.begin == v.begin && w.lsn == v.lsn) (is_of vs) ws
  where
    step : {X : Type 0} (p q : Bool) (x : X) (xs : List X) → cond (not p) (cond (not q) (x ∷ xs) xs) xs ≡ cond (not (p || q)) (x ∷ xs) xs
    step true q x xs = refl
    step false q x xs = refl

    swap : {X : Type 0} (q : X → Bool) (b : Bool) (x : X) (xs : List X) → filter (λ w. not (q w)) (cond b (x ∷ xs) xs) ≡ cond b (cond (not (q x)) (x ∷ filter (λ w. not (q w)) xs) (filter (λ w. not (q w)) xs)) (filter (λ w. not (q w)) xs)
    swap q true x xs = refl
    swap q false x xs = refl

    both : {X : Type 0} (p q : X → Bool) (xs : List X) → filter (λ w. not (q w)) (filter (λ w. not (p w)) xs) ≡ filter (λ w. not (p w || q w)) xs
    both p q [] = refl
    both {X = X} p q (x ∷ xs) =
        swap q (not (p x)) x (filter (λ w. not (p w)) xs)
        ∙ ap (λ (rest : List X). cond (not (p x)) (cond (not (q x)) (x ∷ rest) rest) rest) (both p q xs)
        ∙ step (p x) (q x) x (filter (λ w. not (p w || q w)) xs)

-- ---- a rollback

of_others-skips : (begin : ℕ) (ws : List Pending) (test : Pending → Bool) → ((w : Pending) → test w ≡ true → (w.begin == begin) ≡ true)
    → of_others begin (filter (λ w. not (test w)) ws) ≡ of_others begin ws
of_others-skips begin [] test own = refl
of_others-skips begin (w ∷ ws) test own = step (test w) refl (of_others-skips begin ws test own)
  where
    step : (t : Bool) → test w ≡ t → of_others begin (filter (λ v. not (test v)) ws) ≡ of_others begin ws → of_others begin (filter (λ v. not (test v)) (w ∷ ws)) ≡ of_others begin (w ∷ ws)
    step true is same = let b : (w.begin == begin) ≡ true = own w is in rw (is, b) same
    step false is same = rw is (ap (λ (rest : List Pending). cond (not (w.begin == begin)) (w ∷ rest) rest) same)

undoing-others : (begin : ℕ) (ws vs : List Pending) (n : ℕ) → AllByRecursion (λ v. (v.begin == begin) ≡ true) vs
    → of_others begin (pending_from ws (numbered n (undoing vs))) ≡ of_others begin ws
undoing-others begin ws [] n all = refl
undoing-others begin ws (v ∷ vs) n all =
    undoing-others begin (filter (λ w. not (w.begin == v.begin && w.lsn == v.lsn)) ws) vs (n + 1) all.1
    ∙ of_others-skips begin ws (λ w. w.begin == v.begin && w.lsn == v.lsn) (λ w is. grind (arith, nat_tests, is, all.0))

-- what is said in two parts
pub numbered-append : (n : ℕ) (a b : List Said) → numbered n (a ++ b) ≡ numbered n a ++ numbered (n + length a) b
numbered-append n [] b = rw add-zero refl
numbered-append n (s ∷ a) b =
    let on : (n + 1) + length a ≡ n + length (s ∷ a) = omega arith in
    ap (λ rs. (record { lsn = n; begin = s.begin; deed = s.deed }) ∷ rs) (numbered-append (n + 1) a b ∙ ap (λ m. numbered (n + 1) a ++ numbered m b) on)

-- a rollback tells no entry, and leaves what is pending of the others
pub entries-rollback : (rs : List Logged) (n begin : ℕ) → entries (more rs n (rollback_said begin (pending rs))) ≡ entries rs
entries-rollback rs n begin =
    let vs : List Pending = reverse (of_transaction begin (pending rs)) in
    let m : ℕ = n + length (undoing vs) in
    entries-more rs (numbered n (rollback_said begin (pending rs)))
    ∙ ap (λ ss. entries rs ++ entries_from (pending rs) ss) (numbered-append n (undoing vs) ((record { begin = begin; deed = rolled_back }) ∷ []))
    ∙ ap (λ es. entries rs ++ es) (entries-append (pending rs) (numbered n (undoing vs)) (numbered m ((record { begin = begin; deed = rolled_back }) ∷ [])))
    ∙ ap (λ es. entries rs ++ (es ++ [])) (undoing-quiet (pending rs) vs n)
    ∙ append-nil (entries rs)

pub pending-rollback : (rs : List Logged) (n begin : ℕ) → pending (more rs n (rollback_said begin (pending rs))) ≡ of_others begin (pending rs)
pending-rollback rs n begin =
    let vs : List Pending = reverse (of_transaction begin (pending rs)) in
    let m : ℕ = n + length (undoing vs) in
    pending-more rs (numbered n (rollback_said begin (pending rs)))
    ∙ ap (pending_from (pending rs)) (numbered-append n (undoing vs) ((record { begin = begin; deed = rolled_back }) ∷ []))
    ∙ pending-append (pending rs) (numbered n (undoing vs)) (numbered m ((record { begin = begin; deed = rolled_back }) ∷ []))
    ∙ undoing-others begin (pending rs) vs n (all_reverse (λ v. (v.begin == begin) ≡ true) (of_transaction begin (pending rs)) (filter_passed (λ v. v.begin == begin) (pending rs)))

-- ---- a transaction of one row

abbrev row_write : ℕ → Place → Option (List ℕ) → RowChange → Pending
row_write n at before c = record { lsn = n + 1; begin = n; place = at; before = before; change = c; extents = [] }

others-new : (n : ℕ) (ws : List Pending) (w : Pending) → AllByRecursion (λ v. v.begin < n) ws → (w.begin == n) ≡ true → of_others n (ws ++ w ∷ []) ≡ ws
others-new n ws w all is =
    let one : of_others n (w ∷ []) ≡ [] = rw is refl in
    let others : of_others n ws ≡ ws = filter_every (λ v. not (v.begin == n)) ws (all_mapped (λ v. (v.begin == n) ≡ false) (λ v. not (v.begin == n) ≡ true) (λ v e. ap not e) ws (none-of n ws all)) in
    filter-append (λ v. not (v.begin == n)) ws (w ∷ []) ∙ ap (λ vs. vs ++ of_others n (w ∷ [])) others ∙ ap (λ vs. ws ++ vs) one ∙ append-nil ws

pub entries-single : (rs : List Logged) (n : ℕ) (at : Place) (before : Option (List ℕ)) (c : RowChange) (time : ℕ) → AllByRecursion (λ w. w.begin < n) (pending rs)
    → entries (more rs n (single_said n at before c time)) ≡ entries rs ++ commit_entry (row_write n at before c ∷ []) ((n + 1) + 1) time None ∷ []
entries-single rs n at before c time new =
    entries-more rs (numbered n (single_said n at before c time))
    ∙ ap (λ ws. entries rs ++ commit_entry ws ((n + 1) + 1) time None ∷ [])
    (of-new n (pending rs) (row_write n at before c) new (own n))
  where
    own : (n : ℕ) → (n == n) ≡ true
    own n = grind (arith, nat_tests)

pub pending-single : (rs : List Logged) (n : ℕ) (at : Place) (before : Option (List ℕ)) (c : RowChange) (time : ℕ) → AllByRecursion (λ w. w.begin < n) (pending rs)
    → pending (more rs n (single_said n at before c time)) ≡ pending rs
pending-single rs n at before c time new =
    pending-more rs (numbered n (single_said n at before c time)) ∙ others-new n (pending rs) (row_write n at before c) new (own n)
  where
    own : (n : ℕ) → (n == n) ≡ true
    own n = grind (arith, nat_tests)

-- ---- a crash

-- each of some writes is one of them
each-is : (vs : List Pending) → AllByRecursion (λ w. is_of vs w ≡ true) vs
each-is [] = tt
each-is (v ∷ vs) = (first, all_mapped (λ w. is_of vs w ≡ true) (λ w. is_of (v ∷ vs) w ≡ true) (λ w e. grind (arith, nat_tests, e)) vs (each-is vs))
  where
    first : is_of (v ∷ vs) v ≡ true
    first = grind (arith, nat_tests)

is_of-reverse : (vs : List Pending) (w : Pending) → is_of vs w ≡ true → is_of (reverse vs) w ≡ true
is_of-reverse vs w is = any-reverse (λ v. w.begin == v.begin && w.lsn == v.lsn) vs ∙ is
  where
    or-swap : (a b : Bool) → (a || (b || false)) ≡ (b || a)
    or-swap true true = refl
    or-swap true false = refl
    or-swap false true = refl
    or-swap false false = refl

    any-reverse : {X : Type 0} (p : X → Bool) (xs : List X) → list_any p (reverse xs) ≡ list_any p xs
    any-reverse p [] = refl
    any-reverse p (x ∷ xs) =
        ap (list_any p) (reverse_cons x xs) ∙ list_any-append p (reverse xs) (x ∷ []) ∙ ap (λ t. t || (p x || false)) (any-reverse p xs) ∙ or-swap (list_any p xs) (p x)

pub pending-settled : (rs : List Logged) (n : ℕ) → pending (more rs n (settle_said (pending rs))) ≡ []
pending-settled rs n =
    pending-more rs (numbered n (settle_said (pending rs)))
    ∙ undoing-leaves (pending rs) (reverse (pending rs)) n
    ∙ filter_no (λ w. not (is_of (reverse (pending rs)) w)) (pending rs)
    (all_mapped (λ w. is_of (pending rs) w ≡ true) (λ w. not (is_of (reverse (pending rs)) w) ≡ false) (λ w e. ap not (is_of-reverse (pending rs) w e)) (pending rs) (each-is (pending rs)))

-- what undoes all that is pending tells nothing
pub entries-settled : (rs : List Logged) (n : ℕ) → entries (more rs n (settle_said (pending rs))) ≡ entries rs
entries-settled rs n =
    entries-more rs (numbered n (settle_said (pending rs)))
    ∙ ap (λ es. entries rs ++ es) (undoing-quiet (pending rs) (reverse (pending rs)) n)
    ∙ append-nil (entries rs)

-- ---- where pending writes lie

pub rise-one_more : (ws : List Pending) (w : Pending) → PendingRise ws → AllByRecursion (λ v. v.lsn < w.lsn) ws → PendingRise (ws ++ w ∷ [])
rise-one_more [] w rise below = (tt, tt)
rise-one_more (v ∷ ws) w rise below = (all_joined (λ x. v.lsn < x.lsn) ws (w ∷ []) rise.0 (below.0, tt), rise-one_more ws w rise.1 below.1)

pub rise-filter : (p : Pending → Bool) (ws : List Pending) → PendingRise ws → PendingRise (filter p ws)
rise-filter p [] rise = tt
rise-filter p (w ∷ ws) rise = step (p w) (rise-filter p ws rise.1)
  where
    step : (t : Bool) → PendingRise (filter p ws) → PendingRise (cond t (w ∷ filter p ws) (filter p ws))
    step true rest = (all_filter (λ v. w.lsn < v.lsn) p ws rise.0, rest)
    step false rest = rest

-- rising numbers from one number to below another are no more than lie between them
pub rise-length : (ws : List Pending) (b end : ℕ) → b ≤ end → PendingRise ws → AllByRecursion (λ w. b ≤ w.lsn) ws → AllByRecursion (λ w. w.lsn < end) ws → length ws + b ≤ end
rise-length [] b end le rise from below = rw zero-add le
rise-length (w ∷ ws) b end le rise from below =
    let rest : length ws + (w.lsn + 1) ≤ end = rise-length ws (w.lsn + 1) end (omega (arith, below.0)) rise.1 (all_mapped (λ v. w.lsn < v.lsn) (λ v. w.lsn + 1 ≤ v.lsn) (λ v lt. omega arith) ws rise.0) below.1 in
    omega (arith, rest, from.0)

pub record LieAt (ws : List Pending) (n : ℕ) : Type 0 where
  pub rise : PendingRise ws
  pub each : AllByRecursion (Lies n) ws

pub lies-later : (n m : ℕ) → n ≤ m → (ws : List Pending) → AllByRecursion (Lies n) ws → AllByRecursion (Lies m) ws
lies-later n m le ws all = all_mapped (Lies n) (Lies m) (λ w l. record { behind = l.behind; below = omega (arith, l.below) }) ws all

pub pending-commit : (rs : List Logged) (n begin time : ℕ) (mark : Option Mark) → pending (more rs n (commit_said begin time mark)) ≡ of_others begin (pending rs)
pending-commit rs n begin time mark = pending-more rs (numbered n (commit_said begin time mark))

pub homes-commit : (rs : List Logged) (n begin time : ℕ) (mark : Option Mark) (id : RowId) → homes (more rs n (commit_said begin time mark)) id ≡ home_behind (last_of id (of_transaction begin (pending rs))) (homes rs id)
homes-commit rs n begin time mark id = ap (λ (hs : RowId → Option Place). hs id) (homes-more rs (numbered n (commit_said begin time mark)))
