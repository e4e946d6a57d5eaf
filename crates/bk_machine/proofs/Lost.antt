-- Lines of which a crash leaves a front, with records that undo behind it: what is held in them stays, and is read as before.
use Rattle.std.proofs.Common.{◌≡◌, ◌<◌, ◌≤◌, inl, inr, ℕ, zero, suc, ◌+◌, Bool, true, false, cond, List, [], ◌∷◌, ◌++◌, Option, None, Some, refl, sym, ◌∙◌, ap, subst, eqb, filter, arith}
use Rattle.std.specs.List.{AllByRecursion, AllZip}
use Rattle.std.proofs.lemmas.List.{append-nil}
use Rattle.std.proofs.lemmas.List.Elements.{filter-append}
use Rattle.bk_ids.specs.declared.guid.Guid.{Guid}
use Rattle.bk_ids.specs.declared.path.Branch.{Branch}
use Rattle.bk_ids.specs.Path.{branch_at}
use Rattle.bk_world.specs.History.{is_guid, at_branch}
use Rattle.bk_world.specs.Lines.{RecordLines, has_record_line, line_on, log_below, logged_on}
use Rattle.bk_lemmas.specs.Lists.{all_mapped}
use Rattle.bk_world.specs.Records.{Logged}
use Rattle.bk_world.specs.Telling.{telling}
use Rattle.bk_world.specs.ApartLaws.{along-on}
use Rattle.bk_world.specs.SaidLaws.{filter-above}
use Rattle.bk_machine.specs.JoinLaws.{rise-all, rise-line}
use Rattle.bk_machine.specs.Crash.{LineLeft}
use Rattle.bk_machine.specs.Sound.{IsHeld, IsOnce, IsPassed, IsReached, IsSoundLine, RiseFrom}
use Rattle.bk_machine.specs.World.{World}

-- ---- records that rise

-- the line of a branch rises where all lines do
-- ---- what is reached

reached-quiet : (rs : List Logged) (k : ℕ) → AllByRecursion (λ r. telling r.deed ≡ None) rs → IsReached rs k → ⊥
reached-quiet [] k quiet reached = reached
reached-quiet (r ∷ rs) k quiet reached = elim reached [ inl here ↦ here.1 quiet.0 | inr later ↦ reached-quiet rs k quiet.1 later ]

-- where what is lost tells no entry, a front reaches as far
pub reached-kept : (kept lost : List Logged) (k : ℕ) → AllByRecursion (λ r. telling r.deed ≡ None) lost → IsReached (kept ++ lost) k → IsReached kept k
reached-kept [] lost k quiet reached = absurd (reached-quiet lost k quiet reached)
reached-kept (r ∷ kept) lost k quiet reached = elim reached [ inl here ↦ inl here | inr later ↦ inr (reached-kept kept lost k quiet later) ]

pub reached-more : (kept more : List Logged) (k : ℕ) → IsReached kept k → IsReached (kept ++ more) k
reached-more [] more k reached = absurd reached
reached-more (r ∷ kept) more k reached = elim reached [ inl here ↦ inl here | inr later ↦ inr (reached-more kept more k later) ]

-- what comes behind a front lies above all that the front reaches
above-reached : (n : ℕ) (kept more : List Logged) (k : ℕ) → RiseFrom n (kept ++ more) → IsReached kept k → AllByRecursion (λ r. k + 1 ≤ r.lsn) more
above-reached n [] more k rise reached = absurd reached
above-reached n (r ∷ kept) more k rise reached =
    elim reached [
      | inl here ↦ behind kept (all_mapped (λ (s : Logged). r.lsn < s.lsn) (λ (s : Logged). k + 1 ≤ s.lsn) (λ s lt. omega (arith, lt, here.0)) (kept ++ more) (rise-all r.lsn (kept ++ more) rise.1))
      | inr later ↦ above-reached r.lsn kept more k rise.1 later
    ]
  where
    behind : (xs : List Logged) → AllByRecursion (λ (s : Logged). k + 1 ≤ s.lsn) (xs ++ more) → AllByRecursion (λ (s : Logged). k + 1 ≤ s.lsn) more
    behind [] all = all
    behind (x ∷ xs) all = behind xs all.1

-- so a front has what the whole has at each number that the front reaches
at-reached : (kept more : List Logged) (k : ℕ) → RiseFrom 0 (kept ++ more) → IsReached kept k → filter (λ r. eqb r.lsn k) (kept ++ more) ≡ filter (λ r. eqb r.lsn k) kept
at-reached kept more k rise reached =
    filter-append (λ r. eqb r.lsn k) kept more
    ∙ ap (λ rest. filter (λ r. eqb r.lsn k) kept ++ rest) (filter-above more (k + 1) k (above-reached 0 kept more k rise reached) (omega arith))
    ∙ append-nil (filter (λ r. eqb r.lsn k) kept)

-- nothing lies at 0
at-zero : (rs : List Logged) → RiseFrom 0 rs → filter (λ r. eqb r.lsn 0) rs ≡ []
at-zero rs rise = filter-above rs 1 0 (all_mapped (λ (r : Logged). 0 < r.lsn) (λ (r : Logged). 1 ≤ r.lsn) (λ r lt. omega (arith, lt)) rs (rise-all 0 rs rise)) (omega arith)

-- ---- lines

-- each branch's line is left so
pub line-left : (cut left : RecordLines) → AllZip LineLeft cut left → (branch : Guid) → LineLeft (line_on cut branch) (line_on left branch)
line-left [] [] all branch = record { branch = refl; kept = []; lost = []; undoing = []; splits = refl; quiet = tt; is = refl; rises = tt; undoes = tt }
line-left [] (new ∷ left) all branch = absurd all
line-left (old ∷ cut) [] all branch = absurd all
line-left (old ∷ cut) (new ∷ left) all branch =
    subst (λ t. LineLeft (line_on (old ∷ cut) branch) (cond t new (line_on left branch))) (ap (λ g. is_guid g branch) (sym all.0.branch)) (by (is_guid old.branch branch) (line-left cut left all.1 branch))
  where
    by : (t : Bool) → LineLeft (line_on cut branch) (line_on left branch) → LineLeft (cond t old (line_on cut branch)) (cond t new (line_on left branch))
    by true later = all.0
    by false later = later

pub has-left : (cut left : RecordLines) → AllZip LineLeft cut left → (branch : Guid) → has_record_line left branch ≡ has_record_line cut branch
has-left [] [] all branch = refl
has-left [] (new ∷ left) all branch = absurd all
has-left (old ∷ cut) [] all branch = absurd all
has-left (old ∷ cut) (new ∷ left) all branch =
    ap (λ g. cond (is_guid g branch) true (has_record_line left branch)) all.0.branch ∙ ap (λ t. cond (is_guid old.branch branch) true t) (has-left cut left all.1 branch)

pub once-left : (cut left : RecordLines) → AllZip LineLeft cut left → IsOnce cut → IsOnce left
once-left [] [] all once = tt
once-left [] (new ∷ left) all once = absurd all
once-left (old ∷ cut) [] all once = absurd all
once-left (old ∷ cut) (new ∷ left) all once =
    (ap (has_record_line left) all.0.branch ∙ has-left cut left all.1 old.branch ∙ once.0, once-left cut left all.1 once.1)

-- ---- what is held

module _ (w : World) (cut left : RecordLines) (sound : AllByRecursion (IsSoundLine w) cut) (lines : AllZip LineLeft cut left) where
  -- a number that is passed stays so
  pub passed-left : (b : Option Guid) (k : ℕ) → IsPassed cut b k → IsPassed left b k
  passed-left None k passed = tt
  passed-left (Some g) k passed =
      let line : LineLeft (line_on cut g) (line_on left g) = line-left cut left lines g in
      let OfRecords : List Logged → Type 0 = λ rs. IsReached rs k in
      subst OfRecords (sym line.is) (reached-more line.kept line.undoing k (reached-kept line.kept line.lost k line.quiet (subst OfRecords line.splits passed)))

  -- and has what it had
  pub at-passed : (b : Option Guid) (k : ℕ) → IsPassed cut b k → at_branch (logged_on left) b k ≡ at_branch (logged_on cut) b k
  at-passed None k passed = refl
  at-passed (Some g) k passed =
      let line : LineLeft (line_on cut g) (line_on left g) = line-left cut left lines g in
      let OfRecords : List Logged → Type 0 = λ rs. IsReached rs k in
      let reached : IsReached line.kept k = reached-kept line.kept line.lost k line.quiet (subst OfRecords line.splits passed) in
      ap (filter (λ r. eqb r.lsn k)) line.is
      ∙ at-reached line.kept line.undoing k (subst (RiseFrom 0) line.is line.rises) reached
      ∙ sym (at-reached line.kept line.lost k (subst (RiseFrom 0) line.splits (rise-line w cut g sound)) reached)
      ∙ sym (ap (filter (λ r. eqb r.lsn k)) line.splits)

  pub at-first : (b : Option Guid) → at_branch (logged_on left) b 0 ≡ at_branch (logged_on cut) b 0
  at-first None = refl
  at-first (Some g) = at-zero (line_on left g).records (line-left cut left lines g).rises ∙ sym (at-zero (line_on cut g).records (rise-line w cut g sound))

  -- so a path that is held stays held, and reads as before
  pub held-left : (path : List Branch) (n : ℕ) → IsHeld cut path n → IsHeld left path n
  held-left path n held = λ k pos lt. passed-left (branch_at path k) k (held k pos lt)

  pub reads-left : (path : List Branch) (n : ℕ) → IsHeld cut path n → log_below left path n ≡ log_below cut path n
  unfolding log_below
  reads-left path n held = along-on (logged_on left) (logged_on cut) path n here
    where
      here : (k : ℕ) → k < n → at_branch (logged_on left) (branch_at path k) k ≡ at_branch (logged_on cut) (branch_at path k) k
      here zero lt = at-first (branch_at path 0)
      here (suc k) lt = at-passed (branch_at path (suc k)) (suc k) (held (suc k) (omega arith) lt)
