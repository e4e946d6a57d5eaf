-- A path that has each number once reads what it read, wherever more is said: no branch says anything again.
use Rattle.std.proofs.Common.{◌≡◌, ◌<◌, ◌≤◌, ◌⊎◌, inl, inr, ℕ, zero, suc, ◌+◌, subst, Bool, true, false, cond, List, [], ◌∷◌, ◌++◌, Option, None, Some, refl, sym, ◌∙◌, ap, arith, leb, eqb, filter}
use Rattle.std.specs.List.{AllByRecursion}
use Rattle.std.proofs.lemmas.List.{append-nil}
use Rattle.std.proofs.lemmas.List.Elements.{filter-append}
use Rattle.std.proofs.lemmas.Bool.Decides.{nat_tests}
use Rattle.bk_ids.specs.declared.guid.Guid.{Guid}
use Rattle.bk_ids.specs.declared.path.Branch.{Branch}
use Rattle.bk_ids.specs.Path.{branch_at}
use Rattle.bk_world.specs.History.{is_guid, at_branch, along}
use Rattle.bk_world.specs.ApartLaws.{along-on}
use Rattle.bk_world.specs.SaidLaws.{filter-below, numbered-above, record_on-appended}
use Rattle.bk_world.specs.Records.{Counts, Logged, Said, numbered}
use Rattle.bk_world.specs.Lines.{RecordLine, RecordLines, line_on, log_below, logged_on, longer_line, said_on}

-- what lies at a number among log_below of which each number is there once
pub none_below : (n end k : ℕ) (rs : List Logged) → Counts n rs end → k < n → filter (λ r. eqb r.lsn k) rs ≡ []
none_below n end k [] counts lt = refl
none_below n end k (r ∷ rs) counts lt =
    let other : eqb r.lsn k ≡ false = grind (arith, nat_tests, counts.0) in
    rw other (none_below (n + 1) end k rs counts.1 (omega arith))

-- there is one
abbrev pub HasSome : List Logged → Type 0
HasSome [] = ⊥
HasSome (r ∷ rs) = Unit {0}

pub some_at : (n end k : ℕ) (rs : List Logged) → Counts n rs end → n ≤ k → k < end → HasSome (filter (λ r. eqb r.lsn k) rs)
some_at n end k [] counts le lt = absurd (omega (arith, counts))
some_at n end k (r ∷ rs) counts le lt = by (eqb r.lsn k) refl (some_at (n + 1) end k rs counts.1)
  where
    by : (t : Bool) → eqb r.lsn k ≡ t → (n + 1 ≤ k → k < end → HasSome (filter (λ s. eqb s.lsn k) rs)) → HasSome (cond t (r ∷ filter (λ s. eqb s.lsn k) rs) (filter (λ s. eqb s.lsn k) rs))
    by true is rest = tt
    by false isnt rest = let past : n + 1 ≤ k = grind (arith, nat_tests, isnt, counts.0, le) in rest past lt

-- what lies at a number of a path is what lies at that number along the path
filter_twice : (n k : ℕ) (rs : List Logged) → filter (λ r. eqb r.lsn k) (filter (λ r. eqb r.lsn n) rs) ≡ cond (eqb n k) (filter (λ r. eqb r.lsn n) rs) []
filter_twice n k [] = by (eqb n k)
  where
    by : (t : Bool) → let none : List Logged = [] in none ≡ cond t none none
    by true = refl
    by false = refl
filter_twice n k (r ∷ rs) = by (eqb r.lsn n) refl (eqb r.lsn k) refl (eqb n k) refl (filter_twice n k rs)
  where
    by : (a : Bool) → eqb r.lsn n ≡ a → (b : Bool) → eqb r.lsn k ≡ b → (c : Bool) → eqb n k ≡ c
        → filter (λ s. eqb s.lsn k) (filter (λ s. eqb s.lsn n) rs) ≡ cond (eqb n k) (filter (λ s. eqb s.lsn n) rs) []
        → filter (λ s. eqb s.lsn k) (cond a (r ∷ filter (λ s. eqb s.lsn n) rs) (filter (λ s. eqb s.lsn n) rs)) ≡ cond c (cond a (r ∷ filter (λ s. eqb s.lsn n) rs) (filter (λ s. eqb s.lsn n) rs)) []
    by true p true q true e ih = rw q (ap (λ rest. r ∷ rest) (ih ∙ rw e refl))
    by true p true q false e ih = absurd (grind (arith, nat_tests, p, q, e))
    by true p false q true e ih = absurd (grind (arith, nat_tests, p, q, e))
    by true p false q false e ih = rw q (ih ∙ rw e refl)
    by false p b q true e ih = ih ∙ rw e refl
    by false p b q false e ih = ih ∙ rw e refl

at_filter : (h : RecordLines) (o : Option Guid) (n k : ℕ) → filter (λ r. eqb r.lsn k) (at_branch (logged_on h) o n) ≡ cond (eqb n k) (at_branch (logged_on h) o n) []
at_filter h None n k = by (eqb n k)
  where
    by : (t : Bool) → let none : List Logged = [] in none ≡ cond t none none
    by true = refl
    by false = refl
at_filter h (Some g) n k = filter_twice n k (line_on h g).records

other_number : (n k : ℕ) → n < k → eqb n k ≡ false
other_number n k lt = grind (arith, nat_tests, lt)

along_none : (h : RecordLines) (path : List Branch) (n k : ℕ) → n ≤ k → filter (λ r. eqb r.lsn k) (along (logged_on h) path n) ≡ []
along_none h path zero k le = refl
along_none h path (suc n) k le =
    let other : eqb n k ≡ false = other_number n k (omega arith) in
    filter-append (λ r. eqb r.lsn k) (along (logged_on h) path n) (at_branch (logged_on h) (branch_at path n) n)
    ∙ ap (λ front. front ++ filter (λ r. eqb r.lsn k) (at_branch (logged_on h) (branch_at path n) n)) (along_none h path n k (omega arith))
    ∙ at_filter h (branch_at path n) n k ∙ ap (λ t. cond t (at_branch (logged_on h) (branch_at path n) n) []) other

pub along_at : (h : RecordLines) (path : List Branch) (n k : ℕ) → k < n → filter (λ r. eqb r.lsn k) (along (logged_on h) path n) ≡ at_branch (logged_on h) (branch_at path k) k
along_at h path zero k lt = absurd (omega (arith, lt))
along_at h path (suc n) k lt =
    filter-append (λ r. eqb r.lsn k) (along (logged_on h) path n) (at_branch (logged_on h) (branch_at path n) n)
    ∙ ap (λ back. filter (λ r. eqb r.lsn k) (along (logged_on h) path n) ++ back) (at_filter h (branch_at path n) n k)
    ∙ by (eqb n k) refl (along_at h path n k)
  where
    by : (t : Bool) → eqb n k ≡ t → (k < n → filter (λ r. eqb r.lsn k) (along (logged_on h) path n) ≡ at_branch (logged_on h) (branch_at path k) k)
        → filter (λ r. eqb r.lsn k) (along (logged_on h) path n) ++ cond t (at_branch (logged_on h) (branch_at path n) n) [] ≡ at_branch (logged_on h) (branch_at path k) k
    by true is ih =
        let same : n ≡ k = grind (arith, nat_tests, is) in
        ap (λ front. front ++ at_branch (logged_on h) (branch_at path n) n) (along_none h path n k (omega (arith, same)))
        ∙ ap (λ m. at_branch (logged_on h) (branch_at path m) m) same
    by false isnt ih = append-nil _ ∙ ih (grind (arith, nat_tests, isnt, lt))

pub line_of-other : (h : RecordLines) (b : Guid) (rs : List Logged) (g : Guid) → is_guid b g ≡ false → line_on (said_on h b rs) g ≡ line_on h g
line_of-other [] b rs g other = refl
line_of-other (line ∷ h) b rs g other = by (line_of-other h b rs g other) (is_guid line.branch b) refl
  where
    same_guid : is_guid line.branch b ≡ true → is_guid line.branch g ≡ false
    same_guid is = grind (arith, nat_tests, is, other)

    by : line_on (said_on h b rs) g ≡ line_on h g → (t : Bool) → is_guid line.branch b ≡ t
        → line_on (cond t (longer_line line rs ∷ h) (line ∷ said_on h b rs)) g ≡ cond (is_guid line.branch g) line (line_on h g)
    by later true is = ap (λ t. cond t (longer_line line rs) (line_on h g)) (same_guid is) ∙ sym (ap (λ t. cond t line (line_on h g)) (same_guid is))
    by later false is = elim (is_guid line.branch g) as (λ t. cond t line (line_on (said_on h b rs) g) ≡ cond t line (line_on h g)) [ true ↦ refl | false ↦ later ]

pub guid_is : (a b : Guid) → is_guid a b ≡ true → a ≡ b
guid_is a b is =
    let high : a.high ≡ b.high = grind (arith, nat_tests, is) in
    let low : a.low ≡ b.low = grind (arith, nat_tests, is) in
    λ x. record { high = high x; low = low x }

-- what is said on a branch at its end or above leaves what a whole path reads
module _ (h : RecordLines) (g : Guid) (end : ℕ) (said : List Said) (positive : 0 < end) (below : AllByRecursion (λ r. r.lsn < end) (line_on h g).records)
    (path : List Branch) (n : ℕ) (counts : Counts 1 (log_below h path n) n) where
  -- at the end or above the path isn't on the branch
  never : (k : ℕ) (b : Guid) → end ≤ k → k < n → branch_at path k ≡ Some b → is_guid g b ≡ true → ⊥
  unfolding log_below
  never k b le lt on is =
      let there : HasSome (filter (λ r. eqb r.lsn k) (along (logged_on h) path n)) = some_at 1 n k (along (logged_on h) path n) counts (omega arith) lt in
      let at : filter (λ r. eqb r.lsn k) (along (logged_on h) path n) ≡ [] =
      along_at h path n k lt ∙ ap (λ o. at_branch (logged_on h) o k) (on ∙ ap (λ (x : Guid). Some x) (sym (guid_is g b is))) ∙ filter-below (line_on h g).records end k below le in
      subst HasSome at there

  here : (k : ℕ) → k < n → (k < end) ⊎ (end ≤ k) → (o : Option Guid) → branch_at path k ≡ o → at_branch (logged_on (said_on h g (numbered end said))) o k ≡ at_branch (logged_on h) o k
  here k lt when None on = refl
  here k lt (inl before) (Some b) on = record_on-appended h g (numbered end said) end (numbered-above end said) b k before
  here k lt (inr after) (Some b) on = by (is_guid g b) refl
    where
      by : (t : Bool) → is_guid g b ≡ t → logged_on (said_on h g (numbered end said)) b k ≡ logged_on h b k
      by true is = absurd (never k b after lt on is)
      by false isnt = ap (λ (line : RecordLine). filter (λ r. eqb r.lsn k) line.records) (line_of-other h g (numbered end said) b isnt)

  before_or_not : (k : ℕ) → (k < end) ⊎ (end ≤ k)
  before_or_not k = by (leb end k) refl
    where
      by : (t : Bool) → leb end k ≡ t → (k < end) ⊎ (end ≤ k)
      by true e = inr (grind (arith, nat_tests, e))
      by false e = inl (grind (arith, nat_tests, e))

  pub records-elsewhere : log_below (said_on h g (numbered end said)) path n ≡ log_below h path n
  unfolding log_below
  records-elsewhere = along-on (logged_on (said_on h g (numbered end said))) (logged_on h) path n (λ k lt. here k lt (before_or_not k) (branch_at path k) refl)
