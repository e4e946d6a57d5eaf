-- What is said at the end of a path.
use Rattle.std.proofs.Common.{◌≡◌, ◌<◌, ◌≤◌, ℕ, zero, suc, ◌+◌, subst, Bool, true, false, cond, List, [], ◌∷◌, ◌++◌, length, Some, refl, sym, ◌∙◌, ap, arith, eqb, filter, add-zero, add-suc, append_assoc}
use Rattle.std.specs.List.{AllByRecursion}
use Rattle.std.proofs.lemmas.List.{append-nil}
use Rattle.std.proofs.lemmas.List.Elements.{filter-append}
use Rattle.std.proofs.lemmas.Bool.Decides.{nat_tests}
use Rattle.bk_ids.specs.declared.guid.Guid.{Guid}
use Rattle.bk_ids.specs.declared.path.Branch.{Branch}
use Rattle.bk_ids.specs.Path.{last_branch, branch_at}
use Rattle.bk_world.specs.History.{is_guid, at_branch, along}
use Rattle.bk_world.specs.BranchLaws.{branch_at-last, along-same}
use Rattle.bk_lemmas.specs.Lists.{all_joined, all_mapped}
use Rattle.bk_world.specs.Records.{Logged, Said, numbered}
use Rattle.bk_world.specs.Lines.{MayGoOn, RecordLine, RecordLines, has_record_line, line_on, log_below, logged_on, longer_line, said_on, said_on_last}

pub filter-above : (rs : List Logged) (n k : ℕ) → AllByRecursion (λ r. n ≤ r.lsn) rs → k < n → filter (λ r. eqb r.lsn k) rs ≡ []
filter-above [] n k all lt = refl
filter-above (r ∷ rs) n k all lt =
    let other : eqb r.lsn k ≡ false = grind (arith, nat_tests, all.0) in
    rw other (filter-above rs n k all.1 lt)

pub filter-below : (rs : List Logged) (n k : ℕ) → AllByRecursion (λ r. r.lsn < n) rs → n ≤ k → filter (λ r. eqb r.lsn k) rs ≡ []
filter-below [] n k all le = refl
filter-below (r ∷ rs) n k all le =
    let other : eqb r.lsn k ≡ false = grind (arith, nat_tests, all.0) in
    rw other (filter-below rs n k all.1 le)

-- what is said_on at n or above isn't there below n, on any branch
pub record_on-appended : (h : RecordLines) (b : Guid) (rs : List Logged) (n : ℕ) → AllByRecursion (λ r. n ≤ r.lsn) rs → (g : Guid) (k : ℕ) → k < n → logged_on (said_on h b rs) g k ≡ logged_on h g k
record_on-appended [] b rs n above g k lt = refl
record_on-appended (line ∷ h) b rs n above g k lt = by (record_on-appended h b rs n above g k lt) (is_guid line.branch b)
  where
    here : filter (λ r. eqb r.lsn k) (line.records ++ rs) ≡ filter (λ r. eqb r.lsn k) line.records
    here = filter-append (λ r. eqb r.lsn k) line.records rs ∙ ap (λ rest. filter (λ r. eqb r.lsn k) line.records ++ rest) (filter-above rs n k above lt) ∙ append-nil _

    later : logged_on (said_on h b rs) g k ≡ logged_on h g k → (s : Bool) → filter (λ r. eqb r.lsn k) (cond s line (line_on (said_on h b rs) g)).records ≡ filter (λ r. eqb r.lsn k) (cond s line (line_on h g)).records
    later same true = refl
    later same false = same

    first : (s : Bool) → filter (λ r. eqb r.lsn k) (cond s (longer_line line rs) (line_on h g)).records ≡ filter (λ r. eqb r.lsn k) (cond s line (line_on h g)).records
    first true = here
    first false = refl

    by : logged_on (said_on h b rs) g k ≡ logged_on h g k → (t : Bool) → filter (λ r. eqb r.lsn k) (line_on (cond t (longer_line line rs ∷ h) (line ∷ said_on h b rs)) g).records ≡ filter (λ r. eqb r.lsn k) (cond (is_guid line.branch g) line (line_on h g)).records
    by same true = first (is_guid line.branch g)
    by same false = later same (is_guid line.branch g)

pub line_of-appended : (h : RecordLines) (b : Guid) (rs : List Logged) → has_record_line h b ≡ true → line_on (said_on h b rs) b ≡ longer_line (line_on h b) rs
line_of-appended [] b rs there = cc
line_of-appended (line ∷ h) b rs there = by (line_of-appended h b rs) (is_guid line.branch b) refl there
  where
    by : (has_record_line h b ≡ true → line_on (said_on h b rs) b ≡ longer_line (line_on h b) rs) → (t : Bool) → is_guid line.branch b ≡ t → cond t true (has_record_line h b) ≡ true
        → line_on (cond t (longer_line line rs ∷ h) (line ∷ said_on h b rs)) b ≡ longer_line (cond t line (line_on h b)) rs
    by later true e h1 = ap (λ t. cond t (longer_line line rs) (line_on h b)) e
    by later false e h1 = ap (λ t. cond t line (line_on (said_on h b rs) b)) e ∙ later h1

pub has_line-appended : (h : RecordLines) (b : Guid) (rs : List Logged) (g : Guid) → has_record_line h g ≡ true → has_record_line (said_on h b rs) g ≡ true
has_line-appended [] b rs g there = there
has_line-appended (line ∷ h) b rs g there = by (has_line-appended h b rs g) (is_guid line.branch b)
  where
    later : (has_record_line h g ≡ true → has_record_line (said_on h b rs) g ≡ true) → (s : Bool) → cond s true (has_record_line h g) ≡ true → cond s true (has_record_line (said_on h b rs) g) ≡ true
    later same true h1 = refl
    later same false h1 = same h1

    by : (has_record_line h g ≡ true → has_record_line (said_on h b rs) g ≡ true) → (t : Bool) → has_record_line (cond t (longer_line line rs ∷ h) (line ∷ said_on h b rs)) g ≡ true
    by same true = there
    by same false = later same (is_guid line.branch g) there

pub numbered-above : (n : ℕ) (said : List Said) → AllByRecursion (λ r. n ≤ r.lsn) (numbered n said)
numbered-above n [] = tt
numbered-above n (s ∷ said) = (omega arith, all_mapped (λ r. n + 1 ≤ r.lsn) (λ r. n ≤ r.lsn) (λ r le. omega arith) (numbered (n + 1) said) (numbered-above (n + 1) said))

pub numbered-below : (n : ℕ) (said : List Said) → AllByRecursion (λ r. r.lsn < n + length said) (numbered n said)
numbered-below n [] = tt
numbered-below n (s ∷ said) =
    let on : (n + 1) + length said ≡ n + length (s ∷ said) = omega arith in
    (omega arith, subst (λ m. AllByRecursion (λ r. r.lsn < m) (numbered (n + 1) said)) on (numbered-below (n + 1) said))

-- ---- the log_below at the numbers from n on, one number after the other

from_to : List Logged → ℕ → ℕ → List Logged
from_to rs n zero = []
from_to rs n (suc d) = from_to rs n d ++ filter (λ r. eqb r.lsn (n + d)) rs

from_to-front : (rs : List Logged) (n d : ℕ) → from_to rs n (suc d) ≡ filter (λ r. eqb r.lsn n) rs ++ from_to rs (n + 1) d
unfolding from_to
from_to-front rs n zero = (let same : n + 0 ≡ n = omega arith in ap (λ m. filter (λ r. eqb r.lsn m) rs) same ∙ sym (append-nil _))
from_to-front rs n (suc d) =
    let on : n + suc d ≡ (n + 1) + d = omega arith in
    ap (λ front. front ++ filter (λ r. eqb r.lsn (n + suc d)) rs) (from_to-front rs n d)
    ∙ append_assoc (filter (λ r. eqb r.lsn n) rs) (from_to rs (n + 1) d) (filter (λ r. eqb r.lsn (n + suc d)) rs)
    ∙ ap (λ m. filter (λ r. eqb r.lsn n) rs ++ (from_to rs (n + 1) d ++ filter (λ r. eqb r.lsn m) rs)) on

from_to-behind : (r : Logged) (rs : List Logged) (n d : ℕ) → r.lsn < n → from_to (r ∷ rs) n d ≡ from_to rs n d
unfolding from_to
from_to-behind r rs n zero lt = refl
from_to-behind r rs n (suc d) lt =
    let other : eqb r.lsn (n + d) ≡ false = grind (arith, nat_tests, lt) in
    rw other (ap (λ front. front ++ filter (λ s. eqb s.lsn (n + d)) rs) (from_to-behind r rs n d lt))

from_to-numbered : (n : ℕ) (said : List Said) → from_to (numbered n said) n (length said) ≡ numbered n said
unfolding from_to
from_to-numbered n [] = refl
from_to-numbered n (s ∷ said) =
    let r : Logged = record { lsn = n; begin = s.begin; deed = s.deed } in
    let own : eqb n n ≡ true = grind (arith, nat_tests) in
    let alone : filter (λ x. eqb x.lsn n) (numbered (n + 1) said) ≡ [] = filter-above (numbered (n + 1) said) (n + 1) n (numbered-above (n + 1) said) (omega arith) in
    let first : filter (λ x. eqb x.lsn n) (r ∷ numbered (n + 1) said) ≡ r ∷ [] = rw own (ap (λ rest. r ∷ rest) alone) in
    from_to-front (r ∷ numbered (n + 1) said) n (length said)
    ∙ ap (λ front. front ++ from_to (r ∷ numbered (n + 1) said) (n + 1) (length said)) first
    ∙ ap (λ rest. r ∷ rest) (from_to-behind r (numbered (n + 1) said) (n + 1) (length said) (omega arith) ∙ from_to-numbered (n + 1) said)

-- ---- at the end of a path

module _ (h : RecordLines) (path : List Branch) (end : ℕ) (on : MayGoOn h path end) (said : List Said) where
  new : RecordLines
  new = said_on h on.branch (numbered end said)

  at_end : (k : ℕ) → end ≤ k → at_branch (logged_on new) (branch_at path k) k ≡ filter (λ r. eqb r.lsn k) (numbered end said)
  unfolding new
  at_end k le =
      let last : branch_at path k ≡ Some on.branch = branch_at-last path end k on.starts le ∙ on.last in
      ap (λ b. at_branch (logged_on (said_on h on.branch (numbered end said))) b k) last
      ∙ ap (λ (line : RecordLine). filter (λ r. eqb r.lsn k) line.records) (line_of-appended h on.branch (numbered end said) on.there)
      ∙ filter-append (λ r. eqb r.lsn k) (line_on h on.branch).records (numbered end said)
      ∙ ap (λ front. front ++ filter (λ r. eqb r.lsn k) (numbered end said)) (filter-below (line_on h on.branch).records end k on.below le)

  grown : (d : ℕ) → along (logged_on new) path (end + d) ≡ along (logged_on h) path end ++ from_to (numbered end said) end d
  unfolding new from_to
  grown zero = rw add-zero (along-same (logged_on (said_on h on.branch (numbered end said))) (logged_on h) path end (record_on-appended h on.branch (numbered end said) end (numbered-above end said)) ∙ sym (append-nil _))
  grown (suc d) =
      rw add-suc (ap (λ front. front ++ at_branch (logged_on new) (branch_at path (end + d)) (end + d)) (grown d)
      ∙ ap (λ back. (along (logged_on h) path end ++ from_to (numbered end said) end d) ++ back) (at_end (end + d) (omega arith))
      ∙ append_assoc (along (logged_on h) path end) (from_to (numbered end said) end d) (filter (λ r. eqb r.lsn (end + d)) (numbered end said)))

  -- what is said at the end of a path is what it reads behind what it read
  pub records-said : log_below (said_on_last h (last_branch path) (numbered end said)) path (end + length said) ≡ log_below h path end ++ numbered end said
  unfolding log_below new
  records-said =
      ap (λ b. along (logged_on (said_on_last h b (numbered end said))) path (end + length said)) on.last
      ∙ grown (length said) ∙ ap (λ rest. along (logged_on h) path end ++ rest) (from_to-numbered end said)

  starts-more : (bs : List Branch) (later : ℕ) → end ≤ later → AllByRecursion (λ b. b.start ≤ end) bs → AllByRecursion (λ b. b.start ≤ later) bs
  starts-more bs later le all = all_mapped (λ (b : Branch). b.start ≤ end) (λ (b : Branch). b.start ≤ later) (λ b lt. omega arith) bs all

  pub GoesOn-said : MayGoOn (said_on_last h (last_branch path) (numbered end said)) path (end + length said)
  GoesOn-said = record {
    branch = on.branch;
    last = on.last;
    there = ap (λ b. has_record_line (said_on_last h b (numbered end said)) on.branch) on.last ∙ has_line-appended h on.branch (numbered end said) on.branch on.there;
    starts = starts-more path (end + length said) (omega arith) on.starts;
    below = subst (λ (line : RecordLine). AllByRecursion (λ r. r.lsn < end + length said) line.records)
        (sym (ap (λ b. line_on (said_on_last h b (numbered end said)) on.branch) on.last ∙ line_of-appended h on.branch (numbered end said) on.there))
        (all_joined (λ r. r.lsn < end + length said) (line_on h on.branch).records (numbered end said) (all_mapped (λ r. r.lsn < end) (λ r. r.lsn < end + length said) (λ r lt. omega arith) (line_on h on.branch).records on.below) (numbered-below end said));
  }
