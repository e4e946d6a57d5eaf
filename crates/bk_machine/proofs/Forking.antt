-- Paths that go on from a number on a new branch, and what they read.
use Rattle.std.proofs.Common.{◌≡◌, ◌<◌, ◌≤◌, ℕ, zero, suc, ◌+◌, Bool, true, false, cond, List, [], ◌∷◌, ◌++◌, length, Option, None, Some, refl, sym, ◌∙◌, ap, subst, leb, eqb, filter, arith}
use Rattle.std.specs.List.{AllByRecursion}
use Rattle.std.proofs.lemmas.Bool.{le-leb}
use Rattle.std.proofs.lemmas.Bool.Decides.{nat_tests}
use Rattle.bk_ids.specs.declared.guid.Guid.{Guid}
use Rattle.bk_ids.specs.declared.path.Branch.{Branch}
use Rattle.bk_ids.specs.Laws.{branch_at-not_started, last_branch-one_more}
use Rattle.bk_ids.specs.Path.{IsPath, StartsRiseFrom, branch_at, last_branch, started}
use Rattle.bk_world.specs.History.{is_guid, at_branch, along}
use Rattle.bk_world.specs.Lines.{MayGoOn, RecordLine, RecordLines, has_record_line, line_on, log_below, logged_on, said_on, said_on_last}
use Rattle.bk_lemmas.specs.Lists.{all_filter, all_joined, all_mapped, filter_passed}
use Rattle.bk_world.specs.Records.{Said, more, numbered}
use Rattle.bk_world.specs.ApartLaws.{OfBranch, branch_at-of}
use Rattle.bk_world.specs.SaidLaws.{GoesOn-said, records-said}
use Rattle.bk_world.specs.SameLaws.{is_guid-refl}
use Rattle.bk_machine.specs.Acts.{forked, new_line}
use Rattle.bk_machine.proofs.Histories.{line_on-beside}

-- The path.

-- the branches that start at a number or below
before : ℕ → List Branch → List Branch
before at path = filter (λ (b : Branch). leb b.start at) path

started-before : (at k : ℕ) (path : List Branch) → k < at → started (before at path) k ≡ started path k
unfolding before
started-before at k [] lt = refl
started-before at k (b ∷ path) lt = by (leb b.start at) refl (leb b.start k) refl (started-before at k path lt)
  where
    by : (s : Bool) → leb b.start at ≡ s → (t : Bool) → leb b.start k ≡ t → started (filter (λ (c : Branch). leb c.start at) path) k ≡ started path k
        → started (cond s (b ∷ filter (λ (c : Branch). leb c.start at) path) (filter (λ (c : Branch). leb c.start at) path)) k ≡ cond t (b ∷ started path k) (started path k)
    by true p true q same = rw q (ap (λ (bs : List Branch). b ∷ bs) same)
    by true p false q same = rw q same
    by false p true q same = absurd (grind (arith, nat_tests, p, q, lt))
    by false p false q same = same

-- below the number it is where the old one is
pub branch_at-forked : (path : List Branch) (at : ℕ) (branch : Guid) (k : ℕ) → k < at → branch_at (forked path at branch) k ≡ branch_at path k
unfolding before
branch_at-forked path at branch k lt = branch_at-not_started (before at path) (record { guid = branch; start = at }) k lt ∙ ap last_branch (started-before at k path lt)

pub last-forked : (path : List Branch) (at : ℕ) (branch : Guid) → last_branch (forked path at branch) ≡ Some branch
unfolding before
last-forked path at branch = last_branch-one_more (before at path) (record { guid = branch; start = at })

-- all its branches start at the number or below
pub starts-forked : (path : List Branch) (at : ℕ) (branch : Guid) → AllByRecursion (λ (b : Branch). b.start ≤ at) (forked path at branch)
unfolding before
starts-forked path at branch =
    all_joined (λ (b : Branch). b.start ≤ at) (before at path) ((record { guid = branch; start = at }) ∷ [])
    (all_mapped (λ (b : Branch). leb b.start at ≡ true) (λ (b : Branch). b.start ≤ at) (λ b is. grind (arith, nat_tests, is)) (before at path) (filter_passed (λ (b : Branch). leb b.start at) path))
    (omega arith, tt)

pub all-forked : (P : Guid → Type 0) (path : List Branch) (at : ℕ) (branch : Guid) → AllByRecursion (λ (b : Branch). P b.guid) path → P branch → AllByRecursion (λ (b : Branch). P b.guid) (forked path at branch)
unfolding before
all-forked P path at branch all one =
    all_joined (λ (b : Branch). P b.guid) (before at path) ((record { guid = branch; start = at }) ∷ []) (all_filter (λ (b : Branch). P b.guid) (λ (b : Branch). leb b.start at) path all) (one, tt)

rise-lower : (m n : ℕ) (path : List Branch) → n ≤ m → StartsRiseFrom m path → StartsRiseFrom n path
rise-lower m n [] le rise = tt
rise-lower m n (b ∷ path) le rise = (omega (arith, le, rise.0), rise.1)

rise-forked : (least at : ℕ) (path : List Branch) (branch : Guid) → least ≤ at → StartsRiseFrom least path → StartsRiseFrom least (before at path ++ (record { guid = branch; start = at }) ∷ [])
unfolding before
rise-forked least at [] branch le rise = (le, tt)
rise-forked least at (b ∷ path) branch le rise =
    by (leb b.start at) refl (λ here. rise-forked b.start at path branch here rise.1) (rise-forked least at path branch le (rise-lower b.start least path rise.0 rise.1))
  where
    by : (t : Bool) → leb b.start at ≡ t → (b.start ≤ at → StartsRiseFrom b.start (filter (λ (c : Branch). leb c.start at) path ++ (record { guid = branch; start = at }) ∷ []))
        → StartsRiseFrom least (filter (λ (c : Branch). leb c.start at) path ++ (record { guid = branch; start = at }) ∷ [])
        → StartsRiseFrom least (cond t (b ∷ filter (λ (c : Branch). leb c.start at) path) (filter (λ (c : Branch). leb c.start at) path) ++ (record { guid = branch; start = at }) ∷ [])
    by true is own other = let le2 : b.start ≤ at = grind (arith, nat_tests, is) in (rise.0, own le2)
    by false is own other = other

pub path-forked : (path : List Branch) (at : ℕ) (branch : Guid) → 0 < at → IsPath path → IsPath (forked path at branch)
unfolding before
path-forked [] at branch pos is = absurd is
path-forked (b ∷ path) at branch pos is =
    let yes : leb b.start at ≡ true = le-leb b.start at (omega (arith, is.0, pos)) in
    rw yes (is.0, rise-forked 1 at path branch (omega (arith, pos)) is.1)

-- Its log.

module _ (h : RecordLines) (path : List Branch) (at : ℕ) (branch : Guid) (said : List Said) where
  -- the branch has a line, on which nothing was said
  begun : RecordLines
  begun = new_line branch at [] ∷ h

  here : line_on begun branch ≡ new_line branch at []
  unfolding begun
  here = ap (λ t. cond t (new_line branch at []) (line_on h branch)) (is_guid-refl branch)

  begun-goes_on : MayGoOn begun (forked path at branch) at
  unfolding begun
  begun-goes_on = record {
    branch = branch;
    last = last-forked path at branch;
    there = ap (λ t. cond t true (has_record_line h branch)) (is_guid-refl branch);
    starts = starts-forked path at branch;
    below = subst (λ (line : RecordLine). AllByRecursion (λ r. r.lsn < at) line.records) (sym here) tt;
  }

  begun-said : said_on_last begun (last_branch (forked path at branch)) (numbered at said) ≡ new_line branch at said ∷ h
  unfolding begun
  begun-said =
      ap (λ b. said_on_last (new_line branch at [] ∷ h) b (numbered at said)) (last-forked path at branch)
      ∙ ap (λ t. cond t (new_line branch at said ∷ h) (new_line branch at [] ∷ said_on h branch (numbered at said))) (is_guid-refl branch)

  at_other : (b : Option Guid) (k : ℕ) → OfBranch (λ g. is_guid branch g ≡ false) b → at_branch (logged_on begun) b k ≡ at_branch (logged_on h) b k
  unfolding begun
  at_other None k other = refl
  at_other (Some g) k other = ap (λ (line : RecordLine). filter (λ r. eqb r.lsn k) line.records) (line_on-beside (new_line branch at []) h g other)

  front : AllByRecursion (λ (b : Branch). is_guid branch b.guid ≡ false) path → (n : ℕ) → n ≤ at → along (logged_on begun) (forked path at branch) n ≡ along (logged_on h) path n
  front new zero le = refl
  front new (suc n) le =
      let rest : along (logged_on begun) (forked path at branch) n ≡ along (logged_on h) path n = front new n (omega (arith, le)) in
      let last : at_branch (logged_on begun) (branch_at (forked path at branch) n) n ≡ at_branch (logged_on h) (branch_at path n) n =
      ap (λ b. at_branch (logged_on begun) b n) (branch_at-forked path at branch n (omega (arith, le))) ∙ at_other (branch_at path n) n (branch_at-of (λ g. is_guid branch g ≡ false) path n new) in
      cc

  -- a path that is new on the branch reads what the old one read below the number, and what is said behind it
  pub log-forked : AllByRecursion (λ (b : Branch). is_guid branch b.guid ≡ false) path → log_below (new_line branch at said ∷ h) (forked path at branch) (at + length said) ≡ more (log_below h path at) at said
  unfolding log_below
  log-forked new =
      ap (λ lines. along (logged_on lines) (forked path at branch) (at + length said)) (sym begun-said)
      ∙ records-said begun (forked path at branch) at begun-goes_on said
      ∙ ap (λ rs. rs ++ numbered at said) (front new at (omega arith))

  pub goes_on-forked : MayGoOn (new_line branch at said ∷ h) (forked path at branch) (at + length said)
  goes_on-forked = subst (λ lines. MayGoOn lines (forked path at branch) (at + length said)) begun-said (GoesOn-said begun (forked path at branch) at begun-goes_on said)
