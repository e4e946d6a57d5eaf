-- The branch of a path at a number, as the path grows, and where two paths agree.
use Rattle.std.proofs.Common.{◌≡◌, ◌≢◌, ◌<◌, ◌≤◌, ◌⊎◌, inl, inr, ℕ, zero, suc, ◌+◌, ◌-◌, Bool, true, false, cond, List, [], ◌∷◌, ◌++◌, length, take, get_or, Option, None, Some, refl, sym, ◌∙◌, ap, subst, leb, min, arith}
use Rattle.std.specs.List.{AllByRecursion}
use Rattle.std.proofs.Math.Seq.{take-suc}
use Rattle.std.proofs.lemmas.Bool.{le-leb}
use Rattle.std.proofs.lemmas.Bool.Decides.{nat_tests}
use Rattle.bk_ids.specs.declared.guid.Guid.{Guid}
use Rattle.bk_ids.specs.declared.path.Branch.{Branch}
use Rattle.bk_ids.specs.Path.{started, last_branch, branch_at, Agree, IsPath, FirstDiffer}

pub started-append : (path more : List Branch) (n : ℕ) → started (path ++ more) n ≡ started path n ++ started more n
started-append [] more n = refl
started-append (b ∷ path) more n = by (leb b.start n) (started-append path more n)
  where
    by : (t : Bool) → started (path ++ more) n ≡ started path n ++ started more n → cond t (b ∷ started (path ++ more) n) (started (path ++ more) n) ≡ cond t (b ∷ started path n) (started path n) ++ started more n
    by true same = ap (λ p. b ∷ p) same
    by false same = same

pub last_branch-one_more : (path : List Branch) (b : Branch) → last_branch (path ++ b ∷ []) ≡ Some b.guid
last_branch-one_more [] b = refl
last_branch-one_more (a ∷ []) b = refl
last_branch-one_more (a ∷ next ∷ path) b = last_branch-one_more (next ∷ path) b

-- one branch more is the last where it has started
pub branch_at-started : (path : List Branch) (b : Branch) (n : ℕ) → b.start ≤ n → branch_at (path ++ b ∷ []) n ≡ Some b.guid
branch_at-started path b n le =
    let yes : leb b.start n ≡ true = le-leb b.start n le in
    ap last_branch (started-append path (b ∷ []) n ∙ ap (λ t. started path n ++ cond t (b ∷ []) []) yes) ∙ last_branch-one_more (started path n) b

pub branch_at-not_started : (path : List Branch) (b : Branch) (n : ℕ) → n < b.start → branch_at (path ++ b ∷ []) n ≡ branch_at path n
branch_at-not_started path b n lt =
    let no : leb b.start n ≡ false = grind (arith, nat_tests, lt) in
    ap last_branch (started-append path (b ∷ []) n ∙ ap (λ t. started path n ++ cond t (b ∷ []) []) no ∙ no_more (started path n))
  where
    no_more : (xs : List Branch) → xs ++ [] ≡ xs
    no_more [] = refl
    no_more (x ∷ xs) = ap (λ p. x ∷ p) (no_more xs)

-- a path has a branch at every number from 1 on
pub branch_at-there : (path : List Branch) (n : ℕ) → IsPath path → 0 < n → branch_at path n ≡ None → ⊥
branch_at-there [] n is pos none = is
branch_at-there (b ∷ path) n is pos none =
    let yes : leb b.start n ≡ true = le-leb b.start n (omega (arith, is.0)) in
    some (started path n) b (sym (ap (λ t. last_branch (cond t (b ∷ started path n) (started path n))) yes) ∙ none)
  where
    some : (xs : List Branch) (a : Branch) → last_branch (a ∷ xs) ≡ None → ⊥
    some [] a e = cc
    some (x ∷ xs) a e = some xs x e

-- where no branch starts at a number, the path goes on as it was
started-no_start : (path : List Branch) (n : ℕ) → AllByRecursion (λ b. b.start ≢ suc n) path → started path (suc n) ≡ started path n
started-no_start [] n none = refl
started-no_start (b ∷ path) n none = by (started-no_start path n none.1) (leb b.start (suc n)) (leb b.start n) refl refl
  where
    by : started path (suc n) ≡ started path n → (t s : Bool) → leb b.start (suc n) ≡ t → leb b.start n ≡ s → cond t (b ∷ started path (suc n)) (started path (suc n)) ≡ cond s (b ∷ started path n) (started path n)
    by same true true p q = ap (λ r. b ∷ r) same
    by same false false p q = same
    by same true false p q = absurd (none.0 (grind (arith, nat_tests, p, q)))
    by same false true p q = absurd (grind (arith, nat_tests, p, q))

-- the starts below a number at which two paths were found on one branch
abbrev pub Tried : List Branch → List Branch → List Branch → ℕ → Type 0
Tried path other starts least = AllByRecursion (λ b. 0 < b.start → b.start < least → branch_at path b.start ≡ branch_at other b.start) starts

-- a number is no start, or it was tried
tried_at : (path other starts : List Branch) (least k : ℕ) → Tried path other starts least → 0 < k → k < least → AllByRecursion (λ b. b.start ≢ k) starts ⊎ (branch_at path k ≡ branch_at other k)
tried_at path other [] least k tried pos lt = inl tt
tried_at path other (b ∷ starts) least k tried pos lt = by (equal_or_not b.start k) (tried_at path other starts least k tried.1 pos lt)
  where
    equal_or_not : (a c : ℕ) → (a ≡ c) ⊎ (a ≢ c)
    equal_or_not a c = omega_or (leb a c) (leb c a) refl refl
      where
        omega_or : (t s : Bool) → leb a c ≡ t → leb c a ≡ s → (a ≡ c) ⊎ (a ≢ c)
        omega_or true true p q = inl (grind (arith, nat_tests, p, q))
        omega_or true false p q = inr (λ e. absurd (grind (arith, nat_tests, p, q, e)))
        omega_or false s p q = inr (λ e. absurd (grind (arith, nat_tests, p, e)))

    by : (b.start ≡ k) ⊎ (b.start ≢ k) → AllByRecursion (λ a. a.start ≢ k) starts ⊎ (branch_at path k ≡ branch_at other k) → AllByRecursion (λ a. a.start ≢ k) (b ∷ starts) ⊎ (branch_at path k ≡ branch_at other k)
    by (inl e) rest = inr (subst (λ n. 0 < n → n < least → branch_at path n ≡ branch_at other n) e tried.0 pos lt)
    by (inr ne) (inl none) = inl (ne, none)
    by (inr ne) (inr same) = inr same

-- so two paths agree below a number where they do at 1 and at every start below it
pub agree-tried : (path other : List Branch) (least : ℕ) → (1 < least → branch_at path 1 ≡ branch_at other 1) → Tried path other path least → Tried path other other least
    → (k : ℕ) → 0 < k → k < least → branch_at path k ≡ branch_at other k
agree-tried path other least one mine theirs zero pos lt = absurd (omega arith)
agree-tried path other least one mine theirs (suc zero) pos lt = one lt
agree-tried path other least one mine theirs (suc (suc n)) pos lt =
    by (tried_at path other path least (suc (suc n)) mine (omega arith) lt) (tried_at path other other least (suc (suc n)) theirs (omega arith) lt)
    (agree-tried path other least one mine theirs (suc n) (omega arith) (omega arith))
  where
    by : AllByRecursion (λ b. b.start ≢ suc (suc n)) path ⊎ (branch_at path (suc (suc n)) ≡ branch_at other (suc (suc n)))
        → AllByRecursion (λ b. b.start ≢ suc (suc n)) other ⊎ (branch_at path (suc (suc n)) ≡ branch_at other (suc (suc n)))
        → branch_at path (suc n) ≡ branch_at other (suc n) → branch_at path (suc (suc n)) ≡ branch_at other (suc (suc n))
    by (inr same) _ before = same
    by (inl none) (inr same) before = same
    by (inl none) (inl no_other) before = ap last_branch (started-no_start path (suc n) none) ∙ before ∙ sym (ap last_branch (started-no_start other (suc n) no_other))

-- what was tried below a number was tried below a lower one
pub tried-lower : (path other starts : List Branch) (least lower : ℕ) → lower ≤ least → Tried path other starts least → Tried path other starts lower
tried-lower path other [] least lower le tried = tt
tried-lower path other (b ∷ starts) least lower le tried = (λ pos lt. tried.0 pos (omega (arith, le, lt)), tried-lower path other starts least lower le tried.1)

pub tried-one_more : (path other starts : List Branch) (b : Branch) (least : ℕ) → Tried path other starts least → (0 < b.start → b.start < least → branch_at path b.start ≡ branch_at other b.start) → Tried path other (starts ++ b ∷ []) least
tried-one_more path other [] b least tried here = (here, tt)
tried-one_more path other (a ∷ starts) b least tried here = (tried.0, tried-one_more path other starts b least tried.1 here)

-- what the search for the least number at which two paths differ ends with

-- a number at which they differ, below another
abbrev pub Differs : List Branch → List Branch → ℕ → ℕ → Type 0
Differs path other most k = (0 < k) × (k < most) × (branch_at path k ≢ branch_at other k)

abbrev pub Chosen : List Branch → List Branch → ℕ → ℕ → Type 0
Chosen path other most k = (k ≡ most) ⊎ Differs path other most k

chosen-then : (path other : List Branch) (a b c : ℕ) → Chosen path other b a → Chosen path other c b → b ≤ c → Chosen path other c a
chosen-then path other a b c (inl e) next le = let P : ℕ → Type 0 = Chosen path other c in subst P (sym e) next
chosen-then path other a b c (inr d) next le = inr (d.0, omega (arith, d.1, le), d.2)

differs-of : (path other : List Branch) (end k : ℕ) → Chosen path other end k → k < end → Differs path other end k
differs-of path other end k (inl e) lt = absurd (omega (arith, e, lt))
differs-of path other end k (inr d) lt = d

module _ (path other : List Branch) (x y end at_1 in_path least : ℕ) (is_end : end ≡ min x y)
    (within_1 : at_1 ≤ end) (within_path : in_path ≤ at_1) (within : least ≤ in_path)
    (one : 0 < 1 → 1 < at_1 → branch_at path 1 ≡ branch_at other 1) (mine : Tried path other path in_path) (theirs : Tried path other other least) where
  agrees_below : (k : ℕ) → 0 < k → k < least → branch_at path k ≡ branch_at other k
  agrees_below =
      agree-tried path other least (λ lt. one (omega arith) (omega (arith, lt, within_path, within))) (tried-lower path other path in_path least within mine) theirs

  pub differ-none : end ≤ least → Agree path x other y
  differ-none le k pos lt lt_other = agrees_below k pos (omega (arith, is_end, lt, lt_other, le))

  pub differ-some : Chosen path other end at_1 → Chosen path other at_1 in_path → Chosen path other in_path least → least < end → FirstDiffer path x other y least
  differ-some first second third lt =
      let all : Chosen path other end least = chosen-then path other least in_path end third (chosen-then path other in_path at_1 end second first within_1) (omega (arith, within_path, within_1)) in
      let d : Differs path other end least = differs-of path other end least all lt in
      record {
        positive = d.0;
        below = omega (arith, lt, is_end);
        below_other = omega (arith, lt, is_end);
        differ = d.2;
        agree_before = λ k p l _. agrees_below k p l;
      }
