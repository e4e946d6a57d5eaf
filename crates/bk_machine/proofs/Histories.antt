-- Histories: what paths read and what branches have passed, where more is said at the end of a path, or on a new branch.
use Rattle.std.proofs.Common.{◌≡◌, ◌≢◌, ◌<◌, ◌≤◌, ◌⊎◌, inl, inr, ℕ, zero, suc, ◌+◌, Bool, true, false, cond, List, [], ◌∷◌, ◌++◌, length, Option, None, Some, refl, sym, ◌∙◌, ap, subst, eqb, leb, filter, arith, append_assoc, add-zero, add-suc}
use Rattle.std.specs.List.{AllByRecursion}
use Rattle.std.proofs.lemmas.Bool.Decides.{nat_tests}
use Rattle.std.proofs.lemmas.List.{append-nil}
use Rattle.bk_ids.specs.declared.guid.Guid.{Guid}
use Rattle.bk_ids.specs.declared.path.Branch.{Branch}
use Rattle.bk_ids.specs.Path.{last_branch, branch_at}
use Rattle.bk_world.specs.History.{is_guid, at_branch, along}
use Rattle.bk_world.specs.Lines.{MayGoOn, RecordLine, RecordLines, Grew, LineGrew, has_record_line, line_on, log_below, logged_on, longer_line, said_on, said_on_last}
use Rattle.bk_lemmas.specs.Lists.{all_joined, all_mapped, filter_passed}
use Rattle.bk_world.specs.Records.{Counts, Logged, Said, numbered}
use Rattle.bk_world.specs.ElsewhereLaws.{guid_is, line_of-other}
use Rattle.bk_world.specs.GrowthLaws.{grows-said}
use Rattle.bk_world.specs.SaidLaws.{has_line-appended}
use Rattle.bk_world.specs.SameLaws.{is_guid-refl}
use Rattle.bk_world.specs.CrashLaws.{counts-join, counts-numbered}
use Rattle.bk_machine.proofs.Lost.{reached-more}
use Rattle.bk_machine.specs.Acts.{drawn, new_line}
use Rattle.bk_machine.specs.Sound.{IsHeld, IsNotToCome, IsOnce, IsPassed, IsReached, IsSoundLine, RiseFrom}
use Rattle.bk_machine.specs.World.{World}

-- a number lies below another, or at it or above
pub before-or-not : (k n : ℕ) → (k < n) ⊎ (n ≤ k)
before-or-not k n = by (leb n k) refl
  where
    by : (t : Bool) → leb n k ≡ t → (k < n) ⊎ (n ≤ k)
    by true e = inr (grind (arith, nat_tests, e))
    by false e = inl (grind (arith, nat_tests, e))

-- ---- GUIDs

-- a GUID isn't to come later, either
pub not_to_come-later : (old new : World) (g : Guid) → new.instance ≡ old.instance → old.counter ≤ new.counter → IsNotToCome old g → IsNotToCome new g
not_to_come-later old new g same le is = λ high. omega (arith, is (high ∙ same), le)

pub path-later : (old new : World) (path : List Branch) → new.instance ≡ old.instance → old.counter ≤ new.counter
    → AllByRecursion (λ (b : Branch). IsNotToCome old b.guid) path → AllByRecursion (λ (b : Branch). IsNotToCome new b.guid) path
path-later old new path same le all = all_mapped (λ (b : Branch). IsNotToCome old b.guid) (λ (b : Branch). IsNotToCome new b.guid) (λ b is. not_to_come-later old new b.guid same le is) path all

-- one that is drawn is new
pub drawn-new : (w : World) (n : ℕ) (g : Guid) → w.counter ≤ n → IsNotToCome w g → is_guid (drawn w n) g ≡ false
drawn-new w n g le old = by (eqb w.instance g.high) (eqb n g.low) refl refl
  where
    by : (s t : Bool) → eqb w.instance g.high ≡ s → eqb n g.low ≡ t → is_guid (drawn w n) g ≡ false
    by true true p q =
        let high : g.high ≡ w.instance = grind (arith, nat_tests, p) in
        let low : n ≡ g.low = grind (arith, nat_tests, q) in
        absurd (omega (arith, old high, low, le))
    by true false p q = rw (p, q) refl
    by false t p q = rw p refl

pub is_guid-sym : (a b : Guid) → is_guid a b ≡ is_guid b a
is_guid-sym a b = by (is_guid a b) (is_guid b a) refl refl
  where
    by : (s t : Bool) → is_guid a b ≡ s → is_guid b a ≡ t → s ≡ t
    by true true p q = refl
    by true false p q = absurd (grind (arith, nat_tests, p, q))
    by false true p q = absurd (grind (arith, nat_tests, p, q))
    by false false p q = refl

pub guid-differs : (a b : Guid) → a ≢ b → is_guid a b ≡ false
guid-differs a b differ = by (is_guid a b) refl
  where
    by : (t : Bool) → is_guid a b ≡ t → t ≡ false
    by true is = absurd (differ (guid_is a b is))
    by false is = refl

pub path-new : (w : World) (n : ℕ) (path : List Branch) → w.counter ≤ n → AllByRecursion (λ (b : Branch). IsNotToCome w b.guid) path → AllByRecursion (λ (b : Branch). is_guid (drawn w n) b.guid ≡ false) path
path-new w n path le all = all_mapped (λ (b : Branch). IsNotToCome w b.guid) (λ (b : Branch). is_guid (drawn w n) b.guid ≡ false) (λ b is. drawn-new w n b.guid le is) path all

-- ---- lines

pub line_on-none : (h : RecordLines) (g : Guid) → has_record_line h g ≡ false → line_on h g ≡ record { branch = g; records = [] }
line_on-none [] g none = refl
line_on-none (line ∷ h) g none = by (is_guid line.branch g) none (line_on-none h g)
  where
    by : (t : Bool) → cond t true (has_record_line h g) ≡ false → (has_record_line h g ≡ false → line_on h g ≡ record { branch = g; records = [] }) → cond t line (line_on h g) ≡ record { branch = g; records = [] }
    by true e later = absurd cc
    by false e later = later e

pub line_on-beside : (line : RecordLine) (h : RecordLines) (g : Guid) → is_guid line.branch g ≡ false → line_on (line ∷ h) g ≡ line_on h g
line_on-beside line h g other = ap (λ t. cond t line (line_on h g)) other

-- each line, where more is said on one
pub lines-said : (P Q : RecordLine → Type 0) (h : RecordLines) (g : Guid) (more : List Logged) → ((line : RecordLine) → P line → Q line) → (P (line_on h g) → Q (longer_line (line_on h g) more))
    → AllByRecursion P h → AllByRecursion Q (said_on h g more)
lines-said P Q [] g more leads here all = tt
lines-said P Q (line ∷ h) g more leads here all = by (λ next. lines-said P Q h g more leads next all.1) (is_guid line.branch g) here
  where
    by : ((P (line_on h g) → Q (longer_line (line_on h g) more)) → AllByRecursion Q (said_on h g more)) → (t : Bool) → (P (cond t line (line_on h g)) → Q (longer_line (cond t line (line_on h g)) more))
        → AllByRecursion Q (cond t (longer_line line more ∷ h) (line ∷ said_on h g more))
    by later true one = (one all.0, all_mapped P Q leads h all.1)
    by later false one = (leads line all.0, later one)

has_line-said : (h : RecordLines) (b : Guid) (more : List Logged) (g : Guid) → has_record_line (said_on h b more) g ≡ has_record_line h g
has_line-said [] b more g = refl
has_line-said (line ∷ h) b more g = by (has_line-said h b more g) (is_guid line.branch b)
  where
    by : has_record_line (said_on h b more) g ≡ has_record_line h g → (t : Bool) → has_record_line (cond t (longer_line line more ∷ h) (line ∷ said_on h b more)) g ≡ has_record_line (line ∷ h) g
    by same true = refl
    by same false = ap (λ r. cond (is_guid line.branch g) true r) same

pub once-said : (h : RecordLines) (b : Guid) (more : List Logged) → IsOnce h → IsOnce (said_on h b more)
once-said [] b more once = tt
once-said (line ∷ h) b more once = by (once-said h b more once.1) (is_guid line.branch b)
  where
    by : IsOnce (said_on h b more) → (t : Bool) → IsOnce (cond t (longer_line line more ∷ h) (line ∷ said_on h b more))
    by later true = (once.0, once.1)
    by later false = (has_line-said h b more line.branch ∙ once.0, later)

-- a branch that is drawn has no line yet
pub none-drawn : (w : World) (n : ℕ) (h : RecordLines) → w.counter ≤ n → AllByRecursion (IsSoundLine w) h → has_record_line h (drawn w n) ≡ false
none-drawn w n [] le all = refl
none-drawn w n (line ∷ h) le all =
    ap (λ t. cond t true (has_record_line h (drawn w n))) (is_guid-sym line.branch (drawn w n) ∙ drawn-new w n line.branch le all.0.drawn) ∙ none-drawn w n h le all.1

-- records that rise

pub rise-numbered : (n from : ℕ) (said : List Said) → n < from → RiseFrom n (numbered from said)
rise-numbered n from [] lt = tt
rise-numbered n from (s ∷ said) lt = (lt, rise-numbered from (from + 1) said (omega arith))

pub rise-said : (n end : ℕ) (rs : List Logged) (said : List Said) → n < end → AllByRecursion (λ r. r.lsn < end) rs → RiseFrom n rs → RiseFrom n (rs ++ numbered end said)
rise-said n end [] said lt below rise = rise-numbered n end said lt
rise-said n end (r ∷ rs) said lt below rise = (rise.0, rise-said r.lsn end rs said below.0 below.1 rise.1)

pub above-numbered : (n from : ℕ) (said : List Said) → n ≤ from → AllByRecursion (λ r. n ≤ r.lsn) (numbered from said)
above-numbered n from [] le = tt
above-numbered n from (s ∷ said) le = (le, above-numbered n (from + 1) said (omega (arith, le)))

-- ---- growth

none_above : (rs : List Logged) → AllByRecursion (λ (r : Logged). AllByRecursion (λ (m : Logged). r.lsn < m.lsn) []) rs
none_above [] = tt
none_above (r ∷ rs) = (tt, none_above rs)

line-same : (line other : RecordLine) → other ≡ line → LineGrew line other
line-same line other same = record { more = []; is = ap (λ (l : RecordLine). l.records) same ∙ sym (append-nil line.records); above = none_above line.records; positive = tt }

pub grew-same : (h : RecordLines) → Grew h h
grew-same h g = line-same (line_on h g) (line_on h g) refl

-- a branch comes that has no line
pub grew-new : (h : RecordLines) (branch : Guid) (at : ℕ) (said : List Said) → 0 < at → has_record_line h branch ≡ false → Grew h (new_line branch at said ∷ h)
grew-new h branch at said pos none g = by (is_guid branch g) refl
  where
    empty : (line : RecordLine) → line ≡ record { branch = branch; records = [] } → LineGrew line (new_line branch at said)
    empty line is =
        let nothing : line.records ≡ [] = ap (λ (l : RecordLine). l.records) is in record {
          more = numbered at said;
          is = sym (ap (λ rs. rs ++ numbered at said) nothing);
          above = subst (λ rs. AllByRecursion (λ (r : Logged). AllByRecursion (λ (m : Logged). r.lsn < m.lsn) (numbered at said)) rs) (sym nothing) tt;
          positive = all_mapped (λ (m : Logged). at ≤ m.lsn) (λ (m : Logged). 0 < m.lsn) (λ m le. omega (arith, le, pos)) (numbered at said) (above-numbered at at said (omega arith));
        }

    by : (t : Bool) → is_guid branch g ≡ t → LineGrew (line_on h g) (cond t (new_line branch at said) (line_on h g))
    by true is = empty (line_on h g) (ap (line_on h) (sym (guid_is branch g is)) ∙ line_on-none h branch none)
    by false is = line-same (line_on h g) (line_on h g) refl

-- more is said at the end of a path
pub grew-said : (h : RecordLines) (path : List Branch) (end : ℕ) (on : MayGoOn h path end) (said : List Said) → 0 < end → Grew h (said_on_last h (last_branch path) (numbered end said))
grew-said h path end on said pos = subst (λ b. Grew h (said_on_last h b (numbered end said))) (sym on.last) (grows-said h on.branch end said on.there pos on.below)

-- what is passed stays passed
pub passed-grew : (old new : RecordLines) (b : Option Guid) (n : ℕ) → Grew old new → IsPassed old b n → IsPassed new b n
passed-grew old new None n grew is = tt
passed-grew old new (Some g) n grew is = subst (λ rs. IsReached rs n) (sym (grew g).is) (reached-more (line_on old g).records (grew g).more n is)

pub held-grew : (old new : RecordLines) (path : List Branch) (n : ℕ) → Grew old new → IsHeld old path n → IsHeld new path n
held-grew old new path n grew is = λ k pos lt. passed-grew old new (branch_at path k) k grew (is k pos lt)

-- ---- paths that go on

-- where the line of its last branch stays
pub goes_on-there : (old new : RecordLines) (path : List Branch) (end : ℕ) (on : MayGoOn old path end) → has_record_line new on.branch ≡ true → line_on new on.branch ≡ line_on old on.branch → MayGoOn new path end
goes_on-there old new path end on there same = record {
  branch = on.branch;
  last = on.last;
  there = there;
  starts = on.starts;
  below = subst (λ (line : RecordLine). AllByRecursion (λ r. r.lsn < end) line.records) (sym same) on.below;
}

-- where more is said on another branch
pub goes_on-elsewhere : (h : RecordLines) (path : List Branch) (end : ℕ) (b : Option Guid) (more : List Logged) → last_branch path ≢ b → MayGoOn h path end → MayGoOn (said_on_last h b more) path end
goes_on-elsewhere h path end None more apart on = on
goes_on-elsewhere h path end (Some b) more apart on =
    let other : is_guid b on.branch ≡ false = guid-differs b on.branch (λ same. apart (on.last ∙ ap (λ (g : Guid). Some g) (sym same))) in
    goes_on-there h (said_on h b more) path end on (has_line-appended h b more on.branch on.there) (line_of-other h b more on.branch other)

-- where another branch is new
pub goes_on-beside : (line : RecordLine) (h : RecordLines) (path : List Branch) (end : ℕ) → last_branch path ≢ Some line.branch → MayGoOn h path end → MayGoOn (line ∷ h) path end
goes_on-beside line h path end apart on =
    let other : is_guid line.branch on.branch ≡ false = guid-differs line.branch on.branch (λ same. apart (on.last ∙ ap (λ (g : Guid). Some g) (sym same))) in
    goes_on-there h (line ∷ h) path end on (elim (is_guid line.branch on.branch) as (λ t. cond t true (has_record_line h on.branch) ≡ true) [ true ↦ refl | false ↦ on.there ]) (line_on-beside line h on.branch other)

-- a path is never on a branch that is new to it
pub not-last : (branch : Guid) (path : List Branch) → AllByRecursion (λ (b : Branch). is_guid branch b.guid ≡ false) path → last_branch path ≢ Some branch
not-last branch [] all same = absurd cc
not-last branch (b ∷ []) all same = let one : b.guid ≡ branch = cc in let yes : is_guid branch branch ≡ true = is_guid-refl branch in cc
not-last branch (b ∷ next ∷ path) all same = not-last branch (next ∷ path) all.1 same

-- ---- counts

pub counts-more : (rs : List Logged) (end : ℕ) (said : List Said) → Counts 1 rs end → Counts 1 (rs ++ numbered end said) (end + length said)
counts-more rs end said counts = counts-join 1 end (end + length said) rs (numbered end said) counts (counts-numbered end said)

-- a log that has each number once ends at 1 or above
pub counts-positive : (n end : ℕ) (rs : List Logged) → Counts n rs end → n ≤ end
counts-positive n end [] counts = omega (arith, counts)
counts-positive n end (r ∷ rs) counts = let later : n + 1 ≤ end = counts-positive (n + 1) end rs counts.1 in omega (arith, later)

-- without what lies at its last number it ends there
counts-without : (m n : ℕ) (a b : List Logged) → AllByRecursion (λ r. r.lsn < n) a → AllByRecursion (λ r. r.lsn ≡ n) b → m ≤ n → Counts m (a ++ b) (suc n) → Counts m a n
counts-without m n [] [] below at le counts = absurd (omega (arith, counts, le))
counts-without m n [] (r ∷ b) below at le counts = sym counts.0 ∙ at.0
counts-without m n (r ∷ a) b below at le counts = (counts.0, counts-without (m + 1) n a b below.1 at (omega (arith, below.0, counts.0)) counts.1)

at-number : (rs : List Logged) (n : ℕ) → AllByRecursion (λ r. r.lsn ≡ n) (filter (λ r. eqb r.lsn n) rs)
at-number rs n = all_mapped (λ (r : Logged). eqb r.lsn n ≡ true) (λ (r : Logged). r.lsn ≡ n) (λ r is. grind (arith, nat_tests, is)) (filter (λ r. eqb r.lsn n) rs) (filter_passed (λ r. eqb r.lsn n) rs)

at-branch : (h : RecordLines) (b : Option Guid) (n : ℕ) → AllByRecursion (λ r. r.lsn ≡ n) (at_branch (logged_on h) b n)
at-branch h None n = tt
at-branch h (Some g) n = at-number (line_on h g).records n

-- what lies along a path below a number
along-below : (h : RecordLines) (path : List Branch) (n : ℕ) → AllByRecursion (λ r. r.lsn < n) (along (logged_on h) path n)
along-below h path zero = tt
along-below h path (suc n) =
    all_joined (λ (r : Logged). r.lsn < suc n) (along (logged_on h) path n) (at_branch (logged_on h) (branch_at path n) n)
    (all_mapped (λ (r : Logged). r.lsn < n) (λ (r : Logged). r.lsn < suc n) (λ r lt. omega (arith, lt)) (along (logged_on h) path n) (along-below h path n))
    (all_mapped (λ (r : Logged). r.lsn ≡ n) (λ (r : Logged). r.lsn < suc n) (λ r is. omega (arith, is)) (at_branch (logged_on h) (branch_at path n) n) (at-branch h (branch_at path n) n))

-- a log is a front of each later one, and has each number once where that does
pub log-front : (h : RecordLines) (path : List Branch) (n d : ℕ) → (rest : List Logged) × (log_below h path (n + d) ≡ log_below h path n ++ rest)
unfolding log_below
log-front h path n zero = ([], ap (along (logged_on h) path) (add-zero n) ∙ sym (append-nil _))
log-front h path n (suc d) =
    let before = log-front h path n d in
    let last : List Logged = at_branch (logged_on h) (branch_at path (n + d)) (n + d) in
    (before.0 ++ last, ap (along (logged_on h) path) (add-suc n d) ∙ ap (λ rs. rs ++ last) before.1 ∙ append_assoc (along (logged_on h) path n) before.0 last)

pub counts-front : (h : RecordLines) (path : List Branch) (n d : ℕ) → 0 < n → Counts 1 (log_below h path (n + d)) (n + d) → Counts 1 (log_below h path n) n
unfolding log_below
counts-front h path n zero pos counts = subst (λ m. Counts 1 (along (logged_on h) path m) m) (add-zero n) counts
counts-front h path n (suc d) pos counts =
    counts-front h path n d pos
    (counts-without 1 (n + d) (along (logged_on h) path (n + d)) (at_branch (logged_on h) (branch_at path (n + d)) (n + d)) (along-below h path (n + d)) (at-branch h (branch_at path (n + d)) (n + d)) (omega (arith, pos))
    (subst (λ m. Counts 1 (along (logged_on h) path m) m) (add-suc n d) counts))
