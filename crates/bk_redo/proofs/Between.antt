-- Records between two numbers.
use Rattle.std.proofs.Common.{◌≡◌, ◌≤◌, ◌<◌, ℕ, ◌+◌, Bool, true, false, ◌&&◌, cond, List, [], ◌∷◌, ◌++◌, refl, sym, ◌∙◌, ap, ap₂, ⊎_elim, arith}
use Rattle.std.specs.Prelude.{nat_lt, nat_le, max}
use Rattle.std.specs.List.{AllByRecursion}
use Rattle.std.proofs.lemmas.Bool.{ltb-true, leb-true, lt-ltb, le-ltb, le-leb, lt-leb, cases_lt, and_parts, and_from, and_left, and_right, cond-true, cond-false, cond_both}
use Rattle.bk_ids.specs.declared.record.Rec.{Rec}
use Rattle.bk_redo.specs.Redo.{RiseFrom, is_between, records_between}

between_in : (from to : ℕ) (r : Rec) → from ≤ r.lsn → r.lsn < to → is_between from to r ≡ true
between_in from to r low high = and_from (nat_le from r.lsn) (nat_lt r.lsn to) (le-leb from r.lsn low) (lt-ltb r.lsn to high)

between_early : (from to : ℕ) (r : Rec) → r.lsn < from → is_between from to r ≡ false
between_early from to r early = and_left (nat_le from r.lsn) (nat_lt r.lsn to) (lt-leb from r.lsn early)

between_late : (from to : ℕ) (r : Rec) → to ≤ r.lsn → is_between from to r ≡ false
between_late from to r late = and_right (nat_le from r.lsn) (nat_lt r.lsn to) (le-ltb r.lsn to late)

pub in_between : (from to : ℕ) (r : Rec) → is_between from to r ≡ true → (from ≤ r.lsn) × (r.lsn < to)
in_between from to r h =
    let parts = and_parts (nat_le from r.lsn) (nat_lt r.lsn to) h in
    (leb-true from r.lsn parts.0, ltb-true r.lsn to parts.1)

-- what a test lets through, one record on

pub kept : (from to : ℕ) (r : Rec) (records : List Rec) → from ≤ r.lsn → r.lsn < to → records_between from to (r ∷ records) ≡ r ∷ records_between from to records
kept from to r records low high = cond-true (is_between from to r) (r ∷ records_between from to records) (records_between from to records) (between_in from to r low high)

pub skipped_early : (from to : ℕ) (r : Rec) (records : List Rec) → r.lsn < from → records_between from to (r ∷ records) ≡ records_between from to records
skipped_early from to r records early = cond-false (is_between from to r) (r ∷ records_between from to records) (records_between from to records) (between_early from to r early)

pub skipped_late : (from to : ℕ) (r : Rec) (records : List Rec) → to ≤ r.lsn → records_between from to (r ∷ records) ≡ records_between from to records
skipped_late from to r records late = cond-false (is_between from to r) (r ∷ records_between from to records) (records_between from to records) (between_late from to r late)

-- nothing lies between two numbers of which the second isn't above the first
pub between_none : (from to : ℕ) (records : List Rec) → to ≤ from → records_between from to records ≡ []
between_none from to [] none = refl
between_none from to (r ∷ records) none = ⊎_elim
    (λ (early : r.lsn < from). skipped_early from to r records early ∙ between_none from to records none)
    (λ (late : from ≤ r.lsn). skipped_late from to r records (omega arith) ∙ between_none from to records none)
    (cases_lt r.lsn from)

-- nothing lies below the number from which on all lie
before_none : (from to least : ℕ) (records : List Rec) → RiseFrom least records → to ≤ least → records_between from to records ≡ []
before_none from to least [] rises none = refl
before_none from to least (r ∷ records) rises none =
    skipped_late from to r records (omega (arith, rises.0)) ∙ before_none from to (r.lsn + 1) records rises.1 (omega (arith, rises.0))

-- it is all one from which number below all of them they are taken
same_start : (from other to least : ℕ) (records : List Rec) → RiseFrom least records → from ≤ least → other ≤ least → records_between from to records ≡ records_between other to records
same_start from other to least [] rises low also = refl
same_start from other to least (r ∷ records) rises low also =
    let first : nat_le from r.lsn ≡ nat_le other r.lsn = le-leb from r.lsn (omega (arith, rises.0)) ∙ sym (le-leb other r.lsn (omega (arith, rises.0))) in
    let test : is_between from to r ≡ is_between other to r = ap (λ (b : Bool). b && nat_lt r.lsn to) first in
    let rest : records_between from to records ≡ records_between other to records = same_start from other to (r.lsn + 1) records rises.1 (omega (arith, rises.0)) (omega (arith, rises.0)) in
    ap₂ (λ (b : Bool) (rs : List Rec). cond b (r ∷ rs) rs) test rest

-- records up to a number between, and from it on
pub between_split : (from mid to least : ℕ) (records : List Rec) → RiseFrom least records → from ≤ mid → mid ≤ to
    → records_between from to records ≡ records_between from mid records ++ records_between mid to records
between_split from mid to least [] rises low high = refl
between_split from mid to least (r ∷ records) rises low high = ⊎_elim
    (λ (early : r.lsn < mid).
    let rest = between_split from mid to (r.lsn + 1) records rises.1 low high in
    let back = sym (skipped_early mid to r records early) in
    ⊎_elim
    (λ (before : r.lsn < from). skipped_early from to r records before ∙ rest ∙ ap₂ (λ (a b : List Rec). a ++ b) (sym (skipped_early from mid r records before)) back)
    (λ (since : from ≤ r.lsn). kept from to r records since (omega arith) ∙ ap (λ (rs : List Rec). r ∷ rs) rest ∙ ap₂ (λ (a b : List Rec). a ++ b) (sym (kept from mid r records since early)) back)
    (cases_lt r.lsn from))
    (λ (late : mid ≤ r.lsn).
    let all : RiseFrom r.lsn (r ∷ records) = (omega arith, rises.1) in
    same_start from mid to r.lsn (r ∷ records) all (omega arith) late
    ∙ ap (λ (rs : List Rec). rs ++ records_between mid to (r ∷ records)) (sym (before_none from mid r.lsn (r ∷ records) all late)))
    (cases_lt r.lsn mid)

-- ---- they still rise

rises_from_less : (least lower : ℕ) (records : List Rec) → RiseFrom least records → lower ≤ least → RiseFrom lower records
rises_from_less least lower [] rises low = tt
rises_from_less least lower (r ∷ records) rises low = (omega (arith, rises.0), rises.1)

rises_kept : (least from to : ℕ) (records : List Rec) → RiseFrom least records → RiseFrom least (records_between from to records)
rises_kept least from to [] rises = tt
rises_kept least from to (r ∷ records) rises =
    let rest = rises_kept (r.lsn + 1) from to records rises.1 in
    cond_both (is_between from to r) (r ∷ records_between from to records) (records_between from to records) (RiseFrom least)
    (λ _. (rises.0, rest))
    (λ _. rises_from_less (r.lsn + 1) least (records_between from to records) rest (omega (arith, rises.0)))

pub rises_between : (least n from to : ℕ) (records : List Rec) → RiseFrom least records → n ≤ max least from → RiseFrom n (records_between from to records)
rises_between least n from to [] rises low = tt
rises_between least n from to (r ∷ records) rises low =
    cond_both (is_between from to r) (r ∷ records_between from to records) (records_between from to records) (RiseFrom n)
    (λ test. let range = in_between from to r test in (omega (arith, rises.0, range.0), rises_kept (r.lsn + 1) from to records rises.1))
    (λ _. rises_between (r.lsn + 1) n from to records rises.1 (omega (arith, rises.0)))

-- what holds of each number in the range holds of each of them
pub all_between : (P : Rec → Type 0) (from to : ℕ) (records : List Rec) → ((r : Rec) → from ≤ r.lsn → r.lsn < to → P r) → AllByRecursion P (records_between from to records)
all_between P from to [] each = tt
all_between P from to (r ∷ records) each =
    cond_both (is_between from to r) (r ∷ records_between from to records) (records_between from to records) (AllByRecursion P)
    (λ test. let range = in_between from to r test in (each r range.0 range.1, all_between P from to records each))
    (λ _. all_between P from to records each)
