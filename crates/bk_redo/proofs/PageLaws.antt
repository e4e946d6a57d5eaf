-- Pages as of a number, and what redo makes of them.
use Rattle.std.proofs.Common.{◌≡◌, ◌≤◌, ◌<◌, ℕ, ◌+◌, Bool, true, false, not, ◌&&◌, List, [], ◌∷◌, ◌++◌, fold, refl, sym, ◌∙◌, ap, subst, ◌⊎◌, inl, inr, ⊎_elim, arith}
use Rattle.std.specs.Prelude.{nat_lt, max}
use Rattle.std.specs.List.{AllByRecursion, list_any}
use Rattle.std.proofs.lemmas.Bool.{lt-ltb, le-ltb, cases_lt, cases_Bool, and_from, and_left, or_parts, or_from, not_from_false, cond-true, cond-false, cond_both}
use Rattle.std.proofs.lemmas.List.Sums.{fold-append}
use Rattle.std.proofs.lemmas.List.Folds.{list_any-append}
use Rattle.bk_ids.specs.declared.record.Rec.{Rec}
use Rattle.bk_redo.specs.declared.place.PageAt.{PageAt}
use Rattle.bk_redo.specs.PageStates.{PageState, fresh}
use Rattle.bk_redo.specs.Effects.{effect_of, cells_after, touches, fills, changed}
use Rattle.bk_redo.specs.Redo.{RiseFrom, records_between, as_of, redone, redone_by, Leads}
use Rattle.bk_redo.proofs.Between.{between_none, between_split, rises_between, all_between}

-- what holds of a page and of the page with a record's number holds of the page after the record
after_record : (at : PageAt) (page : PageState) (r : Rec) (P : ℕ → Type 0) → P r.lsn → P page.lsn → P (changed at page r).lsn
after_record at page r P touched same =
    cond_both (touches at r) (record { lsn = r.lsn; cells = cells_after at (effect_of r.body) page.cells }) page (λ (p : PageState). P p.lsn) (λ _. touched) (λ _. same)

-- ---- the number of a page

lsn_below : (at : PageAt) (m : ℕ) (page : PageState) (records : List Rec) → page.lsn < m → AllByRecursion (λ (r : Rec). r.lsn < m) records → (fold (changed at) page records).lsn < m
lsn_below at m page [] low all = low
lsn_below at m page (r ∷ records) low all = lsn_below at m (changed at page r) records (after_record at page r (λ n. n < m) all.0 low) all.1

fresh-lsn : fresh.lsn ≡ 0
unfolding fresh
fresh-lsn = refl

-- the page as of c has a number below c, or 0
pub as_of-lsn : (at : PageAt) (c m : ℕ) (records : List Rec) → c ≤ m → 1 ≤ m → (as_of at c records).lsn < m
as_of-lsn at c m records below some =
    lsn_below at m fresh (records_between 0 c records) (omega (arith, fresh-lsn)) (all_between (λ (r : Rec). r.lsn < m) 0 c records (λ r low high. omega arith))

lsn_rises : (at : PageAt) (least : ℕ) (page : PageState) (records : List Rec) → RiseFrom least records → page.lsn ≤ least → page.lsn ≤ (fold (changed at) page records).lsn
lsn_rises at least page [] rises low = omega arith
lsn_rises at least page (r ∷ records) rises low =
    let more : page.lsn ≤ (changed at page r).lsn = after_record at page r (λ n. page.lsn ≤ n) (omega (arith, rises.0)) (omega arith) in
    let next : (changed at page r).lsn ≤ r.lsn + 1 = after_record at page r (λ n. n ≤ r.lsn + 1) (omega arith) (omega (arith, rises.0)) in
    let rest : (changed at page r).lsn ≤ (fold (changed at) (changed at page r) records).lsn = lsn_rises at (r.lsn + 1) (changed at page r) records rises.1 next in
    omega arith

-- ---- records that redo passes over

-- the record isn't on the page, or no later than it
abbrev pub IsPast : PageAt → PageState → Rec → Type 0
IsPast at page r = (touches at r ≡ false) ⊎ (r.lsn ≤ page.lsn)

-- the records that made a page
made_past : (at : PageAt) (least : ℕ) (page : PageState) (records : List Rec) → RiseFrom least records → page.lsn ≤ least → AllByRecursion (IsPast at (fold (changed at) page records)) records
made_past at least page [] rises low = tt
made_past at least page (r ∷ records) rises low =
    let next : (changed at page r).lsn ≤ r.lsn + 1 = after_record at page r (λ n. n ≤ r.lsn + 1) (omega arith) (omega (arith, rises.0)) in
    let later : (changed at page r).lsn ≤ (fold (changed at) (changed at page r) records).lsn = lsn_rises at (r.lsn + 1) (changed at page r) records rises.1 next in
    let first : IsPast at (fold (changed at) (changed at page r) records) r = ⊎_elim
    (λ (yes : touches at r ≡ true).
    let number : (changed at page r).lsn ≡ r.lsn = ap (λ (p : PageState). p.lsn) (cond-true (touches at r) (record { lsn = r.lsn; cells = cells_after at (effect_of r.body) page.cells }) page yes) in
    let over : r.lsn ≤ (fold (changed at) (changed at page r) records).lsn = omega (arith, number, later) in
    inr over)
    (λ (no : touches at r ≡ false). inl no)
    (cases_Bool (touches at r)) in
    (first, made_past at (r.lsn + 1) (changed at page r) records rises.1 next)

pub untouched_same : (at : PageAt) (page : PageState) (r : Rec) → touches at r ≡ false → changed at page r ≡ page
untouched_same at page r untouched = cond-false (touches at r) (record { lsn = r.lsn; cells = cells_after at (effect_of r.body) page.cells }) page untouched

pub redone_past : (at : PageAt) (page : PageState) (r : Rec) → IsPast at page r → redone at page r ≡ page
redone_past at page r past =
    let test : Bool = nat_lt page.lsn r.lsn && not (fills at r) in
    ⊎_elim
    (λ (untouched : touches at r ≡ false). cond_both test (changed at page r) page (λ (p : PageState). p ≡ page) (λ _. untouched_same at page r untouched) (λ _. refl))
    (λ (late : r.lsn ≤ page.lsn). cond-false test (changed at page r) page (and_left (nat_lt page.lsn r.lsn) (not (fills at r)) (le-ltb page.lsn r.lsn late)))
    past

redone_all_past : (at : PageAt) (page : PageState) (records : List Rec) → AllByRecursion (IsPast at page) records → redone_by at records page ≡ page
redone_all_past at page [] all = refl
redone_all_past at page (r ∷ records) all = ap (λ (p : PageState). fold (redone at) p records) (redone_past at page r all.0) ∙ redone_all_past at page records all.1

-- ---- records that redo applies

redone_all_later : (at : PageAt) (least : ℕ) (page : PageState) (records : List Rec) → RiseFrom least records → page.lsn < least → list_any (fills at) records ≡ false → redone_by at records page ≡ fold (changed at) page records
redone_all_later at least page [] rises low unfilled = refl
redone_all_later at least page (r ∷ records) rises low unfilled =
    let parts = or_parts (fills at r) (list_any (fills at) records) unfilled in
    let test : (nat_lt page.lsn r.lsn && not (fills at r)) ≡ true = and_from (nat_lt page.lsn r.lsn) (not (fills at r)) (lt-ltb page.lsn r.lsn (omega (arith, rises.0))) (not_from_false (fills at r) parts.0) in
    let one : redone at page r ≡ changed at page r = cond-true (nat_lt page.lsn r.lsn && not (fills at r)) (changed at page r) page test in
    let next : (changed at page r).lsn < r.lsn + 1 = after_record at page r (λ n. n < r.lsn + 1) (omega arith) (omega (arith, rises.0)) in
    ap (λ (p : PageState). fold (redone at) p records) one ∙ redone_all_later at (r.lsn + 1) (changed at page r) records rises.1 next parts.1

pub changed_by_none : (at : PageAt) (page : PageState) (records : List Rec) → list_any (touches at) records ≡ false → fold (changed at) page records ≡ page
changed_by_none at page [] untouched = refl
changed_by_none at page (r ∷ records) untouched =
    let parts = or_parts (touches at r) (list_any (touches at) records) untouched in
    ap (λ (p : PageState). fold (changed at) p records) (untouched_same at page r parts.0) ∙ changed_by_none at page records parts.1

-- ---- the page law

-- from the page as of c to the page as of b
pub as_of_later : (at : PageAt) (path : List Rec) (c b : ℕ) → RiseFrom 1 path → c ≤ b → as_of at b path ≡ fold (changed at) (as_of at c path) (records_between c b path)
as_of_later at path c b rises later =
    ap (fold (changed at) fresh) (between_split 0 c b 1 path rises (omega arith) later)
    ∙ fold-append (changed at) fresh (records_between 0 c path) (records_between c b path)

-- what lies in the back part of a range
any_back : (test : Rec → Bool) (front back all : List Rec) → all ≡ front ++ back → list_any test all ≡ false → (list_any test front ≡ false) × (list_any test back ≡ false)
any_back test front back all split none = or_parts (list_any test front) (list_any test back) (sym (list_any-append test front back) ∙ ap (list_any test) (sym split) ∙ none)

-- the records that lead a page are all later than it, or redo passes over them
ahead : (at : PageAt) (path : List Rec) (c from b : ℕ) → RiseFrom 1 path → Leads at path c from b → from ≤ c → redone_by at (records_between from b path) (as_of at c path) ≡ as_of at b path
ahead at path c from b rises leads before =
    let page : PageState = as_of at c path in
    let start : PageState = as_of at from path in
    let seen : List Rec = records_between from c path in
    let rest : List Rec = records_between c b path in
    let made : page ≡ fold (changed at) start seen = as_of_later at path from c rises before in
    let low : start.lsn < max 1 from = as_of-lsn at from (max 1 from) path (omega arith) (omega arith) in
    let rising : RiseFrom (max 1 from) seen = rises_between 1 (max 1 from) from c path rises (omega arith) in
    let past : AllByRecursion (IsPast at page) seen =
    subst (λ (p : PageState). AllByRecursion (IsPast at p) seen) (sym made) (made_past at (max 1 from) start seen rising (omega arith)) in
    ap (λ (rs : List Rec). redone_by at rs page) (between_split from c b 1 path rises before leads.not_past)
    ∙ fold-append (redone at) page seen rest
    ∙ ap (λ (p : PageState). redone_by at rest p) (redone_all_past at page seen past)
    ∙ redone_all_later at (max 1 c) page rest (rises_between 1 (max 1 c) c b path rises (omega arith)) (as_of-lsn at c (max 1 c) path (omega arith) (omega arith)) leads.unfilled
    ∙ sym (as_of_later at path c b rises leads.not_past)

behind : (at : PageAt) (path : List Rec) (c from b : ℕ) → RiseFrom 1 path → Leads at path c from b → c < from → from ≤ b → redone_by at (records_between from b path) (as_of at c path) ≡ as_of at b path
behind at path c from b rises leads later within =
    let page : PageState = as_of at c path in
    let passed : List Rec = records_between c from path in
    let rest : List Rec = records_between from b path in
    let split : records_between c b path ≡ passed ++ rest = between_split c from b 1 path rises (omega arith) within in
    let unfilled = any_back (fills at) passed rest (records_between c b path) split leads.unfilled in
    redone_all_later at (max 1 from) page rest (rises_between 1 (max 1 from) from b path rises (omega arith)) (as_of-lsn at c (max 1 from) path (omega arith) (omega arith)) unfilled.1
    ∙ ap (λ (p : PageState). fold (changed at) p rest) (sym (changed_by_none at page passed leads.untouched))
    ∙ sym (fold-append (changed at) page passed rest)
    ∙ ap (fold (changed at) page) (sym split)
    ∙ sym (as_of_later at path c b rises leads.not_past)

-- there is nothing to redo
beyond : (at : PageAt) (path : List Rec) (c from b : ℕ) → RiseFrom 1 path → Leads at path c from b → b < from → redone_by at (records_between from b path) (as_of at c path) ≡ as_of at b path
beyond at path c from b rises leads short =
    let page : PageState = as_of at c path in
    let split : records_between c from path ≡ records_between c b path ++ records_between b from path = between_split c b from 1 path rises leads.not_past (omega arith) in
    let untouched = any_back (touches at) (records_between c b path) (records_between b from path) (records_between c from path) split leads.untouched in
    ap (λ (rs : List Rec). redone_by at rs page) (between_none from b path (omega arith))
    ∙ sym (changed_by_none at page (records_between c b path) untouched.0)
    ∙ sym (as_of_later at path c b rises leads.not_past)

pub redone_is_as_of : (at : PageAt) (path log : List Rec) (c from b : ℕ) → RiseFrom 1 path → Leads at path c from b → records_between from b log ≡ records_between from b path
    → redone_by at (records_between from b log) (as_of at c path) ≡ as_of at b path
redone_is_as_of at path log c from b rises leads same =
    ap (λ (rs : List Rec). redone_by at rs (as_of at c path)) same
    ∙ ⊎_elim
    (λ (later : c < from). ⊎_elim (beyond at path c from b rises leads) (behind at path c from b rises leads later) (cases_lt b from))
    (ahead at path c from b rises leads)
    (cases_lt c from)

-- ---- what the number of a page tells

none_touched : (at : PageAt) (page : PageState) (x : ℕ) (records : List Rec) → page.lsn < x → AllByRecursion (IsPast at page) records → AllByRecursion (λ (r : Rec). x ≤ r.lsn) records → list_any (touches at) records ≡ false
none_touched at page x [] older past since = refl
none_touched at page x (r ∷ records) older past since =
    or_from (touches at r) (list_any (touches at) records)
    (⊎_elim (λ (untouched : touches at r ≡ false). untouched) (λ (late : r.lsn ≤ page.lsn). absurd (omega (arith, since.0))) past.0)
    (none_touched at page x records older past.1 since.1)

-- a page whose number as of n is below x was left alone from x on
pub untouched_since : (at : PageAt) (path : List Rec) (x n : ℕ) → RiseFrom 1 path → x ≤ n → (as_of at n path).lsn < x → list_any (touches at) (records_between x n path) ≡ false
untouched_since at path x n rises within older =
    let page : PageState = as_of at n path in
    let start : PageState = as_of at x path in
    let seen : List Rec = records_between x n path in
    let made : page ≡ fold (changed at) start seen = as_of_later at path x n rises within in
    let low : start.lsn < max 1 x = as_of-lsn at x (max 1 x) path (omega arith) (omega arith) in
    let rising : RiseFrom (max 1 x) seen = rises_between 1 (max 1 x) x n path rises (omega arith) in
    let past : AllByRecursion (IsPast at page) seen =
    subst (λ (p : PageState). AllByRecursion (IsPast at p) seen) (sym made) (made_past at (max 1 x) start seen rising (omega arith)) in
    none_touched at page x seen older past (all_between (λ (r : Rec). x ≤ r.lsn) x n path (λ r low high. low))
