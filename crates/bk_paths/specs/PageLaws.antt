-- Pages as of the numbers of a path, behind more records and as of its end.
use Rattle.std.proofs.Common.{◌≡◌, ◌≤◌, ◌<◌, ◌⊎◌, ℕ, ◌+◌, ◌-◌, Bool, true, false, ◌&&◌, List, [], ◌∷◌, ◌++◌, length, take, fold, refl, inl, inr, sym, ◌∙◌, ap, subst, arith}
use Rattle.std.specs.Prelude.{nat_lt, nat_le}
use Rattle.std.specs.List.{AllByRecursion, list_any}
use Rattle.std.proofs.lemmas.Bool.{cases_lt, le-ltb, le-leb, lt-ltb, lt-leb, and_from, and_left, and_right, cond-true, cond-false, cond_both, or_parts, or_from}
use Rattle.std.proofs.lemmas.List.{take-append-drop, length-append, append-nil, length-take-le}
use Rattle.std.proofs.lemmas.List.Elements.{filter-append}
use Rattle.std.proofs.lemmas.List.Folds.{list_any-append}
use Rattle.std.proofs.lemmas.List.Sums.{fold-append}
use Rattle.bk_ids.specs.declared.record.Rec.{Rec}
use Rattle.bk_segments.specs.Records.{Numbered}
use Rattle.bk_redo.specs.declared.place.PageAt.{PageAt}
use Rattle.bk_redo.specs.PageStates.{PageState, fresh}
use Rattle.bk_redo.specs.Effects.{fills, changed}
use Rattle.bk_redo.specs.Redo.{is_between, records_between, as_of}
use Rattle.bk_paths.specs.Pages.{IsPage, last_page}
use Rattle.bk_paths.specs.Paths.{IsPath, end_of, kept_from}
use Rattle.bk_paths.specs.PathLaws.{path_front, path_back, numbers_least, numbers_below}

-- ---- records between two numbers

-- none of them, where all lie at the upper one or above it
pub between_late : (from to : ℕ) (records : List Rec) → AllByRecursion (λ (r : Rec). to ≤ r.lsn) records → records_between from to records ≡ []
between_late from to [] late = refl
between_late from to (r ∷ records) late =
    let off : is_between from to r ≡ false = and_right (nat_le from r.lsn) (nat_lt r.lsn to) (le-ltb r.lsn to late.0) in
    cond-false (is_between from to r) (r ∷ records_between from to records) (records_between from to records) off ∙ between_late from to records late.1

-- or below the lower one
pub between_early : (from to : ℕ) (records : List Rec) → AllByRecursion (λ (r : Rec). r.lsn < from) records → records_between from to records ≡ []
between_early from to [] early = refl
between_early from to (r ∷ records) early =
    let off : is_between from to r ≡ false = and_left (nat_le from r.lsn) (nat_lt r.lsn to) (lt-leb from r.lsn early.0) in
    cond-false (is_between from to r) (r ∷ records_between from to records) (records_between from to records) off ∙ between_early from to records early.1

-- all of them, where all lie below the upper one
pub between_all : (to : ℕ) (records : List Rec) → AllByRecursion (λ (r : Rec). r.lsn < to) records → records_between 0 to records ≡ records
between_all to [] low = refl
between_all to (r ∷ records) low =
    let on : is_between 0 to r ≡ true = and_from (nat_le 0 r.lsn) (nat_lt r.lsn to) (le-leb 0 r.lsn (omega arith)) (lt-ltb r.lsn to low.0) in
    cond-true (is_between 0 to r) (r ∷ records_between 0 to records) (records_between 0 to records) on ∙ ap (λ (rs : List Rec). r ∷ rs) (between_all to records low.1)

-- what none of some records does, none of those between two numbers does
pub between_none : (test : Rec → Bool) (from to : ℕ) (records : List Rec) → list_any test records ≡ false → list_any test (records_between from to records) ≡ false
between_none test from to [] none = refl
between_none test from to (r ∷ records) none =
    let parts = or_parts (test r) (list_any test records) none in
    let rest = between_none test from to records parts.1 in
    cond_both (is_between from to r) (r ∷ records_between from to records) (records_between from to records) (λ (rs : List Rec). list_any test rs ≡ false)
    (λ _. or_from (test r) (list_any test (records_between from to records)) parts.0 rest) (λ _. rest)

-- a higher upper number lets all below it through
between_more : (from to more : ℕ) (records : List Rec) → AllByRecursion (λ (r : Rec). r.lsn < to) records → to ≤ more → records_between from more records ≡ records_between from to records
between_more from to more [] low order = refl
between_more from to more (r ∷ records) low order =
    let upper : nat_lt r.lsn more ≡ nat_lt r.lsn to = lt-ltb r.lsn more (omega (arith, low.0, order)) ∙ sym (lt-ltb r.lsn to low.0) in
    let test : is_between from more r ≡ is_between from to r = ap (λ (b : Bool). nat_le from r.lsn && b) upper in
    let rest : records_between from more records ≡ records_between from to records = between_more from to more records low.1 order in
    cc

-- ---- pages

pub as_of_front : (at : PageAt) (n : ℕ) (front back : List Rec) → Numbered (end_of front) back → n ≤ end_of front → as_of at n (front ++ back) ≡ as_of at n front
as_of_front at n front back numbers early =
    ap (fold (changed at) fresh)
    (filter-append (is_between 0 n) front back
    ∙ ap (λ (rs : List Rec). records_between 0 n front ++ rs) (between_late 0 n back (numbers_least (end_of front) n back numbers early))
    ∙ append-nil (records_between 0 n front))

pub page_more : (front back : List Rec) (since : ℕ) (at : PageAt) (page : PageState) → IsPath (front ++ back) → list_any (fills at) back ≡ false → IsPage front since at page → IsPage (front ++ back) since at page
page_more front back since at page path plain is =
    let low : AllByRecursion (λ (r : Rec). r.lsn < end_of front) front = numbers_below 1 (end_of front) front (path_front front back path).numbered (omega arith) in
    let longer : end_of (front ++ back) ≡ end_of front + length back = omega (arith, length-append front back) in
    let to : ℕ = end_of (front ++ back) in
    let split : records_between is.number to (front ++ back) ≡ records_between is.number (end_of front) front ++ records_between is.number to back =
    filter-append (is_between is.number to) front back ∙ ap (λ (rs : List Rec). rs ++ records_between is.number to back) (between_more is.number (end_of front) to front low (omega (arith, longer))) in
    record {
      number = is.number;
      later = is.later;
      not_past = omega (arith, is.not_past, longer);
      unfilled = ap (list_any (fills at)) split
          ∙ list_any-append (fills at) (records_between is.number (end_of front) front) (records_between is.number to back)
          ∙ or_from (list_any (fills at) (records_between is.number (end_of front) front)) (list_any (fills at) (records_between is.number to back)) is.unfilled (between_none (fills at) is.number to back plain);
      held = is.held ∙ sym (as_of_front at is.number front back (path_back front back path) is.not_past);
    }

nothing_at : (n to : ℕ) (records : List Rec) → to ≤ n → records_between n to records ≡ []
nothing_at n to [] order = refl
nothing_at n to (r ∷ records) order =
    let rest = nothing_at n to records order in
    elim (low_or_high r.lsn) [
      | inl early ↦ cond-false (is_between n to r) (r ∷ records_between n to records) (records_between n to records) (and_left (nat_le n r.lsn) (nat_lt r.lsn to) (lt-leb n r.lsn early)) ∙ rest
      | inr late ↦ cond-false (is_between n to r) (r ∷ records_between n to records) (records_between n to records) (and_right (nat_le n r.lsn) (nat_lt r.lsn to) (le-ltb r.lsn to (omega (arith, late, order)))) ∙ rest
    ]
  where
    low_or_high : (k : ℕ) → (k < n) ⊎ (n ≤ k)
    low_or_high k = cases_lt k n

pub page_last : (records : List Rec) (since : ℕ) (at : PageAt) → since ≤ end_of records → IsPage records since at (last_page at records)
page_last records since at order = record {
  number = end_of records;
  later = order;
  not_past = omega arith;
  unfilled = ap (list_any (fills at)) (nothing_at (end_of records) (end_of records) records (omega arith));
  held = refl;
}

-- the page as of the end is made by all records
last_is : (at : PageAt) (records : List Rec) → IsPath records → last_page at records ≡ fold (changed at) fresh records
last_is at records path = ap (fold (changed at) fresh) (between_all (end_of records) records (numbers_below 1 (end_of records) records path.numbered (omega arith)))

pub last_more : (front back : List Rec) (at : PageAt) → IsPath (front ++ back) → last_page at (front ++ back) ≡ fold (changed at) (last_page at front) back
last_more front back at path =
    last_is at (front ++ back) path ∙ fold-append (changed at) fresh front back ∙ ap (λ (page : PageState). fold (changed at) page back) (sym (last_is at front (path_front front back path)))

-- ---- what a log holds

pub kept_between : (records : List Rec) (kept from to : ℕ) → IsPath records → 1 ≤ kept → kept ≤ end_of records → kept ≤ from → records_between from to (kept_from kept records) ≡ records_between from to records
kept_between records kept from to path some inside order =
    let front : List Rec = take (kept - 1) records in
    let whole : front ++ kept_from kept records ≡ records = take-append-drop (kept - 1) records in
    let both : IsPath (front ++ kept_from kept records) = subst IsPath (sym whole) path in
    let size : length front ≡ kept - 1 = length-take-le (kept - 1) records (omega (arith, some, inside)) in
    let low : AllByRecursion (λ (r : Rec). r.lsn < from) front = numbers_below 1 from front (path_front front (kept_from kept records) both).numbered (omega (arith, size, some, order)) in
    ap (λ (rs : List Rec). rs ++ records_between from to (kept_from kept records)) (sym (between_early from to front low))
    ∙ sym (filter-append (is_between from to) front (kept_from kept records))
    ∙ ap (records_between from to) whole

-- a page as of some number from one on is one from a lower number on
pub page_since : (records : List Rec) (since lower : ℕ) (at : PageAt) (page : PageState) → lower ≤ since → IsPage records since at page → IsPage records lower at page
page_since records since lower at page order is = record {
  number = is.number;
  later = omega (arith, order, is.later);
  not_past = is.not_past;
  unfilled = is.unfilled;
  held = is.held;
}
