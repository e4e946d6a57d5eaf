-- Fronts and slices of a log, and records that don't touch a page.
use Rattle.std.proofs.Common.{◌≡◌, ◌≤◌, ◌<◌, ℕ, false, cond, List, [], ◌∷◌, ◌++◌, fold, get_or, None, refl, inl, sym, ◌∙◌, ap, subst, append-nil, ⊎_elim, arith}
use Rattle.std.specs.List.{AllByRecursion, list_any}
use Rattle.std.proofs.lemmas.Bool.{cases_lt, or_parts, or_from, cond_both}
use Rattle.std.proofs.lemmas.List.Elements.{filter-append}
use Rattle.std.proofs.lemmas.List.Sums.{fold-append}
use Rattle.bk_ids.specs.declared.record.Rec.{Rec}
use Rattle.bk_record.specs.Log.{IsLog}
use Rattle.bk_record.specs.RecordsLaws.{log_append}
use Rattle.bk_redo.specs.declared.place.PageAt.{PageAt}
use Rattle.bk_redo.specs.PageStates.{PageState, fresh, page_of}
use Rattle.bk_redo.specs.Effects.{touches, changed}
use Rattle.bk_redo.specs.Redo.{RiseFrom, is_between, records_between, as_of, redone, redone_by}
use Rattle.bk_redo.specs.Frames.{Becomes, FramesRedone}
use Rattle.bk_redo.proofs.Between.{kept, skipped_early, skipped_late, between_split}
use Rattle.bk_redo.proofs.PageLaws.{untouched_same, redone_past, changed_by_none}

-- ---- fronts

late_none : (n : ℕ) (back : List Rec) → AllByRecursion (λ (r : Rec). n ≤ r.lsn) back → records_between 0 n back ≡ []
late_none n [] late = refl
late_none n (r ∷ back) late = skipped_late 0 n r back late.0 ∙ late_none n back late.1

pub as_of-front : (at : PageAt) (n : ℕ) (front back : List Rec) → AllByRecursion (λ (r : Rec). n ≤ r.lsn) back → as_of at n (front ++ back) ≡ as_of at n front
as_of-front at n front back late =
    ap (fold (changed at) fresh)
    (filter-append (is_between 0 n) front back ∙ ap (λ (rs : List Rec). records_between 0 n front ++ rs) (late_none n back late) ∙ append-nil (records_between 0 n front))

between_below : (n m : ℕ) (records : List Rec) → n ≤ m → records_between 0 n (records_between 0 m records) ≡ records_between 0 n records
between_below n m [] order = refl
between_below n m (r ∷ records) order =
    let rest = between_below n m records order in
    ⊎_elim
    (λ (early : r.lsn < m).
    ap (records_between 0 n) (kept 0 m r records (omega arith) early) ∙ ap (λ (rs : List Rec). cond (is_between 0 n r) (r ∷ rs) rs) rest)
    (λ (late : m ≤ r.lsn). ap (records_between 0 n) (skipped_late 0 m r records late) ∙ rest ∙ sym (skipped_late 0 n r records (omega arith)))
    (cases_lt r.lsn m)

pub as_of-below : (at : PageAt) (n m : ℕ) (records : List Rec) → n ≤ m → as_of at n (records_between 0 m records) ≡ as_of at n records
as_of-below at n m records order = ap (fold (changed at) fresh) (between_below n m records order)

-- ---- records that don't touch a page

changed_less : (at : PageAt) (n m : ℕ) (page : PageState) (records : List Rec) → n ≤ m → list_any (touches at) (records_between n m records) ≡ false
    → fold (changed at) page (records_between 0 m records) ≡ fold (changed at) page (records_between 0 n records)
changed_less at n m page [] order none = refl
changed_less at n m page (r ∷ records) order none =
    let by : List Rec → PageState = fold (changed at) page in
    let any : List Rec → Type 0 = λ rs. list_any (touches at) rs ≡ false in
    ⊎_elim
    (λ (early : r.lsn < n).
    ap by (kept 0 m r records (omega arith) (omega arith))
    ∙ changed_less at n m (changed at page r) records order (subst any (skipped_early n m r records early) none)
    ∙ ap by (sym (kept 0 n r records (omega arith) early)))
    (λ (late : n ≤ r.lsn). ⊎_elim
    (λ (within : r.lsn < m).
    let parts = or_parts (touches at r) (list_any (touches at) (records_between n m records)) (subst any (kept n m r records late within) none) in
    ap by (kept 0 m r records (omega arith) within)
    ∙ ap (λ (p : PageState). fold (changed at) p (records_between 0 m records)) (untouched_same at page r parts.0)
    ∙ changed_less at n m page records order parts.1
    ∙ ap by (sym (skipped_late 0 n r records late)))
    (λ (past : m ≤ r.lsn).
    ap by (skipped_late 0 m r records past)
    ∙ changed_less at n m page records order (subst any (skipped_late n m r records past) none)
    ∙ ap by (sym (skipped_late 0 n r records late)))
    (cases_lt r.lsn m))
    (cases_lt r.lsn n)

pub as_of-untouched : (at : PageAt) (n m : ℕ) (records : List Rec) → n ≤ m → list_any (touches at) (records_between n m records) ≡ false → as_of at m records ≡ as_of at n records
as_of-untouched at n m records order none = changed_less at n m fresh records order none

-- none of some records touches a page, so none of a range of them does
none_between : (at : PageAt) (from to : ℕ) (records : List Rec) → list_any (touches at) records ≡ false → list_any (touches at) (records_between from to records) ≡ false
none_between at from to [] none = refl
none_between at from to (r ∷ records) none =
    let parts = or_parts (touches at r) (list_any (touches at) records) none in
    let rest = none_between at from to records parts.1 in
    cond_both (is_between from to r) (r ∷ records_between from to records) (records_between from to records) (λ (rs : List Rec). list_any (touches at) rs ≡ false)
    (λ _. or_from (touches at r) (list_any (touches at) (records_between from to records)) parts.0 rest) (λ _. rest)

pub as_of-more : (at : PageAt) (n : ℕ) (records more : List Rec) → list_any (touches at) more ≡ false → as_of at n (records ++ more) ≡ as_of at n records
as_of-more at n records more none =
    ap (fold (changed at) fresh) (filter-append (is_between 0 n) records more)
    ∙ fold-append (changed at) fresh (records_between 0 n records) (records_between 0 n more)
    ∙ changed_by_none at (as_of at n records) (records_between 0 n more) (none_between at 0 n more none)

pub redone_by-untouched : (at : PageAt) (records : List Rec) (page : PageState) → list_any (touches at) records ≡ false → redone_by at records page ≡ page
redone_by-untouched at [] page none = refl
redone_by-untouched at (r ∷ records) page none =
    let parts = or_parts (touches at r) (list_any (touches at) records) none in
    ap (λ (p : PageState). redone_by at records p) (redone_past at page r (inl parts.0)) ∙ redone_by-untouched at records page parts.1

-- ---- slices

pub redone_by-ranges : (at : PageAt) (from mid to : ℕ) (log : List Rec) (page : PageState) → RiseFrom 1 log → from ≤ mid → mid ≤ to
    → redone_by at (records_between mid to log) (redone_by at (records_between from mid log) page) ≡ redone_by at (records_between from to log) page
redone_by-ranges at from mid to log page rises low high =
    sym (ap (λ (rs : List Rec). redone_by at rs page) (between_split from mid to 1 log rises low high) ∙ fold-append (redone at) page (records_between from mid log) (records_between mid to log))

becomes_then : (old middle new : List ℕ) (page next : PageState) → Becomes old page middle → Becomes middle next new → Becomes old next new
becomes_then old middle new page next first second = record {
  held = second.held;
  place = record { number = second.place.number ∙ first.place.number; file = second.place.file ∙ first.place.file };
  digest = second.digest ∙ first.digest;
  unused = second.unused ∙ first.unused;
}

frames_then : (places : List PageAt) (records more : List Rec) (old middle new : List (List ℕ)) → FramesRedone places records old middle → FramesRedone places more middle new → FramesRedone places (records ++ more) old new
frames_then places records more old middle new first second = record {
  size = second.size ∙ first.size;
  pages = λ i nowhere low.
      let at : PageAt = get_or places i nowhere in
      let page : PageState = page_of (get_or old i []) in
      let both : redone_by at more (page_of (get_or middle i [])) ≡ redone_by at (records ++ more) page =
      ap (redone_by at more) ((first.pages i nowhere low).held) ∙ sym (fold-append (redone at) page records more) in
      let Becoming : PageState → Type 0 = λ p. Becomes (get_or old i []) p (get_or new i []) in
      subst Becoming both (becomes_then (get_or old i []) (get_or middle i []) (get_or new i []) (redone_by at records page) (redone_by at more (page_of (get_or middle i []))) (first.pages i nowhere low) (second.pages i nowhere low));
  others = λ i past. second.others i past ∙ first.others i past;
}

pub slices_join : (places : List PageAt) (from to : ℕ) (first second : List ℕ) (records more : List Rec) (old middle new : List (List ℕ))
    → IsLog first records None → FramesRedone places (records_between from to records) old middle
    → IsLog second more None → FramesRedone places (records_between from to more) middle new
    → IsLog (first ++ second) (records ++ more) None × FramesRedone places (records_between from to (records ++ more)) old new
slices_join places from to first second records more old middle new log ahead next behind =
    let Redone : List Rec → Type 0 = λ rs. FramesRedone places rs old new in (
      log_append first second records more log next,
      subst Redone (sym (filter-append (is_between from to) records more)) (frames_then places (records_between from to records) (records_between from to more) old middle new ahead behind),
    )
