-- Chains of backup sets.
use Rattle.std.proofs.Common.{◌≡◌, ◌≤◌, ◌<◌, ℕ, Bool, true, false, List, [], ◌∷◌, ◌++◌, fold, Option, Some, None, unwrap_or, refl, sym, ◌∙◌, ap, ⊎_elim, arith}
use Rattle.std.specs.Prelude.{MatchOption}
use Rattle.std.specs.List.{list_any}
use Rattle.std.proofs.lemmas.Bool.{cases_lt, or_parts, or_from}
use Rattle.std.proofs.lemmas.List.Folds.{list_any-append}
use Rattle.bk_ids.specs.declared.record.Rec.{Rec}
use Rattle.bk_redo.specs.declared.place.PageAt.{PageAt}
use Rattle.bk_redo.specs.PageStates.{PageState, fresh}
use Rattle.bk_redo.specs.Effects.{Effect, sets_cell, fills_extents, leaves_pages, effect_of, is_effect_on, fills_page, touches, fills, changed}
use Rattle.bk_redo.specs.Redo.{RiseFrom, Leads, records_between, as_of, redone_by}
use Rattle.bk_redo.specs.Chains.{PageSet, Follows, after_set, after_sets, IsChain, last_path, last_point}
use Rattle.bk_redo.proofs.Between.{between_none, between_split}
use Rattle.bk_redo.proofs.PageLaws.{redone_is_as_of, untouched_since}

-- a page that is as of a point is as of the end of the set that it follows
copy_or_page : (at : PageAt) (set : PageSet) (point : ℕ) (copied : Option PageState) → RiseFrom 1 set.path
    → records_between set.from set.to set.log ≡ records_between set.from set.to set.path
    → MatchOption copied (Leads at set.path point set.from set.to) (λ page. (c : ℕ) × (page ≡ as_of at c set.path) × Leads at set.path c set.from set.to)
    → redone_by at (records_between set.from set.to set.log) (unwrap_or copied (as_of at point set.path)) ≡ as_of at set.to set.path
copy_or_page at set point None rises same leads = redone_is_as_of at set.path set.log point set.from set.to rises leads same
copy_or_page at set point (Some page) rises same leads =
    ap (λ (p : PageState). redone_by at (records_between set.from set.to set.log) p) leads.1 ∙ redone_is_as_of at set.path set.log leads.0 set.from set.to rises leads.2 same

one_set : (pages : PageAt → Bool) (path : List Rec) (point : ℕ) (set : PageSet) (at : PageAt) (page : PageState) → Follows pages path point set → pages at ≡ true
    → page ≡ as_of at point path → after_set at page set ≡ as_of at set.to set.path
one_set pages path point set at page follows among is =
    let same : page ≡ as_of at point set.path = is ∙ ap (λ (rs : List Rec). fold (changed at) fresh rs) follows.agrees in
    ap (λ (p : PageState). redone_by at (records_between set.from set.to set.log) (unwrap_or (set.copied at) p)) same
    ∙ copy_or_page at set point (set.copied at) follows.rises follows.log_of_path (follows.leads at among)

pub all_sets : (pages : PageAt → Bool) (path : List Rec) (point : ℕ) (sets : List PageSet) (at : PageAt) (page : PageState) → IsChain pages path point sets → pages at ≡ true
    → page ≡ as_of at point path → after_sets at sets page ≡ as_of at (last_point point sets) (last_path path sets)
all_sets pages path point [] at page chain among is = is
all_sets pages path point (set ∷ sets) at page chain among is =
    all_sets pages set.path set.to sets at (after_set at page set) chain.1 among (one_set pages path point set at page chain.0 among is)

-- ---- which pages lead to a set's end

pub copied_leads : (at : PageAt) (path : List Rec) (c from to : ℕ) → from ≤ c → c ≤ to → list_any (fills at) (records_between c to path) ≡ false → Leads at path c from to
copied_leads at path c from to since within unfilled = record {
  not_past = within;
  untouched = ap (list_any (touches at)) (between_none c from path since);
  unfilled = unfilled;
}

pub end_leads : (at : PageAt) (path : List Rec) (from to : ℕ) → from ≤ to → Leads at path to from to
end_leads at path from to within = copied_leads at path to from to within (omega arith) (ap (list_any (fills at)) (between_none to to path (omega arith)))

-- what is true of no record of a range is true of none of a range in it
none_within : (test : Rec → Bool) (path : List Rec) (from low high to : ℕ) → RiseFrom 1 path → from ≤ low → low ≤ high → high ≤ to
    → list_any test (records_between from to path) ≡ false → list_any test (records_between low high path) ≡ false
none_within test path from low high to rises first second third none =
    let back : records_between from to path ≡ records_between from low path ++ records_between low to path = between_split from low to 1 path rises first (omega arith) in
    let front : records_between low to path ≡ records_between low high path ++ records_between high to path = between_split low high to 1 path rises second third in
    let rest = or_parts (list_any test (records_between from low path)) (list_any test (records_between low to path))
    (sym (list_any-append test (records_between from low path) (records_between low to path)) ∙ ap (list_any test) (sym back) ∙ none) in
    (or_parts (list_any test (records_between low high path)) (list_any test (records_between high to path))
    (sym (list_any-append test (records_between low high path) (records_between high to path)) ∙ ap (list_any test) (sym front) ∙ rest.1)).0

-- a log in which no bulk load names the page's extent
pub log_leads : (at : PageAt) (path log : List Rec) (point from to : ℕ) → RiseFrom 1 path → from ≤ point → point ≤ to
    → records_between from to log ≡ records_between from to path → list_any (fills at) (records_between from to log) ≡ false → Leads at path point from to
log_leads at path log point from to rises since within same unfilled =
    copied_leads at path point from to since within
    (none_within (fills at) path from point to to rises since within (omega arith) (ap (list_any (fills at)) (sym same) ∙ unfilled))

-- what fills a page's extent touches the page
untouched_unfilled : (at : PageAt) (effect : Effect) → is_effect_on at effect ≡ false → fills_page at effect ≡ false
untouched_unfilled at (sets_cell place image) none = refl
untouched_unfilled at (fills_extents load) none = none
untouched_unfilled at leaves_pages none = refl

none_filled : (at : PageAt) (records : List Rec) → list_any (touches at) records ≡ false → list_any (fills at) records ≡ false
none_filled at [] untouched = refl
none_filled at (r ∷ records) untouched =
    let parts = or_parts (touches at r) (list_any (touches at) records) untouched in
    or_from (fills at r) (list_any (fills at) records) (untouched_unfilled at (effect_of r.body) parts.0) (none_filled at records parts.1)

-- a page that a differential doesn't hold: as of the differential's checkpoint its number is below the base
pub unheld_leads : (at : PageAt) (path : List Rec) (base point checkpoint from to : ℕ) → RiseFrom 1 path → base ≤ point → point ≤ to → from ≤ checkpoint → checkpoint ≤ to
    → (as_of at checkpoint path).lsn < base → list_any (fills at) (records_between checkpoint to path) ≡ false → Leads at path point from to
unheld_leads at path base point checkpoint from to rises since within before ends older unfilled =
    let untouched : (high : ℕ) → high ≤ checkpoint → list_any (touches at) (records_between point high path) ≡ false = λ high low. ⊎_elim
    (λ (more : point < high). none_within (touches at) path base point high checkpoint rises since (omega arith) low (untouched_since at path base checkpoint rises (omega arith) older))
    (λ (none : high ≤ point). ap (list_any (touches at)) (between_none point high path none))
    (cases_lt point high) in
    record {
      not_past = within;
      untouched = untouched from before;
      unfilled = ⊎_elim
          (λ (early : point < checkpoint).
          ap (list_any (fills at)) (between_split point checkpoint to 1 path rises (omega arith) ends)
          ∙ list_any-append (fills at) (records_between point checkpoint path) (records_between checkpoint to path)
          ∙ or_from (list_any (fills at) (records_between point checkpoint path)) (list_any (fills at) (records_between checkpoint to path))
          (none_filled at (records_between point checkpoint path) (untouched checkpoint (omega arith))) unfilled)
          (λ (late : checkpoint ≤ point). none_within (fills at) path checkpoint point to to rises late within (omega arith) unfilled)
          (cases_lt point checkpoint);
    }
