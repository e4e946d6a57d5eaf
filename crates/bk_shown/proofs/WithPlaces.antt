-- Committed rows with their places.
use Rattle.std.proofs.Common.{◌≡◌, ◌<◌, ℕ, Bool, true, false, cond, eqb, ltb, List, [], ◌∷◌, Option, Some, None, ◌⊎◌, inl, inr, refl, sym, ◌∙◌, ap, subst, arith}
use Rattle.std.specs.Prelude.{◌==◌, is_some, option_map}
use Rattle.std.specs.List.{find, list_any, AllByRecursion}
use Rattle.std.specs.List.Sorted.{IsStrictlySortedBy}
use Rattle.std.specs.Map.{keys_of}
use Rattle.std.specs.Ordering.{ordering_then}
use Rattle.std.specs.declared.cmp.Ordering.TheVariants.{Less, Equal, Greater}
use Rattle.std.proofs.lemmas.Bool.{eqb-true}
use Rattle.std.proofs.lemmas.Bool.Decides.{nat_tests}
use Rattle.bk_groups.specs.Groups.{Space, row_cmp, place_of as space_place}
use Rattle.bk_ids.specs.declared.record.Place.{Place}
use Rattle.bk_world.specs.HomeLaws.{homed}
use Rattle.bk_lemmas.specs.Lists.{all_both, all_mapped}
use Rattle.bk_world.specs.PlacedRows.{AreRowsOf, ComesBefore, RowsRise, among, row_id}
use Rattle.bk_world.specs.Places.{homes}
use Rattle.bk_world.specs.Records.{Logged, RowId, is_row}
use Rattle.bk_world.specs.Telling as telling
use Rattle.bk_world.specs.declared.database.FileSpec.{FileSpec}
use Rattle.bk_world.specs.declared.database.TableSpec.{TableSpec}
use Rattle.bk_world.specs.declared.row.PlacedRow.{PlacedRow}
use Rattle.bk_world.specs.RowLaws.{row-same, row-itself}
use Rattle.bk_shown.specs.Rows.{ListsPlaced, RowEntries, RowValues, committed_of, placed_in, value_among, with_place}
use Rattle.bk_shown.specs.Shown.{IsFit, Shows}
use Rattle.bk_shown.specs.declared.shown.Shown.{Shown}
use Rattle.bk_shown.proofs.Committed.{Holds, ValueFits, holds-all}
use Rattle.bk_shown.proofs.Entries.{committed-values, value_in}
use Rattle.bk_shown.proofs.MapKeys.{key_is}
use Rattle.bk_shown.proofs.Starts.{keeps-none}
use Rattle.bk_shown.proofs.Taken.{place-is}

-- ---- rows rise

-- a row comes before another
abbrev pub Before : RowId → RowId → Type 0
Before a b = (a.0 < b.0) ⊎ ((a.0 ≡ b.0) × (a.1 < b.1))

comes : (a b : RowId) → row_cmp a b ≡ Less → Before a b
comes a b less = by (ltb a.0 b.0) refl (eqb a.0 b.0) refl (ltb a.1 b.1) refl (eqb a.1 b.1) less
  where
    by : (p : Bool) → ltb a.0 b.0 ≡ p → (q : Bool) → eqb a.0 b.0 ≡ q → (s : Bool) → ltb a.1 b.1 ≡ s → (t : Bool)
        → ordering_then (cond p Less (cond q Equal Greater)) (cond s Less (cond t Equal Greater)) ≡ Less → Before a b
    by true lt q e s f t less = let low : a.0 < b.0 = grind (arith, nat_tests, lt) in inl low
    by false nlt true e true f t less = let low : a.1 < b.1 = grind (arith, nat_tests, f) in inr (eqb-true _ _ e, low)
    by false nlt true e false f true less = absurd (cc)
    by false nlt true e false f false less = absurd (cc)
    by false nlt false e s f t less = absurd (cc)

placed-below : (space : Space) (k : RowId) (es : RowValues) → AllByRecursion (λ (r : RowId). row_cmp k r ≡ Less) (keys_of es) → AllByRecursion (λ (row : PlacedRow). Before k (row_id row)) (placed_in space es)
placed-below space k [] all = tt
placed-below space k (e ∷ es) all = by (space_place space e.0.0 e.0.1) (placed-below space k es all.1)
  where
    by : (o : Option Place) → AllByRecursion (λ (row : PlacedRow). Before k (row_id row)) (placed_in space es) → AllByRecursion (λ (row : PlacedRow). Before k (row_id row)) (with_place e o (placed_in space es))
    by None rest = rest
    by (Some at) rest = (comes k e.0 all.0, rest)

rise-cons : (row : PlacedRow) (rows : List PlacedRow) → AllByRecursion (ComesBefore row) rows → RowsRise rows → RowsRise (row ∷ rows)
rise-cons row [] all rise = tt
rise-cons row (b ∷ rows) all rise = (all.0, rise)

pub placed-rise : (space : Space) (es : RowValues) → IsStrictlySortedBy row_cmp (keys_of es) → RowsRise (placed_in space es)
unfolding IsStrictlySortedBy
placed-rise space [] sorted = tt
placed-rise space (e ∷ es) sorted = by (space_place space e.0.0 e.0.1) (placed-rise space es sorted.1)
  where
    by : (o : Option Place) → RowsRise (placed_in space es) → RowsRise (with_place e o (placed_in space es))
    by None rest = rest
    by (Some at) rest = rise-cons (record { table = e.0.0; key = e.0.1; value = e.1; place = at }) (placed_in space es) (placed-below space e.0 es sorted.0) rest

-- each row of some that rise comes before all behind it
pub before-all : (row : PlacedRow) (rows : List PlacedRow) → RowsRise (row ∷ rows) → AllByRecursion (ComesBefore row) rows
before-all row [] rise = tt
before-all row (b ∷ rows) rise = (rise.0, all_mapped (ComesBefore b) (ComesBefore row) (λ c then. on row b c rise.0 then) rows (before-all b rows rise.1))
  where
    on : (x y z : PlacedRow) → ComesBefore x y → ComesBefore y z → ComesBefore x z
    on x y z (inl a) (inl b) = let low : x.table < z.table = omega (arith, a, b) in inl low
    on x y z (inl a) (inr b) = let low : x.table < z.table = omega (arith, a, b.0) in inl low
    on x y z (inr a) (inl b) = let low : x.table < z.table = omega (arith, a.0, b) in inl low
    on x y z (inr a) (inr b) = let low : x.key < z.key = omega (arith, a.1, b.1) in inr (a.0 ∙ b.0, low)

rise-rest : (row : PlacedRow) (rows : List PlacedRow) → RowsRise (row ∷ rows) → RowsRise rows
rise-rest row [] rise = tt
rise-rest row (b ∷ rows) rise = rise.1

pub before-other : (a b : PlacedRow) → ComesBefore a b → is_row (row_id a) (row_id b) ≡ false
before-other a b (inl low) = grind (arith, nat_tests, low)
before-other a b (inr low) = grind (arith, nat_tests, low.1)

-- each of some rows that rise is the one of its table and key
pub among-itself : (rows : List PlacedRow) → RowsRise rows → AllByRecursion (λ (row : PlacedRow). among rows (row_id row) ≡ Some row) rows
among-itself [] rise = tt
among-itself (x ∷ rows) rise = (
  ap (λ t. cond t (Some x) (among rows (row_id x))) (row-itself (row_id x)),
  all_both (ComesBefore x) (λ (row : PlacedRow). among rows (row_id row) ≡ Some row) (λ (row : PlacedRow). among (x ∷ rows) (row_id row) ≡ Some row)
      (λ row before its. ap (λ t. cond t (Some x) (among rows (row_id row))) (before-other x row before) ∙ its) rows (before-all x rows rise) (among-itself rows (rise-rest x rows rise)),
)

-- ---- what is listed

swapped : (a b : RowId) → is_row a b ≡ is_row b a
swapped a b = by (eqb a.0 b.0) refl (eqb b.0 a.0) refl (eqb a.1 b.1) refl (eqb b.1 a.1) refl
  where
    by : (p : Bool) → eqb a.0 b.0 ≡ p → (q : Bool) → eqb b.0 a.0 ≡ q → (s : Bool) → eqb a.1 b.1 ≡ s → (t : Bool) → eqb b.1 a.1 ≡ t → is_row a b ≡ is_row b a
    by p is q isq s iss t ist = grind (arith, nat_tests)

first-is : (e : RowId × List ℕ) (es : RowValues) (id : RowId) → value_in (e ∷ es) id ≡ cond (is_row e.0 id) (Some e.1) (value_in es id)
first-is e es id = ap (λ t. cond t (Some e.1) (value_in es id)) (key_is id e.0 ∙ swapped id e.0)

module _ (space : Space) (id : RowId) where
  abbrev here : Option Place
  here = space_place space id.0 id.1

  none-here : {X : Type 0} (x : X) (o : Option X) → here ≡ None → (cond (is_some here) o None) ≡ None
  none-here x o e = ap (λ (h : Option Place). cond (is_some h) o None) e

  pub placed-values : (es : RowValues) → option_map (λ (row : PlacedRow). row.value) (among (placed_in space es) id) ≡ cond (is_some here) (value_in es id) None
  placed-values [] = by here
    where
      by : (h : Option Place) → let none : Option (List ℕ) = None in none ≡ cond (is_some h) none None
      by None = refl
      by (Some at) = refl
  placed-values (e ∷ es) =
      by (space_place space e.0.0 e.0.1) refl (is_row e.0 id) refl (placed-values es) ∙ ap (λ (v : Option (List ℕ)). cond (is_some here) v None) (sym (first-is e es id))
    where
      by : (o : Option Place) → space_place space e.0.0 e.0.1 ≡ o → (t : Bool) → is_row e.0 id ≡ t
          → option_map (λ (row : PlacedRow). row.value) (among (placed_in space es) id) ≡ cond (is_some here) (value_in es id) None
          → option_map (λ (row : PlacedRow). row.value) (among (with_place e o (placed_in space es)) id) ≡ cond (is_some here) (cond (is_row e.0 id) (Some e.1) (value_in es id)) None
      by (Some at) at_is true is rest =
          let its : here ≡ Some at = ap (λ (i : RowId). space_place space i.0 i.1) (sym (row-same e.0 id is)) ∙ at_is in
          rw is (ap (λ (h : Option Place). cond (is_some h) (Some e.1) None) (sym its))
      by (Some at) at_is false isnt rest = rw isnt rest
      by None none true is rest =
          let its : here ≡ None = ap (λ (i : RowId). space_place space i.0 i.1) (sym (row-same e.0 id is)) ∙ none in
          rest ∙ ap (λ (h : Option Place). cond (is_some h) (value_in es id) None) its ∙ ap (λ (h : Option Place). cond (is_some h) (cond (is_row e.0 id) (Some e.1) (value_in es id)) None) (sym its)
      by None none false isnt rest = rw isnt rest

  pub placed-places : (es : RowValues) → option_map (λ (row : PlacedRow). row.place) (among (placed_in space es) id) ≡ cond (is_some (value_in es id)) here None
  placed-places [] = refl
  placed-places (e ∷ es) =
      by (space_place space e.0.0 e.0.1) refl (is_row e.0 id) refl (placed-places es) ∙ ap (λ (v : Option (List ℕ)). cond (is_some v) here None) (sym (first-is e es id))
    where
      either : (b : Bool) → here ≡ None → cond b here None ≡ here
      either true e = refl
      either false e = sym e

      by : (o : Option Place) → space_place space e.0.0 e.0.1 ≡ o → (t : Bool) → is_row e.0 id ≡ t
          → option_map (λ (row : PlacedRow). row.place) (among (placed_in space es) id) ≡ cond (is_some (value_in es id)) here None
          → option_map (λ (row : PlacedRow). row.place) (among (with_place e o (placed_in space es)) id) ≡ cond (is_some (cond (is_row e.0 id) (Some e.1) (value_in es id))) here None
      by (Some at) at_is true is rest =
          let its : here ≡ Some at = ap (λ (i : RowId). space_place space i.0 i.1) (sym (row-same e.0 id is)) ∙ at_is in
          rw is (sym its)
      by (Some at) at_is false isnt rest = rw isnt rest
      by None none true is rest =
          let its : here ≡ None = ap (λ (i : RowId). space_place space i.0 i.1) (sym (row-same e.0 id is)) ∙ none in
          rest ∙ either (is_some (value_in es id)) its ∙ sym (ap (λ t. cond (is_some (cond t (Some e.1) (value_in es id))) here None) is)
      by None none false isnt rest = rw isnt rest

pub lists-placed : (space : Space) (es : RowEntries) (listed : List PlacedRow) → IsStrictlySortedBy row_cmp (keys_of es) → listed ≡ placed_in space (committed_of es) → ListsPlaced space es listed
lists-placed space es listed sorted is = record {
  values = λ id. ap (λ rows. option_map (λ (row : PlacedRow). row.value) (among rows id)) is ∙ placed-values space id (committed_of es)
      ∙ ap (λ (v : Option (List ℕ)). cond (is_some (space_place space id.0 id.1)) v None) (committed-values es sorted id);
  places = λ id. ap (λ rows. option_map (λ (row : PlacedRow). row.place) (among rows id)) is ∙ placed-places space id (committed_of es)
      ∙ ap (λ (v : Option (List ℕ)). cond (is_some v) (space_place space id.0 id.1) None) (committed-values es sorted id);
}

-- ---- of a log that is shown

-- what isn't there is none
none-there : {X : Type 0} (b : Bool) (x : Option X) → is_some x ≡ false → cond b x None ≡ x
none-there b (Some x) e = absurd (cc)
none-there true None e = refl
none-there false None e = refl

module _ (files : List FileSpec) (rs : List Logged) (s : Shown) (shows : Shows files rs s) where
  committed : (id : RowId) → is_some (value_among s.rows id) ≡ is_some (homes rs id)
  committed id = ap is_some (shows.kept.rows id) ∙ homed rs id

  -- a committed row lies at its home
  at-home : (id : RowId) (at : Place) → homes rs id ≡ Some at → space_place s.groups id.0 id.1 ≡ Some at
  at-home id at e = shows.kept.places id ∙ place-is rs id ∙ shows.log.places.homed id at e

  value-there : (id : RowId) (home : Option Place) → homes rs id ≡ home → cond (is_some (space_place s.groups id.0 id.1)) (value_among s.rows id) None ≡ value_among s.rows id
  value-there id None none = none-there (is_some (space_place s.groups id.0 id.1)) (value_among s.rows id) (committed id ∙ ap is_some none)
  value-there id (Some at) is = ap (λ (p : Option Place). cond (is_some p) (value_among s.rows id) None) (at-home id at is)

  place-there : (id : RowId) (home : Option Place) → homes rs id ≡ home → cond (is_some (value_among s.rows id)) (space_place s.groups id.0 id.1) None ≡ homes rs id
  place-there id None none = ap (λ b. cond b (space_place s.groups id.0 id.1) None) (committed id ∙ ap is_some none) ∙ sym none
  place-there id (Some at) is = ap (λ b. cond b (space_place s.groups id.0 id.1) None) (committed id ∙ ap is_some is) ∙ at-home id at is ∙ sym is

  pub are-rows : (listed : List PlacedRow) → ListsPlaced s.groups s.rows listed → AreRowsOf rs listed
  are-rows listed lists = record {
    values = λ id. sym (shows.kept.rows id) ∙ sym (lists.values id ∙ value-there id (homes rs id) refl);
    places = λ id. sym (lists.places id ∙ place-there id (homes rs id) refl);
  }

pub holds-shown : (files : List FileSpec) (rs : List Logged) (s : Shown) → Shows files rs s → Holds files rs
holds-shown files rs s shows = holds-all files rs s.«end» shows.log.counts shows.log.sound shows.placed keeps-none

any-found : {X : Type 0} (p : X → Bool) (xs : List X) (x : X) → find p xs ≡ Some x → list_any p xs ≡ true
any-found p [] x e = absurd (cc)
any-found {X} p (y ∷ xs) x e = by (p y) e (any-found p xs x)
  where
    by : (t : Bool) → cond t (Some y) (find p xs) ≡ Some x → (find p xs ≡ Some x → list_any p xs ≡ true) → Rattle.std.specs.Prelude.◌||◌ t (list_any p xs) ≡ true
    by true e rest = refl
    by false e rest = rest e

pub rows-fit : (files : List FileSpec) (rs : List Logged) (s : Shown) → Shows files rs s → (listed : List PlacedRow) → RowsRise listed → ListsPlaced s.groups s.rows listed → AllByRecursion (IsFit (telling.tables rs)) listed
rows-fit files rs s shows listed rise lists = all_mapped (λ (row : PlacedRow). among listed (row_id row) ≡ Some row) (IsFit (telling.tables rs)) fit listed (among-itself listed rise)
  where
    there : {X : Type 0} (b : Bool) (o : Option X) (x : X) → cond b o None ≡ Some x → o ≡ Some x
    there true o x e = e
    there false o x e = absurd (cc)

    fit : (row : PlacedRow) → among listed (row_id row) ≡ Some row → IsFit (telling.tables rs) row
    fit row its =
        let id : RowId = row_id row in
        let holds = holds-shown files rs s shows in
        let value : value_among s.rows (row_id row) ≡ Some row.value =
        there (is_some (space_place s.groups row.table row.key)) (value_among s.rows (row_id row)) row.value (sym (lists.values (row_id row)) ∙ ap (option_map (λ (r : PlacedRow). r.value)) its) in
        let place : space_place s.groups row.table row.key ≡ Some row.place =
        there (is_some (value_among s.rows (row_id row))) (space_place s.groups row.table row.key) row.place (sym (lists.places (row_id row)) ∙ ap (option_map (λ (r : PlacedRow). r.place)) its) in
        let fits = subst (ValueFits (row_id row)) (sym (shows.kept.rows (row_id row)) ∙ value) (holds.values (row_id row)) in
        let cell = holds.cells (row_id row) row.place (sym (shows.kept.places (row_id row)) ∙ place) in
        record { of_table = any-found (λ (t : TableSpec). t.number == row.table) (telling.tables rs) cell.0 cell.1; low_key = fits.0; short = fits.1 }
