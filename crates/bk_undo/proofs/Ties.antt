-- Places, rows of cells, and lists of writes.
use Rattle.std.proofs.Common.{◌≡◌, ◌≢◌, ◌⊎◌, ◌<◌, ℕ, Bool, true, false, not, ◌&&◌, List, [], ◌∷◌, ◌++◌, map, Option, Some, None, inl, inr, refl, sym, ◌∙◌, ap, subst, arith}
use Rattle.std.specs.Prelude.{◌==◌, if◌then◌else◌}
use Rattle.std.specs.List.{filter, AllByRecursion}
use Rattle.std.proofs.lemmas.Bool.{eqb-true, eq-eqb, and_parts, and_from, and_right, cases_Bool}
use Rattle.std.proofs.lemmas.List.{append-nil}
use Rattle.std.proofs.lemmas.List.Elements.{filter-append}
use Rattle.std.proofs.lemmas.Option.{same_Some}
use Rattle.bk_bytes.specs.Cell.{Row}
use Rattle.bk_ids.specs.declared.record.Place.{Place}
use Rattle.bk_lemmas.specs.Lists.{all_mapped, all_middle, filter_every, filter_no}
use Rattle.bk_lemmas.specs.Tests.{clash}
use Rattle.bk_world.specs.RowLaws.{place-is}
use Rattle.bk_undo.specs.Cells.{RowId, CellWrite, is_place, is_row, value_in, row_in, IsFreeOr, writes_at, LeadsTo, IsOwn, WritesRise}

-- ---- tests

pub if_true : {A : Type 0} (b : Bool) (x y : A) → b ≡ true → (if b then x else y) ≡ x
if_true b x y is = rw is refl

pub if_false : {A : Type 0} (b : Bool) (x y : A) → b ≡ false → (if b then x else y) ≡ y
if_false b x y is = rw is refl

pub none_some : {A B : Type 0} (o : Option A) (x : A) → o ≡ None → o ≡ Some x → B
none_some o x is isnt = absurd (cc)

-- ---- places

pub same_place : (a b : Place) → is_place a b ≡ true → a ≡ b
same_place a b test =
    let first = and_parts (a.file == b.file) ((a.page == b.page) && (a.slot == b.slot)) test in
    let second = and_parts (a.page == b.page) (a.slot == b.slot) first.1 in
    place-is a b (eqb-true a.file b.file first.0) (eqb-true a.page b.page second.0) (eqb-true a.slot b.slot second.1)

pub own_place : (a : Place) → is_place a a ≡ true
own_place a =
    and_from (a.file == a.file) ((a.page == a.page) && (a.slot == a.slot)) (eq-eqb a.file a.file refl)
    (and_from (a.page == a.page) (a.slot == a.slot) (eq-eqb a.page a.page refl) (eq-eqb a.slot a.slot refl))

pub is_place-true : (a b : Place) → a ≡ b → is_place a b ≡ true
is_place-true a b e = let P : Place → Type 0 = λ c. is_place a c ≡ true in subst P e (own_place a)

pub place_cases : (a b : Place) → ((is_place a b ≡ true) × (a ≡ b)) ⊎ ((is_place a b ≡ false) × (a ≢ b))
place_cases a b = elim (cases_Bool (is_place a b)) [
  | inl is ↦ inl (is, same_place a b is)
  | inr isnt ↦ inr (isnt, λ e. clash (is_place a b) (is_place-true a b e) isnt)
]

-- ---- rows

row_eq : (a b : ℕ × ℕ) → a.0 ≡ b.0 → a.1 ≡ b.1 → a ≡ b
row_eq a b t k = λ x. (t x, k x)

pub same_row : (a b : ℕ × ℕ) → is_row a b ≡ true → a ≡ b
same_row a b test =
    let both = and_parts (a.0 == b.0) (a.1 == b.1) test in
    row_eq a b (eqb-true a.0 b.0 both.0) (eqb-true a.1 b.1 both.1)

own_row : (a : ℕ × ℕ) → is_row a a ≡ true
own_row a = and_from (a.0 == a.0) (a.1 == a.1) (eq-eqb a.0 a.0 refl) (eq-eqb a.1 a.1 refl)

pub is_row-true : (a b : ℕ × ℕ) → a ≡ b → is_row a b ≡ true
is_row-true a b e = let P : ℕ × ℕ → Type 0 = λ c. is_row a c ≡ true in subst P e (own_row a)

pub row_cases : (a b : ℕ × ℕ) → ((is_row a b ≡ true) × (a ≡ b)) ⊎ ((is_row a b ≡ false) × (a ≢ b))
row_cases a b = elim (cases_Bool (is_row a b)) [
  | inl is ↦ inl (is, same_row a b is)
  | inr isnt ↦ inr (isnt, λ e. clash (is_row a b) (is_row-true a b e) isnt)
]

pub row_in_own : (row : Row) (id : ℕ × ℕ) → (row.table, row.key) ≡ id → row_in (Some row) id ≡ Some row.value
row_in_own row id e = if_true (is_row (row.table, row.key) id) (Some row.value) None (is_row-true (row.table, row.key) id e)

-- what a cell of this row or a free one holds
pub row_in_free_or : (cell : Option Row) (row id : ℕ × ℕ) → row ≡ id → IsFreeOr row cell → value_in cell ≡ row_in cell id
row_in_free_or None row id e is = refl
row_in_free_or (Some r) row id e is = sym (row_in_own r id (is ∙ e))

row_is : (row : Row) (id : ℕ × ℕ) (value : List ℕ) → (row.table, row.key) ≡ id → row.value ≡ value → Some row ≡ Some (record { table = id.0; key = id.1; value = value })
row_is row id value p v = λ x. Some (record { table = (p x).0; key = (p x).1; value = v x })

pub row_in_some : (cell : Option Row) (id : ℕ × ℕ) (value : List ℕ) → row_in cell id ≡ Some value → cell ≡ Some (record { table = id.0; key = id.1; value = value })
row_in_some None id value e = absurd (cc)
row_in_some (Some row) id value e = elim (row_cases (row.table, row.key) id) [
  | inl is ↦ row_is row id value is.1 (same_Some row.value value (sym (row_in_own row id is.1) ∙ e))
  | inr isnt ↦ none_some (row_in (Some row) id) value (if_false (is_row (row.table, row.key) id) (Some row.value) None isnt.0) e
]

-- ---- lists

pub all_without : {X : Type 0} (P : X → Type 0) (front : List X) (x : X) (back : List X) → AllByRecursion P (front ++ x ∷ back) → AllByRecursion P (front ++ back)
all_without P [] x back all = all.1
all_without P (y ∷ front) x back all = (all.0, all_without P front x back all.1)

pub none_pass : {X : Type 0} (p : X → Bool) (xs : List X) → filter p xs ≡ [] → AllByRecursion (λ x. p x ≡ false) xs
none_pass p [] e = tt
none_pass {X = X} p (x ∷ xs) e = step (p x) refl e (none_pass p xs)
  where
    step : (b : Bool) → p x ≡ b → filter p (x ∷ xs) ≡ [] → (filter p xs ≡ [] → AllByRecursion (λ (y : X). p y ≡ false) xs) → AllByRecursion (λ (y : X). p y ≡ false) (x ∷ xs)
    step true is e rest =
        let more : filter p (x ∷ xs) ≡ x ∷ filter p xs = rw is refl in
        let wrong : x ∷ filter p xs ≡ [] = sym more ∙ e in
        absurd (cc)
    step false is e rest =
        let less : filter p (x ∷ xs) ≡ filter p xs = rw is refl in
        (is, rest (sym less ∙ e))

pub filter_mapped : {X Y : Type 0} (f : X → Y) (p : Y → Bool) (q : X → Bool) → ((x : X) → p (f x) ≡ q x) → (xs : List X) → filter p (map f xs) ≡ map f (filter q xs)
filter_mapped f p q same [] = refl
filter_mapped {X = X} {Y = Y} f p q same (x ∷ xs) = step (q x) refl (filter_mapped f p q same xs)
  where
    step : (b : Bool) → q x ≡ b → filter p (map f xs) ≡ map f (filter q xs) → filter p (map f (x ∷ xs)) ≡ map f (filter q (x ∷ xs))
    step true is rest = let test : p (f x) ≡ true = same x ∙ is in rw (test, is) (ap (λ (ys : List Y). f x ∷ ys) rest)
    step false is rest = let test : p (f x) ≡ false = same x ∙ is in rw (test, is) rest

-- ---- writes at a place

pub at_more : (at : Place) (writes : List CellWrite) (w : CellWrite) → is_place at w.place ≡ true → writes_at at (writes ++ w ∷ []) ≡ writes_at at writes ++ w ∷ []
at_more at writes w is =
    let one : writes_at at (w ∷ []) ≡ w ∷ [] = rw is refl in
    filter-append (λ v. is_place at v.place) writes (w ∷ []) ∙ ap (λ (rest : List CellWrite). writes_at at writes ++ rest) one

pub at_other : (at : Place) (writes : List CellWrite) (w : CellWrite) → is_place at w.place ≡ false → writes_at at (writes ++ w ∷ []) ≡ writes_at at writes
at_other at writes w isnt =
    let one : writes_at at (w ∷ []) ≡ [] = rw isnt refl in
    filter-append (λ v. is_place at v.place) writes (w ∷ []) ∙ ap (λ (rest : List CellWrite). writes_at at writes ++ rest) one ∙ append-nil (writes_at at writes)

-- with one write less
pub at_without_other : (at : Place) (front : List CellWrite) (w : CellWrite) (back : List CellWrite) → is_place at w.place ≡ false → writes_at at (front ++ w ∷ back) ≡ writes_at at (front ++ back)
at_without_other at front w back isnt =
    let less : writes_at at (w ∷ back) ≡ writes_at at back = rw isnt refl in
    filter-append (λ v. is_place at v.place) front (w ∷ back) ∙ ap (λ (rest : List CellWrite). writes_at at front ++ rest) less
    ∙ sym (filter-append (λ v. is_place at v.place) front back)

pub at_last : (at : Place) (front : List CellWrite) (w : CellWrite) (back : List CellWrite) → is_place at w.place ≡ true → writes_at at back ≡ [] → writes_at at (front ++ w ∷ back) ≡ writes_at at front ++ w ∷ []
at_last at front w back is none =
    let one : writes_at at (w ∷ back) ≡ w ∷ writes_at at back = rw is refl in
    filter-append (λ v. is_place at v.place) front (w ∷ back)
    ∙ ap (λ (rest : List CellWrite). writes_at at front ++ rest) (one ∙ ap (λ (rest : List CellWrite). w ∷ rest) none)

pub at_front : (at : Place) (front back : List CellWrite) → writes_at at back ≡ [] → writes_at at (front ++ back) ≡ writes_at at front
at_front at front back none =
    filter-append (λ v. is_place at v.place) front back ∙ ap (λ (rest : List CellWrite). writes_at at front ++ rest) none ∙ append-nil (writes_at at front)

pub all_at_without : (P : CellWrite → Type 0) (at : Place) (front : List CellWrite) (w : CellWrite) (back : List CellWrite) → AllByRecursion P (writes_at at (front ++ w ∷ back)) → AllByRecursion P (writes_at at (front ++ back))
all_at_without P at front w back all = elim (cases_Bool (is_place at w.place)) [
  | inl is ↦
      let All : List CellWrite → Type 0 = AllByRecursion P in
      let one : writes_at at (w ∷ back) ≡ w ∷ writes_at at back = rw is refl in
      let split : writes_at at (front ++ w ∷ back) ≡ writes_at at front ++ w ∷ writes_at at back = filter-append (λ v. is_place at v.place) front (w ∷ back) ∙ ap (λ (rest : List CellWrite). writes_at at front ++ rest) one in
      subst All (sym (filter-append (λ v. is_place at v.place) front back)) (all_without P (writes_at at front) w (writes_at at back) (subst All split all))
  | inr isnt ↦
      let All : List CellWrite → Type 0 = AllByRecursion P in
      subst All (at_without_other at front w back isnt) all
]

-- ---- what writes lead to

pub leads_more : (cell : Option Row) (writes : List CellWrite) (w : CellWrite) → LeadsTo cell writes w.before → LeadsTo cell (writes ++ w ∷ []) w.after
leads_more cell [] w is = (sym is, refl)
leads_more cell (v ∷ writes) w is = (is.0, leads_more v.after writes w is.1)

pub leads_less : (cell now : Option Row) (writes : List CellWrite) (w : CellWrite) → LeadsTo cell (writes ++ w ∷ []) now → LeadsTo cell writes w.before
leads_less cell now [] w is = sym is.0
leads_less cell now (v ∷ writes) w is = (is.0, leads_less v.after now writes w is.1)

-- the cell that own writes lead to is its key's
pub led_own : (places : RowId → Option Place) (at : Place) (cell now : Option Row) (writes : List CellWrite) → ((row : Row) → cell ≡ Some row → places (row.table, row.key) ≡ Some at)
    → AllByRecursion (IsOwn places) writes → AllByRecursion (λ w. is_place at w.place ≡ true) writes → LeadsTo cell writes now → (row : Row) → now ≡ Some row → places (row.table, row.key) ≡ Some at
led_own places at cell now [] own all there leads row is = own row (leads ∙ is)
led_own places at cell now (w ∷ writes) own all there leads row is = led_own places at w.after now writes (of_write w all.0 there.0) all.1 there.1 leads.1 row is
  where
    free_or : (place : Option Row) (id : ℕ × ℕ) (row : Row) → IsFreeOr id place → place ≡ Some row → (row.table, row.key) ≡ id
    free_or None id row is e = absurd (cc)
    free_or (Some r) id row is e = let same : r ≡ row = cc in ap (λ (q : Row). (q.table, q.key)) (sym same) ∙ is

    of_write : (w : CellWrite) → IsOwn places w → is_place at w.place ≡ true → (row : Row) → w.after ≡ Some row → places (row.table, row.key) ≡ Some at
    of_write w is there row e =
        ap places (free_or w.after w.row row is.holds e) ∙ is.placed ∙ ap (λ (p : Place). Some p) (sym (same_place at w.place there))

-- no own write is at a place that no row has
pub none_at : (places : RowId → Option Place) (at : Place) (writes : List CellWrite) → AllByRecursion (IsOwn places) writes → ((id : RowId) → places id ≢ Some at) → writes_at at writes ≡ []
none_at places at writes own none = filter_no (λ w. is_place at w.place) writes (all_mapped (IsOwn places) (λ w. is_place at w.place ≡ false) not_there writes own)
  where
    not_there : (w : CellWrite) → IsOwn places w → is_place at w.place ≡ false
    not_there w is = elim (place_cases at w.place) [
      | inl here ↦ absurd (none w.row (is.placed ∙ ap (λ (p : Place). Some p) (sym here.1)))
      | inr other ↦ other.0
    ]

-- ---- rising numbers

pub rise_more : (writes : List CellWrite) (w : CellWrite) → AllByRecursion (λ v. v.lsn < w.lsn) writes → WritesRise writes → WritesRise (writes ++ w ∷ [])
rise_more [] w low rise = (tt, tt)
rise_more (v ∷ writes) w low rise = (append_one writes rise.0, rise_more writes w low.1 rise.1)
  where
    append_one : (xs : List CellWrite) → AllByRecursion (λ (x : CellWrite). v.lsn < x.lsn) xs → AllByRecursion (λ (x : CellWrite). v.lsn < x.lsn) (xs ++ w ∷ [])
    append_one [] all = (low.0, tt)
    append_one (x ∷ xs) all = (all.0, append_one xs all.1)

pub rise_filter : (p : CellWrite → Bool) (writes : List CellWrite) → WritesRise writes → WritesRise (filter p writes)
rise_filter p [] rise = tt
rise_filter p (w ∷ writes) rise = step (p w) refl (rise_filter p writes rise.1)
  where
    kept : (xs : List CellWrite) → AllByRecursion (λ (x : CellWrite). w.lsn < x.lsn) xs → AllByRecursion (λ (x : CellWrite). w.lsn < x.lsn) (filter p xs)
    kept [] all = tt
    kept (x ∷ xs) all = one (p x) refl (kept xs all.1)
      where
        one : (b : Bool) → p x ≡ b → AllByRecursion (λ (y : CellWrite). w.lsn < y.lsn) (filter p xs) → AllByRecursion (λ (y : CellWrite). w.lsn < y.lsn) (filter p (x ∷ xs))
        one true is rest = rw is (all.0, rest)
        one false is rest = rw is rest

    step : (b : Bool) → p w ≡ b → WritesRise (filter p writes) → WritesRise (filter p (w ∷ writes))
    step true is rest = rw is (kept writes rise.0, rest)
    step false is rest = rw is rest

pub rise_without : (front : List CellWrite) (w : CellWrite) (back : List CellWrite) → WritesRise (front ++ w ∷ back) → WritesRise (front ++ back)
rise_without [] w back rise = rise.1
rise_without (v ∷ front) w back rise = (all_without (λ x. v.lsn < x.lsn) front w back rise.0, rise_without front w back rise.1)

-- only one of rising writes has its number
pub one_number : (front : List CellWrite) (w : CellWrite) (back : List CellWrite) → WritesRise (front ++ w ∷ back) → filter (λ v. not (v.begin == w.begin && v.lsn == w.lsn)) (front ++ w ∷ back) ≡ front ++ back
one_number [] w back rise =
    let own : (w.lsn == w.lsn) ≡ true = eq-eqb w.lsn w.lsn refl in
    let of_it : (w.begin == w.begin) ≡ true = eq-eqb w.begin w.begin refl in
    rw of_it (rw own (filter_every (λ v. not (v.begin == w.begin && v.lsn == w.lsn)) back (all_mapped (λ v. w.lsn < v.lsn) (λ v. not (v.begin == w.begin && v.lsn == w.lsn) ≡ true) above back rise.0)))
  where
    above : (v : CellWrite) → w.lsn < v.lsn → not (v.begin == w.begin && v.lsn == w.lsn) ≡ true
    above v less = differ v.lsn w.lsn (λ e. absurd (omega (arith, less, e)))
      where
        differ : (m n : ℕ) → m ≢ n → not (v.begin == w.begin && m == n) ≡ true
        differ m n apart = elim (cases_Bool (m == n)) [
          | inl is ↦ absurd (apart (eqb-true m n is))
          | inr isnt ↦ ap not (and_right (v.begin == w.begin) (m == n) isnt)
        ]
one_number (v ∷ front) w back rise =
    let less : v.lsn < w.lsn = all_middle (λ x. v.lsn < x.lsn) front w back rise.0 in
    let other : (v.lsn == w.lsn) ≡ false = below v.lsn w.lsn less in
    let no : (v.begin == w.begin && v.lsn == w.lsn) ≡ false = and_right (v.begin == w.begin) (v.lsn == w.lsn) other in
    rw no (ap (λ (rest : List CellWrite). v ∷ rest) (one_number front w back rise.1))
  where
    below : (m n : ℕ) → m < n → (m == n) ≡ false
    below m n less = elim (cases_Bool (m == n)) [
      | inl is ↦ let e : m ≡ n = eqb-true m n is in absurd (omega (arith, less, e))
      | inr isnt ↦ isnt
    ]
