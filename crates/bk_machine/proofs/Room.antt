-- A group is full for a new row exactly where no cell of it is free.
use Rattle.std.proofs.Common.{◌≡◌, ◌<◌, ◌≤◌, ℕ, ◌+◌, ◌*◌, Bool, true, false, ◌&&◌, cond, List, [], ◌∷◌, length, map, Option, Some, None, inl, inr, refl, sym, ◌∙◌, ap, subst, arith, eqb}
use Rattle.std.specs.Prelude.{◌==◌, ◌||◌, nat_lt, is_some, flat_map}
use Rattle.std.specs.List.{filter, find, list_any, AllByRecursion}
use Rattle.std.proofs.lemmas.Bool.{cases_Bool}
use Rattle.std.proofs.lemmas.Bool.Decides.{nat_tests}
use Rattle.std.proofs.lemmas.List.{length-map}
use Rattle.std.proofs.lemmas.List.Folds.{list_any-append}
use Rattle.bk_ids.specs.declared.record.Place.{Place}
use Rattle.bk_world.specs.HomeLaws.{homed}
use Rattle.bk_lemmas.specs.Lists.{all_mapped}
use Rattle.bk_world.specs.Pending.{Pending, pending}
use Rattle.bk_world.specs.Places.{IsCellOf, IsFreePlace, homes, last_of, later, place_behind, place_of}
use Rattle.bk_world.specs.Records.{Logged, RowId, id_of, is_row}
use Rattle.bk_world.specs.RowLaws.{at_is, row-same}
use Rattle.bk_world.specs.Rows.{Rows}
use Rattle.bk_world.specs.Telling.{row_at, rows, tables}
use Rattle.bk_world.specs.declared.database.FileSpec.{FileSpec}
use Rattle.bk_world.specs.declared.database.TableSpec.{TableSpec}
use Rattle.bk_lemmas.specs.Tests.{clash}
use Rattle.bk_machine.specs.Built.{AreFilesApart, FreeCell, IsBuiltLog, LiesWell}
use Rattle.bk_machine.specs.Room.{AreOnce, each_once, group_extents, group_rows, has_row, in_group, is_full}
use Rattle.bk_machine.specs.Sound.{AreNumbered, IsLog}
use Rattle.bk_machine.proofs.Cells.{CellAt, cell-at, number-below, number-once, number_of}
use Rattle.bk_machine.proofs.Lying.{lies-alone, lies-well}
use Rattle.bk_machine.proofs.Numbers.{AllApart, Missing, at-most, once-apart, once-has, one-missing, row-true}

-- it can't be true and false
-- ---- which rows there are

eq-swap : (a b : ℕ) → (a == b) ≡ (b == a)
eq-swap a b = by (a == b) refl (b == a) refl
  where
    by : (x : Bool) → (a == b) ≡ x → (y : Bool) → (b == a) ≡ y → x ≡ y
    by true p true q = refl
    by true p false q = absurd (grind (arith, nat_tests, p, q))
    by false p true q = absurd (grind (arith, nat_tests, p, q))
    by false p false q = refl

rows-has : (n : ℕ) (es : Rows) (id : RowId) → has_row id (map (λ e. (n, e.0)) es) ≡ ((n == id.0) && is_some (row_at es id.1))
rows-has n [] id = by (n == id.0)
  where
    by : (t : Bool) → false ≡ (t && false)
    by true = refl
    by false = refl
rows-has n (e ∷ es) id =
    ap (λ b. ((id.0 == n) && (id.1 == e.0)) || b) (rows-has n es id)
    ∙ ap (λ a. (a && (id.1 == e.0)) || ((n == id.0) && is_some (row_at es id.1))) (eq-swap id.0 n)
    ∙ ap (λ a. ((n == id.0) && a) || ((n == id.0) && is_some (row_at es id.1))) (eq-swap id.1 e.0)
    ∙ by (n == id.0) (eqb e.0 id.1) ∙ ap (λ t. (n == id.0) && is_some (cond t (Some e.1) (row_at es id.1))) (sym (at_is id.1 e.0))
  where
    by : (a b : Bool) → ((a && b) || (a && is_some (row_at es id.1))) ≡ (a && is_some (cond b (Some e.1) (row_at es id.1)))
    by true true = refl
    by true false = refl
    by false b = refl

committed-has : (rs : List Logged) (ts : List TableSpec) (group : ℕ) (id : RowId)
    → has_row id (flat_map (λ (t : TableSpec). map (λ e. (t.number, e.0)) (rows rs t.number)) (filter (λ (t : TableSpec). t.group == group) ts)) ≡ (in_group ts group id && is_some (row_at (rows rs id.0) id.1))
committed-has rs [] group id = refl
committed-has rs (t ∷ ts) group id = by (t.group == group) (committed-has rs ts group id)
  where
    of : TableSpec → List RowId
    of = λ u. map (λ e. (u.number, e.0)) (rows rs u.number)

    others : List RowId
    others = flat_map (λ (u : TableSpec). map (λ e. (u.number, e.0)) (rows rs u.number)) (filter (λ (u : TableSpec). u.group == group) ts)

    own : (n : ℕ) → ((n == id.0) && is_some (row_at (rows rs n) id.1)) ≡ ((n == id.0) && is_some (row_at (rows rs id.0) id.1))
    own n = here (n == id.0) refl
      where
        here : (b : Bool) → (n == id.0) ≡ b → (b && is_some (row_at (rows rs n) id.1)) ≡ (b && is_some (row_at (rows rs id.0) id.1))
        here true is = let same : n ≡ id.0 = grind (arith, nat_tests, is) in ap (λ m. is_some (row_at (rows rs m) id.1)) same
        here false isnt = refl

    mix : (a b x : Bool) → ((a && x) || (b && x)) ≡ ((a && true || b) && x)
    mix true b true = refl
    mix true true false = refl
    mix true false false = refl
    mix false b x = refl

    skip : (a : Bool) → (a && false) ≡ false
    skip true = refl
    skip false = refl

    by : (g : Bool) → has_row id others ≡ (in_group ts group id && is_some (row_at (rows rs id.0) id.1))
        → has_row id (flat_map (λ (u : TableSpec). map (λ e. (u.number, e.0)) (rows rs u.number)) (cond g (t ∷ filter (λ (u : TableSpec). u.group == group) ts) (filter (λ (u : TableSpec). u.group == group) ts)))
        ≡ (((t.number == id.0 && g) || in_group ts group id) && is_some (row_at (rows rs id.0) id.1))
    by true same =
        list_any-append (is_row id) (of t) others ∙ ap (λ b. has_row id (of t) || b) same
        ∙ ap (λ b. b || (in_group ts group id && is_some (row_at (rows rs id.0) id.1))) (rows-has t.number (rows rs t.number) id ∙ own t.number)
        ∙ mix (t.number == id.0) (in_group ts group id) (is_some (row_at (rows rs id.0) id.1))
    by false same = same ∙ ap (λ b. (b || in_group ts group id) && is_some (row_at (rows rs id.0) id.1)) (sym (skip (t.number == id.0)))

pending-has : (test : RowId → Bool) (ws : List Pending) (id : RowId) → has_row id (filter test (map (λ (w : Pending). id_of w.change) ws)) ≡ (test id && is_some (last_of id ws))
pending-has test [] id = by (test id)
  where
    by : (t : Bool) → false ≡ (t && false)
    by true = refl
    by false = refl
pending-has test (w ∷ ws) id = by (is_row (id_of w.change) id) refl (test (id_of w.change)) refl (pending-has test ws id)
  where
    rest : List RowId
    rest = filter test (map (λ (v : Pending). id_of v.change) ws)

    swap : is_row id (id_of w.change) ≡ is_row (id_of w.change) id
    swap = ap (λ b. b && (id.1 == w.change.key)) (eq-swap id.0 w.change.table) ∙ ap (λ b. (w.change.table == id.0) && b) (eq-swap id.1 w.change.key)

    found : (l : Option Pending) → is_some (later l (Some w)) ≡ true
    found None = refl
    found (Some v) = refl

    same_last : (l : Option Pending) → later l None ≡ l
    same_last None = refl
    same_last (Some v) = refl

    and-true : (b : Bool) → (b && true) ≡ b
    and-true true = refl
    and-true false = refl

    by : (i : Bool) → is_row (id_of w.change) id ≡ i → (t : Bool) → test (id_of w.change) ≡ t → has_row id rest ≡ (test id && is_some (last_of id ws))
        → has_row id (cond t (id_of w.change ∷ rest) rest) ≡ (test id && is_some (later (last_of id ws) (cond i (Some w) None)))
    by true is true passes same =
        let own : test id ≡ true = ap test (sym (row-same (id_of w.change) id is)) ∙ passes in
        ap (λ b. b || has_row id rest) (swap ∙ is) ∙ sym (ap (λ b. test id && b) (found (last_of id ws)) ∙ and-true (test id) ∙ own)
    by true is false fails same =
        let own : test id ≡ false = ap test (sym (row-same (id_of w.change) id is)) ∙ fails in
        same ∙ ap (λ b. b && is_some (last_of id ws)) own ∙ sym (ap (λ b. b && is_some (later (last_of id ws) (Some w))) own)
    by false isnt true passes same = ap (λ b. b || has_row id rest) (swap ∙ isnt) ∙ same ∙ ap (λ l. test id && is_some l) (sym (same_last (last_of id ws)))
    by false isnt false fails same = same ∙ ap (λ l. test id && is_some l) (sym (same_last (last_of id ws)))

-- a row lies somewhere exactly where it is committed or a write of it is pending
has-place : (rs : List Logged) (id : RowId) → is_some (place_of rs id) ≡ (is_some (last_of id (pending rs)) || is_some (row_at (rows rs id.0) id.1))
unfolding place_of
has-place rs id = by (last_of id (pending rs))
  where
    by : (l : Option Pending) → is_some (place_behind l (homes rs id)) ≡ (is_some l || is_some (row_at (rows rs id.0) id.1))
    by (Some w) = refl
    by None = sym (homed rs id)

-- the rows of a group are those of its tables that lie somewhere
group-has : (rs : List Logged) (group : ℕ) (id : RowId) → has_row id (group_rows rs group) ≡ (in_group (tables rs) group id && is_some (place_of rs id))
group-has rs group id =
    list_any-append (is_row id) (flat_map (λ (t : TableSpec). map (λ e. (t.number, e.0)) (rows rs t.number)) (filter (λ (t : TableSpec). t.group == group) (tables rs))) (filter (in_group (tables rs) group) (map (λ (w : Pending). id_of w.change) (pending rs)))
    ∙ ap (λ b. b || has_row id (filter (in_group (tables rs) group) (map (λ (w : Pending). id_of w.change) (pending rs)))) (committed-has rs (tables rs) group id)
    ∙ ap (λ b. (in_group (tables rs) group id && is_some (row_at (rows rs id.0) id.1)) || b) (pending-has (in_group (tables rs) group) (pending rs) id)
    ∙ mix (in_group (tables rs) group id) (is_some (row_at (rows rs id.0) id.1)) (is_some (last_of id (pending rs)))
    ∙ ap (λ b. in_group (tables rs) group id && b) (sym (has-place rs id))
  where
    mix : (g x y : Bool) → ((g && x) || (g && y)) ≡ (g && (y || x))
    mix true true true = refl
    mix true true false = refl
    mix true false true = refl
    mix true false false = refl
    mix false x y = refl

-- ---- the count

pub number_at : List FileSpec → ℕ → Option Place → ℕ
number_at files group None = 0
number_at files group (Some at) = number_of files group at

each-there : (xs : List RowId) → AllByRecursion (λ x. has_row x xs ≡ true) xs
each-there [] = tt
each-there (x ∷ xs) = (ap (λ b. b || has_row x xs) (row-true x x refl), all_mapped (λ y. has_row y xs ≡ true) (λ y. has_row y (x ∷ xs) ≡ true) (λ y e. ap (λ b. is_row y x || b) e ∙ or-true (is_row y x)) xs (each-there xs))
  where
    or-true : (b : Bool) → (b || true) ≡ true
    or-true true = refl
    or-true false = refl

among : (f : RowId → ℕ) (id : RowId) (xs : List RowId) → has_row id xs ≡ true → list_any (λ x. x == f id) (map f xs) ≡ true
among f id [] e = absurd (cc)
among f id (x ∷ xs) e = by (is_row id x) refl e (among f id xs)
  where
    or-true : (b : Bool) → (b || true) ≡ true
    or-true true = refl
    or-true false = refl

    by : (t : Bool) → is_row id x ≡ t → (t || has_row id xs) ≡ true → (has_row id xs ≡ true → list_any (λ y. y == f id) (map f xs) ≡ true) → ((f x == f id) || list_any (λ y. y == f id) (map f xs)) ≡ true
    by true is there rest =
        let same : f x ≡ f id = ap f (sym (row-same id x is)) in
        let eq : (f x == f id) ≡ true = grind (arith, nat_tests, same) in
        ap (λ b. b || list_any (λ y. y == f id) (map f xs)) eq
    by false isnt there rest = ap (λ b. (f x == f id) || b) (rest there) ∙ or-true (f x == f id)

-- no two rows lie in one cell
abbrev AreAlone : List Logged → Type 0
AreAlone rs = (id other : RowId) (at : Place) → place_of rs id ≡ Some at → place_of rs other ≡ Some at → id ≡ other

-- a row lies in a cell of a group
pub record InCell (rs : List Logged) (files : List FileSpec) (group : ℕ) (id : RowId) : Type 0 where
  pub at : Place
  pub there : place_of rs id ≡ Some at
  pub is_cell : IsCellOf files group at

-- the number of its cell
abbrev pub number_in : List Logged → List FileSpec → ℕ → RowId → ℕ
number_in rs files group id = number_at files group (place_of rs id)

module _ (rs : List Logged) (files : List FileSpec) (group : ℕ) (one_row : AreAlone rs) where
  abbrev Placed : RowId → Type 0
  Placed = InCell rs files group

  abbrev number : RowId → ℕ
  number = number_in rs files group

  pub number-is : (id : RowId) (p : Placed id) → number id ≡ number_of files group p.at
  unfolding number_at
  number-is id p = ap (number_at files group) p.there

  pub row-one : (a b : RowId) → Placed a → Placed b → number a ≡ number b → a ≡ b
  row-one a b pa pb same =
      let one : pa.at ≡ pb.at = number-once files group pa.at pb.at pa.is_cell pb.is_cell (sym (number-is a pa) ∙ same ∙ number-is b pb) in
      one_row a b pb.at (pa.there ∙ ap (λ (p : Place). Some p) one) pb.there

  pub numbers-apart : (xs : List RowId) → AreOnce xs → AllByRecursion Placed xs → AllApart (map number xs)
  numbers-apart [] apart all = tt
  numbers-apart (x ∷ xs) apart all = (others xs apart.0 all.1, numbers-apart xs apart.1 all.1)
    where
      others : (ys : List RowId) → has_row x ys ≡ false → AllByRecursion Placed ys → AllByRecursion (λ n. (n == number x) ≡ false) (map number ys)
      others [] none placed_all = tt
      others (y ∷ ys) none placed_all = by (is_row x y) refl none (others ys)
        where
          by : (t : Bool) → is_row x y ≡ t → (t || has_row x ys) ≡ false → (has_row x ys ≡ false → AllByRecursion Placed ys → AllByRecursion (λ n. (n == number x) ≡ false) (map number ys))
              → ((number y == number x) ≡ false) × AllByRecursion (λ n. (n == number x) ≡ false) (map number ys)
          by true is wrong rest = absurd (cc)
          by false isnt none2 rest = (
            elim (cases_Bool (number y == number x)) [
              | inl same ↦ clash (is_row x y) (row-true x y (sym (row-one y x placed_all.0 all.0 (grind (arith, nat_tests, same))))) isnt
              | inr other ↦ other
            ],
            rest none2 placed_all.1,
          )

  pub numbers-below : (xs : List RowId) → AllByRecursion Placed xs → AllByRecursion (λ n. n < 504 * group_extents files group) (map number xs)
  numbers-below [] all = tt
  numbers-below (x ∷ xs) all = (subst (λ n. n < 504 * group_extents files group) (sym (number-is x all.0)) (number-below files group all.0.at all.0.is_cell), numbers-below xs all.1)

-- the rows of a group lie in its cells, no others do, and no two rows lie in one cell
record ArePlaces (rs : List Logged) (files : List FileSpec) (group : ℕ) : Type 0 where
  within : (id : RowId) (at : Place) → place_of rs id ≡ Some at → in_group (tables rs) group id ≡ true → IsCellOf files group at
  others : (id : RowId) (at : Place) → place_of rs id ≡ Some at → IsCellOf files group at → in_group (tables rs) group id ≡ true
  alone : AreAlone rs

module _ (rs : List Logged) (files : List FileSpec) (group : ℕ) (apart : AreFilesApart files) (are : ArePlaces rs files group) where
  its : List RowId
  its = each_once (group_rows rs group)

  abbrev Its : RowId → Type 0
  Its = InCell rs files group

  abbrev number_its : RowId → ℕ
  number_its = number_in rs files group

  placed : (id : RowId) → has_row id its ≡ true → Its id
  unfolding its
  placed id e = by (in_group (tables rs) group id) refl (place_of rs id) refl (sym (sym (once-has id (group_rows rs group)) ∙ e) ∙ group-has rs group id)
    where
      by : (g : Bool) → in_group (tables rs) group id ≡ g → (p : Option Place) → place_of rs id ≡ p → true ≡ (in_group (tables rs) group id && is_some (place_of rs id)) → Its id
      by true own (Some at) is both = record { at = at; there = is; is_cell = are.within id at is own }
      by true own None is both = let wrong : true ≡ false = both ∙ ap (λ g. g && is_some (place_of rs id)) own ∙ ap is_some is in absurd (cc)
      by false own p is both = let wrong : true ≡ false = both ∙ ap (λ g. g && is_some (place_of rs id)) own in absurd (cc)

  all_placed : AllByRecursion Its its
  all_placed = all_mapped (λ x. has_row x its ≡ true) Its (λ x e. placed x e) its (each-there its)

  -- a row that lies nowhere comes on top
  one_more : (id : RowId) → place_of rs id ≡ None → length (each_once (id ∷ group_rows rs group)) ≡ length its + 1
  unfolding its
  one_more id none = ap (λ t. length (cond t (each_once (group_rows rs group)) (id ∷ each_once (group_rows rs group)))) (group-has rs group id ∙ ap (λ p. in_group (tables rs) group id && is_some p) none ∙ skip (in_group (tables rs) group id)) ∙ omega arith
    where
      skip : (b : Bool) → (b && false) ≡ false
      skip true = refl
      skip false = refl

  -- with a free cell the group isn't full
  has-room : (id : RowId) (at : Place) → place_of rs id ≡ None → IsCellOf files group at → IsFreePlace rs at → nat_lt (504 * group_extents files group) (length (each_once (id ∷ group_rows rs group))) ≡ false
  unfolding its
  has-room id at none cell free =
      let few : length (number_of files group at ∷ map number_its its) ≤ 504 * group_extents files group =
      at-most (504 * group_extents files group) (number_of files group at ∷ map number_its its) (not_its its all_placed, numbers-apart rs files group are.alone its own_apart all_placed) (number-below files group at cell, numbers-below rs files group are.alone its all_placed) in
      let same : length (map number_its its) ≡ length its = length-map its number_its in
      let count : length (each_once (id ∷ group_rows rs group)) ≡ length its + 1 = one_more id none in
      grind (arith, nat_tests, few, same, count)
    where
      own_apart : AreOnce its
      own_apart = once-apart (group_rows rs group)

      not_its : (xs : List RowId) → AllByRecursion Its xs → AllByRecursion (λ n. (n == number_of files group at) ≡ false) (map number_its xs)
      not_its [] all = tt
      not_its (x ∷ xs) all = (
        elim (cases_Bool (number_its x == number_of files group at)) [
          | inl same ↦
              let one : all.0.at ≡ at = number-once files group all.0.at at all.0.is_cell cell (sym (number-is rs files group are.alone x all.0) ∙ grind (arith, nat_tests, same)) in
              absurd (free x (all.0.there ∙ ap (λ (p : Place). Some p) one))
          | inr other ↦ other
        ],
        not_its xs all.1,
      )

  -- and where it isn't full there is one
  finds-room : (id : RowId) → place_of rs id ≡ None → nat_lt (504 * group_extents files group) (length (each_once (id ∷ group_rows rs group))) ≡ false → FreeCell rs files group
  unfolding its number_at
  finds-room id none room =
      let count : length (each_once (id ∷ group_rows rs group)) ≡ length its + 1 = one_more id none in
      let same : length (map number_its its) ≡ length its = length-map its number_its in
      let less : length (map number_its its) < 504 * group_extents files group = grind (arith, nat_tests, room, count, same) in
      let found : Missing (504 * group_extents files group) (map number_its its) = one-missing (504 * group_extents files group) (map number_its its) less in
      let cell : CellAt files group found.number = cell-at files group found.number apart found.below in
      record { at = cell.at; cell = cell.is_cell; free = λ other there. taken found cell other there }
    where
      taken : (found : Missing (504 * group_extents files group) (map number_its its)) (cell : CellAt files group found.number) (other : RowId) → place_of rs other ≡ Some cell.at → ⊥
      taken found cell other there =
          let own : in_group (tables rs) group other ≡ true = are.others other cell.at there cell.is_cell in
          let has : has_row other its ≡ true = once-has other (group_rows rs group) ∙ group-has rs group other ∙ ap (λ b. b && is_some (place_of rs other)) own ∙ ap is_some there in
          let is : number_its other ≡ found.number = ap (number_at files group) there ∙ cell.number in
          clash (list_any (λ x. x == found.number) (map number_its its)) (ap (λ n. list_any (λ x. x == n) (map number_its its)) (sym is) ∙ among number_its other its has) found.none

  -- a row of the group that lies somewhere fits, too
  own-room : (id : RowId) (at : Place) → place_of rs id ≡ Some at → in_group (tables rs) group id ≡ true → nat_lt (504 * group_extents files group) (length (each_once (id ∷ group_rows rs group))) ≡ false
  unfolding its
  own-room id at there own =
      let has : has_row id (group_rows rs group) ≡ true = group-has rs group id ∙ ap (λ g. g && is_some (place_of rs id)) own ∙ ap is_some there in
      let same : length (each_once (id ∷ group_rows rs group)) ≡ length its = ap (λ t. length (cond t (each_once (group_rows rs group)) (id ∷ each_once (group_rows rs group)))) has in
      let few : length (map number_its its) ≤ 504 * group_extents files group =
      at-most (504 * group_extents files group) (map number_its its) (numbers-apart rs files group are.alone its (once-apart (group_rows rs group)) all_placed) (numbers-below rs files group are.alone its all_placed) in
      let count : length (map number_its its) ≡ length its = length-map its number_its in
      grind (arith, nat_tests, few, same, count)

-- ---- tables and their groups

-- where tables are numbered in their order, a row is of the group of its table
group-is : (n : ℕ) (made : List TableSpec) (group : ℕ) (id : RowId) (t : TableSpec) → AreNumbered n made → find (λ (m : TableSpec). m.number == id.0) made ≡ Some t → in_group made group id ≡ (t.group == group)
group-is n [] group id t are e = absurd (cc)
group-is n (m ∷ made) group id t are e = by (m.number == id.0) refl e (group-is (n + 1) made group id t are.1)
  where
    above : (k : ℕ) (rest : List TableSpec) → id.0 < k → AreNumbered k rest → in_group rest group id ≡ false
    above k [] lt all = refl
    above k (u ∷ rest) lt all =
        let other : (u.number == id.0) ≡ false = grind (arith, nat_tests, lt, all.0) in
        ap (λ b. (b && (u.group == group)) || in_group rest group id) other ∙ above (k + 1) rest (omega (arith, lt)) all.1

    no-more : (b : Bool) → (b || false) ≡ b
    no-more true = refl
    no-more false = refl

    by : (b : Bool) → (m.number == id.0) ≡ b → cond b (Some m) (find (λ (u : TableSpec). u.number == id.0) made) ≡ Some t → (find (λ (u : TableSpec). u.number == id.0) made ≡ Some t → in_group made group id ≡ (t.group == group))
        → ((b && (m.group == group)) || in_group made group id) ≡ (t.group == group)
    by true is there rest =
        let same : m ≡ t = cc in
        let lt : id.0 < n + 1 = grind (arith, nat_tests, is, are.0) in
        ap (λ b. (m.group == group) || b) (above (n + 1) made lt are.1) ∙ no-more (m.group == group) ∙ ap (λ (u : TableSpec). u.group == group) same
    by false isnt there rest = rest there

-- a cell is of one group
one-group : (files : List FileSpec) (a b : ℕ) (at : Place) → IsCellOf files a at → IsCellOf files b at → a ≡ b
one-group files a b at one two =
    let same : Some one.file ≡ Some two.file = sym one.there ∙ two.there in
    let file : one.file ≡ two.file = cc in
    sym one.of_group ∙ ap (λ (f : FileSpec). f.group) file ∙ two.of_group

module _ (files : List FileSpec) (rs : List Logged) (end : ℕ) (is : IsLog files rs end) (built : IsBuiltLog files rs) where
  pub well : (id : RowId) (at : Place) → place_of rs id ≡ Some at → LiesWell files (tables rs) id at
  well = lies-well files rs is.sound is.places built.loads

  pub alone : (a b : RowId) (at : Place) → place_of rs a ≡ Some at → place_of rs b ≡ Some at → a ≡ b
  alone = lies-alone files rs is.sound is.places built.loads

  are : (group : ℕ) → ArePlaces rs files group
  are group = record {
    within = λ id at there own.
        let lies : LiesWell files (tables rs) id at = well id at there in
        let test : (lies.table.group == group) ≡ true = sym (group-is 1 (tables rs) group id lies.table is.tables lies.there) ∙ own in
        let same : lies.table.group ≡ group = grind (arith, nat_tests, test) in
        subst (λ g. IsCellOf files g at) same lies.cell;
    others = λ id at there cell.
        let lies : LiesWell files (tables rs) id at = well id at there in
        let same : lies.table.group ≡ group = one-group files lies.table.group group at lies.cell cell in
        let test : (lies.table.group == group) ≡ true = grind (arith, nat_tests, same) in
        group-is 1 (tables rs) group id lies.table is.tables lies.there ∙ test;
    alone = alone;
  }

  pub full-where : (group : ℕ) (id : RowId) → place_of rs id ≡ None → FreeCell rs files group → is_full rs files group (id ∷ []) ≡ false
  unfolding is_full
  full-where group id none free = has-room rs files group built.apart (are group) id free.at none free.cell free.free

  pub room-where : (group : ℕ) (id : RowId) → place_of rs id ≡ None → is_full rs files group (id ∷ []) ≡ false → FreeCell rs files group
  unfolding is_full
  room-where group id none room = finds-room rs files group built.apart (are group) id none room

  pub own-where : (id : RowId) (at : Place) (t : TableSpec) → place_of rs id ≡ Some at → find (λ (m : TableSpec). m.number == id.0) (tables rs) ≡ Some t → is_full rs files t.group (id ∷ []) ≡ false
  unfolding is_full
  own-where id at t lies there =
      let test : (t.group == t.group) ≡ true = grind (arith, nat_tests) in
      own-room rs files t.group built.apart (are t.group) id at lies (group-is 1 (tables rs) t.group id t is.tables there ∙ test)
