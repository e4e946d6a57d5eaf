-- Rows that are found cell by cell.
use Rattle.std.proofs.Common.{◌≡◌, ◌<◌, ◌≤◌, ◌⊎◌, ℕ, zero, suc, ◌+◌, Bool, true, false, cond, List, [], ◌∷◌, ◌++◌, length, get_or, Option, Some, None, refl, sym, ◌∙◌, ap, ap₂, subst, inl, inr, arith}
use Rattle.std.specs.Prelude.{◌==◌, ◌&&◌, slice_get}
use Rattle.std.specs.Cmp.{nat_cmp_is}
use Rattle.std.specs.Ordering.{is_lt, nat_cmp, ordering_then}
use Rattle.std.specs.declared.cmp.Ordering.{Ordering}
use Rattle.std.specs.declared.cmp.Ordering.TheVariants.{Less, Equal}
use Rattle.std.specs.List.{All, AllByRecursion, Contains, count_by, find}
use Rattle.std.specs.List.Sorted.{IsPermutation}
use Rattle.std.proofs.lemmas.List.{get_or_append_left, get_or_push, length-append}
use Rattle.std.proofs.lemmas.Bool.{and_from, and_parts, cases_lt, eq-eqb, eqb-true}
use Rattle.std.proofs.lemmas.Option.{same_Some}
use Rattle.std.proofs.lemmas.List.Elements.{All-from_recursion, recursion_from_All}
use Rattle.std.proofs.lemmas.List.Sorted.{All-permutation, Contains-permutation, sum_by-IsPermutation}
use Rattle.std.proofs.lemmas.List.Sums.{sum_by-append, sum_by-cons}
use Rattle.bk_bytes.specs.Cell.{Row}
use Rattle.bk_facts.specs.declared.facts.DataFile.{DataFile}
use Rattle.bk_ids.specs.declared.record.Place.{Place}
use Rattle.bk_lemmas.specs.Lists.{all_joined, all_mapped}
use Rattle.bk_lemmas.specs.Tests.{equal_or_not}
use Rattle.bk_paged.specs.Names.{pages_in}
use Rattle.bk_undo.specs.Cells.{is_place}
use Rattle.bk_world.specs.PlacedRows.{ComesBefore, RowsRise, row_id}
use Rattle.bk_world.specs.Records.{RowId, is_row}
use Rattle.bk_world.specs.declared.row.PlacedRow.{PlacedRow}
use Rattle.bk_reopening.specs.Cells.{AreAll, AreFound, AreRowsIn, DontFall, IsBefore, IsCellIn, cell_in, placed}

-- ---- lists

pub contains-more : {X : Type 0} (xs : List X) (y x : X) → Contains xs x → Contains (xs ++ y ∷ []) x
contains-more xs y x has = (has.0, omega (arith, has.1, length-append xs (y ∷ [])), get_or_append_left xs (y ∷ []) x has.0 has.1 ∙ has.2)

pub contains-last : {X : Type 0} (xs : List X) (y : X) → Contains (xs ++ y ∷ []) y
contains-last xs y = (length xs, omega (arith, length-append xs (y ∷ [])), get_or_push xs y y (length xs) refl)

-- what is found of some that all have a property has it, and passes the test
pub find-all : {X : Type 0} (P : X → Type 0) (p : X → Bool) (xs : List X) (x : X) → AllByRecursion P xs → find p xs ≡ Some x → P x × (p x ≡ true)
find-all P p [] x all e = absurd (cc)
find-all {X} P p (y ∷ xs) x all e = by (p y) refl e (λ rest. find-all P p xs x all.1 rest)
  where
    by : (t : Bool) → p y ≡ t → cond t (Some y) (find p xs) ≡ Some x → (find p xs ≡ Some x → P x × (p x ≡ true)) → P x × (p x ≡ true)
    by true is e rest = let same : y ≡ x = same_Some y x e in (subst P same all.0, subst (λ (z : X). p z ≡ true) same is)
    by false is e rest = rest e

find-at : {X : Type 0} (p : X → Bool) (x : X) → p x ≡ true → (ys : List X) (k : ℕ) → k < length ys → get_or ys k x ≡ x → find p ys ≡ None → ⊥
find-at p x is [] k low e none = omega (arith, low)
find-at {X} p x is (y ∷ ys) zero low e none = by (p y) (ap p e ∙ is) none
  where
    by : (t : Bool) → t ≡ true → cond t (Some y) (find p ys) ≡ None → ⊥
    by true is none = absurd (cc)
    by false is none = absurd (cc)
find-at {X} p x is (y ∷ ys) (suc k) low e none = by (p y) none (λ rest. find-at p x is ys k (omega (arith, low)) e rest)
  where
    by : (t : Bool) → cond t (Some y) (find p ys) ≡ None → (find p ys ≡ None → ⊥) → ⊥
    by true none rest = absurd (cc)
    by false none rest = rest none

-- where an element passes the test, something is found
pub find-has : {X : Type 0} (p : X → Bool) (xs : List X) (x : X) → Contains xs x → p x ≡ true → find p xs ≡ None → ⊥
find-has {X} p xs x has is none = find-at p x is xs has.0 has.1 has.2 none

-- how many pass a test, with one more in front
pub count-cons : {X : Type 0} (p : X → Bool) (x : X) (xs : List X) → count_by p (x ∷ xs) ≡ cond (p x) 1 0 + count_by p xs
count-cons {X} p x xs = sum_by-cons (λ (y : X). cond (p y) 1 0) x xs

pub count-none : {X : Type 0} (p : X → Bool) (xs : List X) → AllByRecursion (λ (x : X). p x ≡ false) xs → count_by p xs ≡ 0
count-none p [] none = refl
count-none p (x ∷ xs) none = count-cons p x xs ∙ ap (λ (b : Bool). cond b 1 0 + count_by p xs) none.0 ∙ omega (arith, count-none p xs none.1)

-- where each that passes one test passes another, no more pass that one
pub count-more : {X : Type 0} (p q : X → Bool) (xs : List X) → AllByRecursion (λ (x : X). p x ≡ true → q x ≡ true) xs → count_by p xs ≤ count_by q xs
count-more p q [] all = omega arith
count-more p q (x ∷ xs) all = omega (arith, count-cons p x xs, count-cons q x xs, count-more p q xs all.1, one (p x) (q x) all.0)
  where
    one : (s t : Bool) → (s ≡ true → t ≡ true) → cond s 1 0 ≤ cond t 1 0
    one false t more = omega arith
    one true true more = omega arith
    one true false more = let both : true ≡ false = sym (more refl) in absurd (cc)

-- ---- the order of cells

pub place-same : (a b : Place) → a.file ≡ b.file → a.page ≡ b.page → a.slot ≡ b.slot → a ≡ b
place-same a b file page slot =
    ap (λ (f : ℕ). let p : Place = record { file = f; page = a.page; slot = a.slot } in p) file
    ∙ ap (λ (n : ℕ). let p : Place = record { file = b.file; page = n; slot = a.slot } in p) page
    ∙ ap (λ (s : ℕ). let p : Place = record { file = b.file; page = b.page; slot = s } in p) slot

pub is_place-same : (a b : Place) → is_place a b ≡ true → a ≡ b
is_place-same a b is =
    let one = and_parts (a.file == b.file) ((a.page == b.page) && (a.slot == b.slot)) is in
    let two = and_parts (a.page == b.page) (a.slot == b.slot) one.1 in
    place-same a b (eqb-true a.file b.file one.0) (eqb-true a.page b.page two.0) (eqb-true a.slot b.slot two.1)

-- a cell isn't before itself
before-itself : (at : Place) → IsBefore at.file at.page at.slot at → ⊥
before-itself at before = elim before [
  | inl low ↦ omega (arith, low)
  | inr here ↦ elim here.1 [
    | inl page ↦ omega (arith, page)
    | inr slot ↦ omega (arith, slot.1)
  ]
]

-- a cell before this one is before the next
before-later : (at other : Place) → IsBefore at.file at.page at.slot other → IsBefore at.file at.page (at.slot + 1) other
before-later at other before = elim before [
  | inl low ↦ inl low
  | inr here ↦ elim here.1 [
    | inl page ↦ inr (here.0, inl page)
    | inr slot ↦ inr (here.0, inr (slot.0, omega (arith, slot.1)))
  ]
]

-- a cell before the end of a page is before the next page
before-next_page : (file page : ℕ) (at : Place) → IsBefore file page 63 at → IsBefore file (page + 1) 0 at
before-next_page file page at before = elim before [
  | inl low ↦ inl low
  | inr here ↦ elim here.1 [
    | inl less ↦ inr (here.0, inl (omega (arith, less)))
    | inr slot ↦ inr (here.0, inl (omega (arith, slot.0)))
  ]
]

-- a cell before a page of a file is before the next file
before-next_file : (file page : ℕ) (at : Place) → IsBefore file page 0 at → IsBefore (file + 1) 0 0 at
before-next_file file page at before = elim before [
  | inl low ↦ inl (omega (arith, low))
  | inr here ↦ inl (omega (arith, here.0))
]

-- a cell before the next one is before this one, or this one
pub before-next : (at other : Place) → IsBefore at.file at.page (at.slot + 1) other → IsBefore at.file at.page at.slot other ⊎ (other ≡ at)
before-next at other before = elim before [
  | inl low ↦ inl (inl low)
  | inr here ↦ elim here.1 [
    | inl page ↦ inl (inr (here.0, inl page))
    | inr slot ↦ elim (equal_or_not other.slot at.slot) [
      | inl same ↦ inr (place-same other at here.0 slot.0 same)
      | inr differ ↦ inl (inr (here.0, inr (slot.0, omega (arith, slot.1, differ))))
    ]
  ]
]

-- behind a page's last cell the next page begins
before-page : (file page : ℕ) (at : Place) → at.slot < 63 → IsBefore file (page + 1) 0 at → IsBefore file page 63 at
before-page file page at low before = elim before [
  | inl file_low ↦ inl file_low
  | inr here ↦ elim here.1 [
    | inl next ↦ elim (equal_or_not at.page page) [
      | inl same ↦ inr (here.0, inr (same, low))
      | inr differ ↦ inr (here.0, inl (omega (arith, next, differ)))
    ]
    | inr slot ↦ absurd (omega (arith, slot.1))
  ]
]

-- behind a file's last page the next file begins
before-file : (files : List DataFile) (file : ℕ) (at : Place) → IsCellIn files at → IsBefore (file + 1) 0 0 at → IsBefore file (pages_in files file) 0 at
before-file files file at is before = elim before [
  | inl next ↦ elim (equal_or_not at.file file) [
    | inl same ↦ inr (same, inl (subst (λ (f : ℕ). at.page < pages_in files f) same is.page))
    | inr differ ↦ inl (omega (arith, next, differ))
  ]
  | inr here ↦ elim here.1 [
    | inl page ↦ absurd (omega (arith, page))
    | inr slot ↦ absurd (omega (arith, slot.1))
  ]
]

-- no page lies before the first file, and none behind the last one
none-first : (files : List DataFile) (at : Place) → IsCellIn files at → IsBefore 1 0 0 at → ⊥
none-first files at is before = elim before [
  | inl low ↦ let zeroth : at.file ≡ 0 = omega (arith, low) in omega (arith, subst (λ (f : ℕ). at.page < pages_in files f) zeroth is.page)
  | inr here ↦ elim here.1 [
    | inl page ↦ omega (arith, page)
    | inr slot ↦ omega (arith, slot.1)
  ]
]

-- ---- what was found so far

pub found-none : (cells : Place → Option Row) (files : List DataFile) → AreFound cells files 1 0 0 []
found-none cells files = record {
  used = All-from_recursion (λ (row : PlacedRow). cells row.place ≡ Some (cell_in row)) [] tt;
  among = All-from_recursion (λ (row : PlacedRow). IsBefore 1 0 0 row.place) [] tt;
  apart = λ at. omega arith;
  there = λ at row is before same. absurd (none-first files at is before);
}

module _ (cells : Place → Option Row) (files : List DataFile) (rows : List PlacedRow) (at : Place) (found : AreFound cells files at.file at.page at.slot rows) where
  abbrev Used : PlacedRow → Type 0
  Used row = cells row.place ≡ Some (cell_in row)

  abbrev Before : PlacedRow → Type 0
  Before row = IsBefore at.file at.page (at.slot + 1) row.place

  was : AllByRecursion Before rows
  was = all_mapped (λ (row : PlacedRow). IsBefore at.file at.page at.slot row.place) Before (λ (row : PlacedRow) before. before-later at row.place before) rows
      (recursion_from_All (λ (row : PlacedRow). IsBefore at.file at.page at.slot row.place) rows found.among)

  -- no row that was found lies here
  none-here : AllByRecursion (λ (row : PlacedRow). is_place row.place at ≡ false) rows
  none-here = all_mapped (λ (row : PlacedRow). IsBefore at.file at.page at.slot row.place) (λ (row : PlacedRow). is_place row.place at ≡ false) (λ (row : PlacedRow) before. by row before (is_place row.place at) refl) rows
      (recursion_from_All (λ (row : PlacedRow). IsBefore at.file at.page at.slot row.place) rows found.among)
    where
      by : (row : PlacedRow) → IsBefore at.file at.page at.slot row.place → (t : Bool) → is_place row.place at ≡ t → is_place row.place at ≡ false
      by row before true is = absurd (before-itself at (subst (IsBefore at.file at.page at.slot) (is_place-same row.place at is) before))
      by row before false isnt = isnt

  pub found-row : (row : Row) → cells at ≡ Some row → AreFound cells files at.file at.page (at.slot + 1) (rows ++ placed at row ∷ [])
  found-row row is = record {
    used = All-from_recursion Used (rows ++ placed at row ∷ []) (all_joined Used rows (placed at row ∷ []) (recursion_from_All Used rows found.used) (is, tt));
    among = All-from_recursion Before (rows ++ placed at row ∷ []) (all_joined Before rows (placed at row ∷ []) was (inr (refl, inr (refl, omega arith)), tt));
    apart = λ other. count other (is_place at other) refl;
    there = λ other r cell before e. elim (before-next at other before) [
      | inl old ↦ contains-more rows (placed at row) (placed other r) (found.there other r cell old e)
      | inr same ↦
          let its : r ≡ row = same_Some r row (sym e ∙ ap cells same ∙ is) in
          let one : placed at row ≡ placed other r = ap (λ (p : Place). placed p row) (sym same) ∙ ap (placed other) (sym its) in
          subst (Contains (rows ++ placed at row ∷ [])) one (contains-last rows (placed at row))
    ];
  }
    where
      joined : (other : Place) → count_by (λ (r : PlacedRow). is_place r.place other) (rows ++ placed at row ∷ []) ≡ count_by (λ (r : PlacedRow). is_place r.place other) rows + cond (is_place at other) 1 0
      joined other =
          sum_by-append (λ (r : PlacedRow). cond (is_place r.place other) 1 0) rows (placed at row ∷ [])
          ∙ ap (λ (n : ℕ). count_by (λ (r : PlacedRow). is_place r.place other) rows + n) (count-cons (λ (r : PlacedRow). is_place r.place other) (placed at row) [] ∙ omega arith)

      count : (other : Place) (t : Bool) → is_place at other ≡ t → count_by (λ (r : PlacedRow). is_place r.place other) (rows ++ placed at row ∷ []) ≤ 1
      count other true same =
          let none : count_by (λ (r : PlacedRow). is_place r.place other) rows ≡ 0 = ap (λ (p : Place). count_by (λ (r : PlacedRow). is_place r.place p) rows) (sym (is_place-same at other same)) ∙ count-none (λ (r : PlacedRow). is_place r.place at) rows none-here in
          omega (arith, joined other ∙ ap (λ (b : Bool). count_by (λ (r : PlacedRow). is_place r.place other) rows + cond b 1 0) same, none)
      count other false differs = omega (arith, joined other ∙ ap (λ (b : Bool). count_by (λ (r : PlacedRow). is_place r.place other) rows + cond b 1 0) differs, found.apart other)

  pub found-free : cells at ≡ None → AreFound cells files at.file at.page (at.slot + 1) rows
  found-free free = record {
    used = found.used;
    among = All-from_recursion Before rows was;
    apart = found.apart;
    there = λ other r cell before e. elim (before-next at other before) [
      | inl old ↦ found.there other r cell old e
      | inr same ↦ let none : Some r ≡ None = sym e ∙ ap cells same ∙ free in absurd (cc)
    ];
  }

-- what was found before one cell is what was found before another, where no cell lies between them
found-moved : (cells : Place → Option Row) (files : List DataFile) (rows : List PlacedRow) (Old New : Place → Type 0) → ((at : Place) → Old at → New at) → ((at : Place) → IsCellIn files at → New at → Old at) → AreRowsIn cells files Old rows → AreRowsIn cells files New rows
found-moved cells files rows Old New later back found = record {
  used = found.used;
  among = All-from_recursion (λ (row : PlacedRow). New row.place) rows (all_mapped (λ (row : PlacedRow). Old row.place) (λ (row : PlacedRow). New row.place) (λ (row : PlacedRow) old. later row.place old) rows (recursion_from_All (λ (row : PlacedRow). Old row.place) rows found.among));
  apart = found.apart;
  there = λ at r is new e. found.there at r is (back at is new) e;
}

pub found-page : (cells : Place → Option Row) (files : List DataFile) (rows : List PlacedRow) (file page : ℕ) → AreFound cells files file page 63 rows → AreFound cells files file (page + 1) 0 rows
found-page cells files rows file page found = found-moved cells files rows (IsBefore file page 63) (IsBefore file (page + 1) 0) (before-next_page file page) (λ at is before. before-page file page at is.slot before) found

pub found-file : (cells : Place → Option Row) (files : List DataFile) (rows : List PlacedRow) (file : ℕ) → AreFound cells files file (pages_in files file) 0 rows → AreFound cells files (file + 1) 0 0 rows
found-file cells files rows file found =
    found-moved cells files rows (IsBefore file (pages_in files file) 0) (IsBefore (file + 1) 0 0) (before-next_file file (pages_in files file)) (λ at is before. before-file files file at is before) found

-- sorting keeps what was found
pub found-sorted : (cells : Place → Option Row) (files : List DataFile) (rows sorted : List PlacedRow) → IsPermutation rows sorted → AreAll cells files rows → AreAll cells files sorted
found-sorted cells files rows sorted moves all = record {
  among = All-permutation (λ (row : PlacedRow). Unit {0}) rows sorted moves all.among;
  apart = λ at. omega (arith, all.apart at, sum_by-IsPermutation (λ (row : PlacedRow). cond (is_place row.place at) 1 0) rows sorted moves);
  used = All-permutation (λ (row : PlacedRow). cells row.place ≡ Some (cell_in row)) rows sorted moves all.used;
  there = λ at r is any e. Contains-permutation rows sorted (placed at r) moves (all.there at r is any e);
}

-- ---- all cells

in-list : (files : List DataFile) (i page : ℕ) → page < Rattle.std.specs.Option.option_map_or (λ (f : DataFile). f.pages) (slice_get files i) 0 → i < length files
in-list [] i page low = absurd (omega (arith, low))
in-list (f ∷ files) zero page low = omega arith
in-list (f ∷ files) (suc i) page low = omega (arith, in-list files i page low)

in-files : (files : List DataFile) (file page : ℕ) → page < pages_in files file → file < length files + 1
in-files files zero page low = omega arith
in-files files (suc i) page low = omega (arith, in-list files i page low)

-- behind the last file nothing is left
pub found-all : (cells : Place → Option Row) (files : List DataFile) (rows : List PlacedRow) → AreFound cells files (length files + 1) 0 0 rows → AreAll cells files rows
found-all cells files rows found =
    found-moved cells files rows (IsBefore (length files + 1) 0 0) (λ at. Unit {0}) (λ at before. tt) (λ at is any. inl (in-files files at.file at.page is.page)) found

-- ---- rows that rise

-- what the order of tables and keys answers
less : (a b : PlacedRow) → ComesBefore a b → is_lt (ordering_then (nat_cmp a.table b.table) (nat_cmp a.key b.key)) ≡ true
less a b before = elim before [
  | inl table ↦ ap (λ (o : Ordering). is_lt (ordering_then o (nat_cmp a.key b.key))) (sym (nat_cmp_is a.table b.table Less table))
  | inr same ↦
      ap (λ (o : Ordering). is_lt (ordering_then o (nat_cmp a.key b.key))) (sym (nat_cmp_is a.table b.table Equal same.0))
      ∙ ap (λ (o : Ordering). is_lt o) (sym (nat_cmp_is a.key b.key Less same.1))
]

-- a row that isn't less than the one in front of it doesn't come before it
pub not-before : (rows : List PlacedRow) (k : ℕ) (d : PlacedRow) → is_lt (ordering_then (nat_cmp (get_or rows (k + 1) d).table (get_or rows k d).table) (nat_cmp (get_or rows (k + 1) d).key (get_or rows k d).key)) ≡ false
    → ComesBefore (get_or rows (suc k) d) (get_or rows k d) → ⊥
not-before rows k d isnt before =
    let next : k + 1 ≡ suc k = omega arith in
    let falls : ComesBefore (get_or rows (k + 1) d) (get_or rows k d) = subst (λ (n : ℕ). ComesBefore (get_or rows n d) (get_or rows k d)) (sym next) before in
    let both : true ≡ false = sym (less (get_or rows (k + 1) d) (get_or rows k d) falls) ∙ isnt in
    absurd (cc)

cases-order : (a b : PlacedRow) → ComesBefore a b ⊎ (ComesBefore b a ⊎ (row_id a ≡ row_id b))
cases-order a b = elim (cases_lt a.table b.table) [
  | inl less ↦ inl (inl less)
  | inr least ↦ elim (cases_lt b.table a.table) [
    | inl more ↦ inr (inl (inl more))
    | inr most ↦
        let table : a.table ≡ b.table = omega (arith, least, most) in
        elim (cases_lt a.key b.key) [
          | inl below ↦ inl (inr (table, below))
          | inr above ↦ elim (cases_lt b.key a.key) [
            | inl beyond ↦ inr (inl (inr (sym table, beyond)))
            | inr not ↦ let key : a.key ≡ b.key = omega (arith, above, not) in inr (inr (ap₂ (λ (t k : ℕ). (t, k)) table key))
          ]
        ]
  ]
]

-- rows that don't fall rise, where no two are one row
pub rises : (rows : List PlacedRow) → DontFall rows → ((id : RowId) → count_by (λ (row : PlacedRow). is_row (row_id row) id) rows ≤ 1) → RowsRise rows
rises [] sorted apart = tt
rises (a ∷ []) sorted apart = tt
rises (a ∷ b ∷ rows) sorted apart = (
  elim (cases-order a b) [
    | inl before ↦ before
    | inr other ↦ elim other [ inl falls ↦ absurd (sorted 0 a (omega arith) falls) | inr same ↦ absurd (twice same) ]
  ],
  rises (b ∷ rows) (λ k d low. sorted (suc k) d (omega (arith, low))) (λ id. omega (arith, count-cons (λ (row : PlacedRow). is_row (row_id row) id) a (b ∷ rows), apart id)),
)
  where
    itself : is_row (row_id a) (row_id a) ≡ true
    itself = and_from (a.table == a.table) (a.key == a.key) (eq-eqb a.table a.table refl) (eq-eqb a.key a.key refl)

    twice : row_id a ≡ row_id b → ⊥
    twice same =
        let first : count_by (λ (row : PlacedRow). is_row (row_id row) (row_id a)) (a ∷ b ∷ rows) ≡ 1 + count_by (λ (row : PlacedRow). is_row (row_id row) (row_id a)) (b ∷ rows) =
        count-cons (λ (row : PlacedRow). is_row (row_id row) (row_id a)) a (b ∷ rows) ∙ ap (λ (t : Bool). cond t 1 0 + count_by (λ (row : PlacedRow). is_row (row_id row) (row_id a)) (b ∷ rows)) itself in
        let second : count_by (λ (row : PlacedRow). is_row (row_id row) (row_id a)) (b ∷ rows) ≡ 1 + count_by (λ (row : PlacedRow). is_row (row_id row) (row_id a)) rows =
        count-cons (λ (row : PlacedRow). is_row (row_id row) (row_id a)) b rows ∙ ap (λ (t : Bool). cond t 1 0 + count_by (λ (row : PlacedRow). is_row (row_id row) (row_id a)) rows) (ap (λ (id : RowId). is_row id (row_id a)) (sym same) ∙ itself) in
        omega (arith, apart (row_id a), first, second)
