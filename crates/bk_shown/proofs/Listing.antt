-- The rows of one table, listed by rising key.
use Rattle.std.proofs.Common.{◌≡◌, ◌<◌, ℕ, Bool, true, false, cond, eqb, ltb, List, [], ◌∷◌, map, Option, Some, None, inl, inr, refl, sym, ◌∙◌, ap, subst, arith}
use Rattle.std.specs.Prelude.{◌==◌}
use Rattle.std.specs.List.{filter, AllByRecursion}
use Rattle.std.specs.List.Sorted.{IsStrictlySortedBy}
use Rattle.std.specs.Map.{keys_of}
use Rattle.std.specs.Ordering.{ordering_then}
use Rattle.std.specs.declared.cmp.Ordering.TheVariants.{Less, Equal, Greater}
use Rattle.std.proofs.lemmas.Bool.{cases_lt, eqb-true, eq-eqb}
use Rattle.std.proofs.lemmas.Bool.Decides.{nat_tests}
use Rattle.std.proofs.lemmas.Option.{same_Some}
use Rattle.bk_groups.specs.Groups.{row_cmp}
use Rattle.bk_world.specs.Records.{RowId, is_row}
use Rattle.bk_world.specs.RowLaws.{RowsRise, at_is}
use Rattle.bk_world.specs.Rows.{Rows}
use Rattle.bk_world.specs.Telling.{row_at}
use Rattle.bk_shown.specs.Rows.{RowValues, rows_in}
use Rattle.bk_shown.proofs.Agree.{some-none}
use Rattle.bk_shown.proofs.Entries.{value_in}
use Rattle.bk_shown.proofs.MapKeys.{key_is}

-- ---- rows that rise are told by their values

first : (e : ℕ × List ℕ) (es : Rows) (q : ℕ) → row_at (e ∷ es) q ≡ cond (eqb e.0 q) (Some e.1) (row_at es q)
first e es q = ap (λ t. cond t (Some e.1) (row_at es q)) (at_is q e.0)

here : (e : ℕ × List ℕ) (es : Rows) (q : ℕ) → e.0 ≡ q → row_at (e ∷ es) q ≡ Some e.1
here e es q is = first e es q ∙ ap (λ t. cond t (Some e.1) (row_at es q)) (eq-eqb e.0 q is)

absent : (es : Rows) (q : ℕ) → AllByRecursion (λ (f : ℕ × List ℕ). q < f.0) es → row_at es q ≡ None
absent [] q all = refl
absent (e ∷ es) q all =
    let isnt : eqb e.0 q ≡ false = grind (arith, nat_tests, all.0) in
    first e es q ∙ ap (λ t. cond t (Some e.1) (row_at es q)) isnt ∙ absent es q all.1

above : (a b : ℕ) → a < b → (es : Rows) → AllByRecursion (λ (f : ℕ × List ℕ). b < f.0) es → AllByRecursion (λ (f : ℕ × List ℕ). a < f.0) es
above a b lt [] all = tt
above a b lt (e ∷ es) all = (omega (arith, lt, all.0), above a b lt es all.1)

-- a row that another list has isn't below the other list's first
not-below : (x : ℕ × List ℕ) (xs : Rows) (y : ℕ × List ℕ) (ys : Rows) → RowsRise (y ∷ ys) → row_at (x ∷ xs) x.0 ≡ row_at (y ∷ ys) x.0 → x.0 < y.0 → ⊥
not-below x xs y ys rise same lt = some-none (row_at (y ∷ ys) x.0) x.1 (sym same ∙ here x xs x.0 refl) (absent (y ∷ ys) x.0 (lt, above x.0 y.0 lt ys rise.0))

pub one-list : (xs ys : Rows) → RowsRise xs → RowsRise ys → ((q : ℕ) → row_at xs q ≡ row_at ys q) → xs ≡ ys
one-list [] [] r s same = refl
one-list [] (y ∷ ys) r s same = some-none (row_at (y ∷ ys) y.0) y.1 (here y ys y.0 refl) (sym (same y.0))
one-list (x ∷ xs) [] r s same = some-none (row_at (x ∷ xs) x.0) x.1 (here x xs x.0 refl) (same x.0)
one-list (x ∷ xs) (y ∷ ys) r s same =
    let key : x.0 ≡ y.0 = elim (cases_lt x.0 y.0) [
      | inl lt ↦ absurd (not-below x xs y ys s (same x.0) lt)
      | inr le ↦ elim (cases_lt y.0 x.0) [
        | inl lt ↦ absurd (not-below y ys x xs r (sym (same y.0)) lt)
        | inr ge ↦ omega (arith, le, ge)
      ]
    ] in
    let value : x.1 ≡ y.1 = same_Some x.1 y.1 (sym (here x xs x.0 refl) ∙ same x.0 ∙ here y ys x.0 (sym key)) in
    let rest : (q : ℕ) → row_at xs q ≡ row_at ys q = λ q. by q key (eqb x.0 q) refl in
    ap (λ (k : ℕ). (k, x.1) ∷ xs) key ∙ ap (λ (v : List ℕ). (y.0, v) ∷ xs) value ∙ ap (λ (zs : Rows). y ∷ zs) (one-list xs ys r.1 s.1 rest)
  where
    by : (q : ℕ) → x.0 ≡ y.0 → (t : Bool) → eqb x.0 q ≡ t → row_at xs q ≡ row_at ys q
    by q key true is =
        let at : x.0 ≡ q = eqb-true x.0 q is in
        absent xs q (subst (λ (k : ℕ). AllByRecursion (λ (f : ℕ × List ℕ). k < f.0) xs) at r.0)
        ∙ sym (absent ys q (subst (λ (k : ℕ). AllByRecursion (λ (f : ℕ × List ℕ). k < f.0) ys) (sym key ∙ at) s.0))
    by q key false isnt =
        let isnt_y : eqb y.0 q ≡ false = ap (λ (k : ℕ). eqb k q) (sym key) ∙ isnt in
        sym (first x xs q ∙ ap (λ t. cond t (Some x.1) (row_at xs q)) isnt) ∙ same q ∙ (first y ys q ∙ ap (λ t. cond t (Some y.1) (row_at ys q)) isnt_y)

-- ---- the rows of a table among all

below : (a b : RowId) (table : ℕ) → row_cmp a b ≡ Less → (a.0 == table) ≡ true → (b.0 == table) ≡ true → a.1 < b.1
below a b table less is_a is_b =
    let same : a.0 ≡ b.0 = eqb-true _ _ is_a ∙ sym (eqb-true _ _ is_b) in
    by (ltb a.0 b.0) refl (eqb a.0 b.0) refl (ltb a.1 b.1) refl (eqb a.1 b.1) less
  where
    by : (p : Bool) → ltb a.0 b.0 ≡ p → (q : Bool) → eqb a.0 b.0 ≡ q → (s : Bool) → ltb a.1 b.1 ≡ s → (t : Bool)
        → ordering_then (cond p Less (cond q Equal Greater)) (cond s Less (cond t Equal Greater)) ≡ Less → a.1 < b.1
    by true lt q e s f t less = let same : a.0 ≡ b.0 = eqb-true _ _ is_a ∙ sym (eqb-true _ _ is_b) in absurd (grind (arith, nat_tests, lt, same))
    by false nlt true e true f t less = grind (arith, nat_tests, f)
    by false nlt true e false f true less = absurd (cc)
    by false nlt true e false f false less = absurd (cc)
    by false nlt false e s f t less = absurd (cc)

listed-below : (table : ℕ) (k : RowId) (es : RowValues) → (k.0 == table) ≡ true → AllByRecursion (λ (r : RowId). row_cmp k r ≡ Less) (keys_of es) → AllByRecursion (λ (f : ℕ × List ℕ). k.1 < f.0) (rows_in table es)
listed-below table k [] is all = tt
listed-below table k (e ∷ es) is all = by (e.0.0 == table) refl (listed-below table k es is all.1)
  where
    by : (t : Bool) → (e.0.0 == table) ≡ t → AllByRecursion (λ (f : ℕ × List ℕ). k.1 < f.0) (rows_in table es)
        → AllByRecursion (λ (f : ℕ × List ℕ). k.1 < f.0) (map (λ (e : RowId × List ℕ). (e.0.1, e.1)) (cond t (e ∷ filter (λ (e : RowId × List ℕ). e.0.0 == table) es) (filter (λ (e : RowId × List ℕ). e.0.0 == table) es)))
    by true its rest = (below k e.0 table all.0 is its, rest)
    by false isnt rest = rest

pub listed-rise : (table : ℕ) (es : RowValues) → IsStrictlySortedBy row_cmp (keys_of es) → RowsRise (rows_in table es)
unfolding IsStrictlySortedBy
listed-rise table [] sorted = tt
listed-rise table (e ∷ es) sorted = by (e.0.0 == table) refl (listed-rise table es sorted.1)
  where
    by : (t : Bool) → (e.0.0 == table) ≡ t → RowsRise (rows_in table es)
        → RowsRise (map (λ (e : RowId × List ℕ). (e.0.1, e.1)) (cond t (e ∷ filter (λ (e : RowId × List ℕ). e.0.0 == table) es) (filter (λ (e : RowId × List ℕ). e.0.0 == table) es)))
    by true its rest = (listed-below table e.0 es its sorted.0, rest)
    by false isnt rest = rest

pub listed-values : (table : ℕ) (es : RowValues) (key : ℕ) → row_at (rows_in table es) key ≡ value_in es (table, key)
listed-values table [] key = refl
listed-values table (e ∷ es) key =
    by (e.0.0 == table) refl (listed-values table es key)
    ∙ ap (λ t. cond t (Some e.1) (value_in es (table, key))) (sym (key_is (table, key) e.0))
  where
    by : (t : Bool) → (e.0.0 == table) ≡ t → row_at (rows_in table es) key ≡ value_in es (table, key)
        → row_at (map (λ (e : RowId × List ℕ). (e.0.1, e.1)) (cond t (e ∷ filter (λ (e : RowId × List ℕ). e.0.0 == table) es) (filter (λ (e : RowId × List ℕ). e.0.0 == table) es))) key
        ≡ cond (is_row (table, key) e.0) (Some e.1) (value_in es (table, key))
    by true its rest =
        let same : is_row (table, key) e.0 ≡ eqb e.0.1 key = grind (arith, nat_tests, its) in
        first (e.0.1, e.1) (rows_in table es) key ∙ ap (λ (r : Option (List ℕ)). cond (eqb e.0.1 key) (Some e.1) r) rest ∙ ap (λ t. cond t (Some e.1) (value_in es (table, key))) (sym same)
    by false isnt rest =
        let other : is_row (table, key) e.0 ≡ false = grind (arith, nat_tests, isnt) in
        rest ∙ ap (λ t. cond t (Some e.1) (value_in es (table, key))) (sym other)
