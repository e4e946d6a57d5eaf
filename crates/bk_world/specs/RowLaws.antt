-- The value of a row in a list of rows that changes.
use Rattle.std.proofs.Common.{◌≡◌, ◌<◌, ℕ, Bool, true, false, ◌&&◌, cond, List, [], ◌∷◌, Option, Some, None, refl, sym, ◌∙◌, ap, subst, ltb, eqb, arith}
use Rattle.std.specs.Prelude.{◌==◌, if◌then◌else◌}
use Rattle.std.specs.List.{AllByRecursion}
use Rattle.std.specs.Ordering.{nat_cmp, match_ordering}
use Rattle.std.specs.declared.cmp.Ordering.TheVariants.{Less, Equal, Greater}
use Rattle.std.specs.BTreeMap.{insert_entry, is_at}
use Rattle.std.specs.Map.{lookup, remove_entry}
use Rattle.std.proofs.lemmas.Bool.Decides.{nat_tests}
use Rattle.std.proofs.lemmas.Bool.{and_parts, eqb-true, and_from, eq-eqb}
use Rattle.bk_ids.specs.declared.record.Place.{Place}
use Rattle.bk_world.specs.Entry.{Entry, Change, RowChange, rows_set, table_made, model_set, nothing}
use Rattle.bk_world.specs.Rows.{Rows, with_row, rows_changed, rows_of, rows_after}
use Rattle.bk_world.specs.Records.{Logged, RowId, id_of, is_row}
use Rattle.bk_world.specs.Telling.{entries, row_at, rows}

-- rows rise by their keys
abbrev pub RowsRise : Rows → Type 0
RowsRise [] = Unit {0}
RowsRise (e ∷ es) = AllByRecursion (λ f. e.0 < f.0) es × RowsRise es

pub at_is : (q k : ℕ) → is_at (nat_cmp q) k ≡ eqb k q
at_is q k = by (ltb q k) refl (eqb q k) refl (eqb k q) refl
  where
    by : (s : Bool) → ltb q k ≡ s → (t : Bool) → eqb q k ≡ t → (u : Bool) → eqb k q ≡ u → is_at (λ (x : ℕ). cond s Less (cond t Equal Greater)) k ≡ u
    by true p true r u i = absurd (grind (arith, nat_tests, p, r))
    by true p false r true i = absurd (grind (arith, nat_tests, p, i))
    by true p false r false i = refl
    by false p true r true i = refl
    by false p true r false i = absurd (grind (arith, nat_tests, r, i))
    by false p false r true i = absurd (grind (arith, nat_tests, r, i))
    by false p false r false i = refl

-- the value at a key
value_at : ℕ → Rows → Option (List ℕ)
value_at q [] = None
value_at q (e ∷ es) = cond (eqb e.0 q) (Some e.1) (value_at q es)

row-is : (es : Rows) (q : ℕ) → row_at es q ≡ value_at q es
unfolding value_at
row-is [] q = refl
row-is (e ∷ es) q = ap (λ t. cond t (Some e.1) (lookup (is_at (nat_cmp q)) es)) (at_is q e.0) ∙ ap (λ r. cond (eqb e.0 q) (Some e.1) r) (row-is es q)

value-insert : (es : Rows) (k : ℕ) (v : List ℕ) (q : ℕ) → value_at q (insert_entry nat_cmp es k v) ≡ cond (eqb k q) (Some v) (value_at q es)
unfolding value_at
value-insert [] k v q = refl
value-insert (e ∷ es) k v q = by (ltb k e.0) (eqb k e.0) refl (value-insert es k v q)
  where
    both : (a b : Bool) (x y : Option (List ℕ)) (r : Option (List ℕ)) → (a ≡ true → b ≡ true → x ≡ y) → cond a x (cond b y r) ≡ cond b y (cond a x r)
    both true true x y r never = never refl refl
    both true false x y r never = refl
    both false true x y r never = refl
    both false false x y r never = refl

    one : (a b : Bool) (x y r : Option (List ℕ)) → a ≡ b → cond a x r ≡ cond b x (cond a y r)
    one true true x y r e = refl
    one true false x y r e = absurd (cc)
    one false true x y r e = absurd (cc)
    one false false x y r e = refl

    by : (s t : Bool) → eqb k e.0 ≡ t → value_at q (insert_entry nat_cmp es k v) ≡ cond (eqb k q) (Some v) (value_at q es)
        → value_at q (match_ordering (cond s Less (cond t Equal Greater)) ((k, v) ∷ e ∷ es) ((e.0, v) ∷ es) (e ∷ insert_entry nat_cmp es k v)) ≡ cond (eqb k q) (Some v) (cond (eqb e.0 q) (Some e.1) (value_at q es))
    by true t is ih = refl
    by false true is ih = one (eqb e.0 q) (eqb k q) (Some v) (Some e.1) (value_at q es) (grind (arith, nat_tests, is))
    by false false is ih =
        ap (λ r. cond (eqb e.0 q) (Some e.1) r) ih
        ∙ both (eqb e.0 q) (eqb k q) (Some e.1) (Some v) (value_at q es) (λ a b. absurd (grind (arith, nat_tests, is, a, b)))

value-none : (es : Rows) (q : ℕ) → AllByRecursion (λ f. q < f.0) es → value_at q es ≡ None
unfolding value_at
value-none [] q all = refl
value-none (e ∷ es) q all = let no : eqb e.0 q ≡ false = grind (arith, nat_tests, all.0) in rw no (value-none es q all.1)

value-remove : (es : Rows) (k q : ℕ) → RowsRise es → value_at q (remove_entry (is_at (nat_cmp k)) es) ≡ cond (eqb k q) None (value_at q es)
unfolding value_at
value-remove [] k q rise = by (eqb k q)
  where
    by : (b : Bool) → let none : Option (List ℕ) = None in none ≡ cond b none none
    by true = refl
    by false = refl
value-remove (e ∷ es) k q rise = ap (λ t. value_at q (cond t es (e ∷ remove_entry (is_at (nat_cmp k)) es))) (at_is k e.0) ∙ by (eqb e.0 k) refl (eqb k q) refl (eqb e.0 q) refl (value-remove es k q rise.1)
  where
    by : (t : Bool) → eqb e.0 k ≡ t → (a : Bool) → eqb k q ≡ a → (b : Bool) → eqb e.0 q ≡ b → value_at q (remove_entry (is_at (nat_cmp k)) es) ≡ cond (eqb k q) None (value_at q es)
        → value_at q (cond t es (e ∷ remove_entry (is_at (nat_cmp k)) es)) ≡ cond a None (cond b (Some e.1) (value_at q es))
    by true is true p b r ih = let same : e.0 ≡ q = grind (arith, nat_tests, is, p) in value-none es q (subst (λ n. AllByRecursion (λ f. n < f.0) es) same rise.0)
    by true is false p true r ih = absurd (grind (arith, nat_tests, is, p, r))
    by true is false p false r ih = refl
    by false is true p true r ih = absurd (grind (arith, nat_tests, is, p, r))
    by false is true p false r ih = rw r (ih ∙ rw p refl)
    by false is false p true r ih = rw r refl
    by false is false p false r ih = rw r (ih ∙ rw p refl)

-- ---- rows rise

all-insert : (P : ℕ × List ℕ → Type 0) (es : Rows) (k : ℕ) (v : List ℕ) → ((n : ℕ) (w : List ℕ) → n ≡ k → P (n, w)) → ((e : ℕ × List ℕ) (w : List ℕ) → P e → P (e.0, w)) → AllByRecursion P es → AllByRecursion P (insert_entry nat_cmp es k v)
all-insert P [] k v new over all = (new k v refl, tt)
all-insert P (e ∷ es) k v new over all = by (ltb k e.0) (eqb k e.0) (all-insert P es k v new over all.1)
  where
    by : (s t : Bool) → AllByRecursion P (insert_entry nat_cmp es k v) → AllByRecursion P (match_ordering (cond s Less (cond t Equal Greater)) ((k, v) ∷ e ∷ es) ((e.0, v) ∷ es) (e ∷ insert_entry nat_cmp es k v))
    by true t ih = (new k v refl, (all.0, all.1))
    by false true ih = (over e v all.0, all.1)
    by false false ih = (all.0, ih)

pub rise-insert : (es : Rows) (k : ℕ) (v : List ℕ) → RowsRise es → RowsRise (insert_entry nat_cmp es k v)
rise-insert [] k v rise = (tt, tt)
rise-insert (e ∷ es) k v rise = by (ltb k e.0) refl (eqb k e.0) refl (rise-insert es k v rise.1)
  where
    above : (es : Rows) → k < e.0 → AllByRecursion (λ (f : ℕ × List ℕ). e.0 < f.0) es → AllByRecursion (λ (f : ℕ × List ℕ). k < f.0) es
    above [] lt all = tt
    above (f ∷ es) lt all = (omega (arith, lt, all.0), above es lt all.1)

    by : (s : Bool) → ltb k e.0 ≡ s → (t : Bool) → eqb k e.0 ≡ t → RowsRise (insert_entry nat_cmp es k v)
        → RowsRise (match_ordering (cond s Less (cond t Equal Greater)) ((k, v) ∷ e ∷ es) ((e.0, v) ∷ es) (e ∷ insert_entry nat_cmp es k v))
    by true p t q ih = let lt : k < e.0 = grind (arith, nat_tests, p) in ((lt, above es lt rise.0), rise)
    by false p true q ih = rise
    by false p false q ih = (all-insert (λ (f : ℕ × List ℕ). e.0 < f.0) es k v (λ n w is. grind (arith, nat_tests, p, q, is)) (λ f w lt. lt) rise.0, ih)

all-remove : (P : ℕ × List ℕ → Type 0) (test : ℕ → Bool) (es : Rows) → AllByRecursion P es → AllByRecursion P (remove_entry test es)
all-remove P test [] all = tt
all-remove P test (e ∷ es) all = by (test e.0) (all-remove P test es all.1)
  where
    by : (t : Bool) → AllByRecursion P (remove_entry test es) → AllByRecursion P (cond t es (e ∷ remove_entry test es))
    by true ih = all.1
    by false ih = (all.0, ih)

pub rise-remove : (test : ℕ → Bool) (es : Rows) → RowsRise es → RowsRise (remove_entry test es)
rise-remove test [] rise = tt
rise-remove test (e ∷ es) rise = by (test e.0) (rise-remove test es rise.1)
  where
    by : (t : Bool) → RowsRise (remove_entry test es) → RowsRise (cond t es (e ∷ remove_entry test es))
    by true ih = rise.1
    by false ih = (all-remove (λ (f : ℕ × List ℕ). e.0 < f.0) test es rise.0, ih)

pub rise-set : (es : Rows) (k : ℕ) (v : Option (List ℕ)) → RowsRise es → RowsRise (with_row es k v)
rise-set es k (Some v) rise = rise-insert es k v rise
rise-set es k None rise = rise-remove (is_at (nat_cmp k)) es rise

row-set : (es : Rows) (k : ℕ) (v : Option (List ℕ)) (q : ℕ) → RowsRise es → row_at (with_row es k v) q ≡ cond (eqb k q) v (row_at es q)
row-set es k (Some v) q rise = row-is (insert_entry nat_cmp es k v) q ∙ value-insert es k v q ∙ ap (λ r. cond (eqb k q) (Some v) r) (sym (row-is es q))
row-set es k None q rise = row-is (remove_entry (is_at (nat_cmp k)) es) q ∙ value-remove es k q rise ∙ ap (λ r. cond (eqb k q) None r) (sym (row-is es q))

-- ---- several changes

-- the value of a row behind some changes
abbrev pub value_behind : RowId → List RowChange → Option (List ℕ) → Option (List ℕ)
value_behind id [] v = v
value_behind id (c ∷ cs) v = value_behind id cs (if is_row (id_of c) id then c.value else v)

pub rise-changed : (table : ℕ) (es : Rows) (cs : List RowChange) → RowsRise es → RowsRise (rows_changed table es cs)
rise-changed table es [] rise = rise
rise-changed table es (c ∷ cs) rise = rise-changed table (cond (c.table == table) (with_row es c.key c.value) es) cs (by (c.table == table))
  where
    by : (t : Bool) → RowsRise (cond t (with_row es c.key c.value) es)
    by true = rise-set es c.key c.value rise
    by false = rise

pub row-changed : (table key : ℕ) (es : Rows) (cs : List RowChange) → RowsRise es → row_at (rows_changed table es cs) key ≡ value_behind (table, key) cs (row_at es key)
row-changed table key es [] rise = refl
row-changed table key es (c ∷ cs) rise =
    row-changed table key (cond (c.table == table) (with_row es c.key c.value) es) cs (rise-changed table es (c ∷ []) rise)
    ∙ ap (value_behind (table, key) cs) (by (c.table == table))
  where
    by : (t : Bool) → row_at (cond t (with_row es c.key c.value) es) key ≡ cond (t && (c.key == key)) c.value (row_at es key)
    by true = row-set es c.key c.value key rise
    by false = refl

pub rise-of : (table : ℕ) (es : Rows) (entries : List Entry) → RowsRise es → RowsRise (rows_of table es entries)
rise-of table es [] rise = rise
rise-of table es (e ∷ entries) rise = rise-of table (rows_after table es e.change) entries (by e.change)
  where
    by : (c : Change) → RowsRise (rows_after table es c)
    by (rows_set changes) = rise-changed table es changes rise
    by (table_made made) = rise
    by (model_set model) = rise
    by nothing = rise

pub rise-rows : (rs : List Logged) (table : ℕ) → RowsRise (rows rs table)
unfolding rows
rise-rows rs table = rise-of table [] (entries rs) tt

-- rows and places that are the same

pub row-itself : (id : RowId) → is_row id id ≡ true
row-itself id = and_from _ _ (eq-eqb id.0 id.0 refl) (eq-eqb id.1 id.1 refl)

pub row-same : (a b : RowId) → is_row a b ≡ true → a ≡ b
row-same a b e = let parts = and_parts _ _ e in let table : a.0 ≡ b.0 = eqb-true _ _ parts.0 in let key : a.1 ≡ b.1 = eqb-true _ _ parts.1 in ap (λ (t : ℕ). (t, a.1)) table ∙ ap (λ (k : ℕ). (b.0, k)) key

pub place-is : (a b : Place) → a.file ≡ b.file → a.page ≡ b.page → a.slot ≡ b.slot → a ≡ b
place-is a b f p s = λ x. record { file = f x; page = p x; slot = s x }
