-- A transaction's writes are committed one by one, and rows let go one by one.
use Rattle.std.proofs.Common.{◌≡◌, ◌<◌, ℕ, zero, suc, ◌+◌, Bool, true, false, not, cond, List, [], ◌∷◌, ◌++◌, length, map, take, drop, get_or, set, Option, None, refl, sym, ◌∙◌, ap, arith, add-one}
use Rattle.std.specs.Prelude.{◌==◌, ◌&&◌, ◌||◌, is_some}
use Rattle.bk_groups.specs.Groups.{place_of as space_place}
use Rattle.bk_world.specs.Records.{RowId, is_row}
use Rattle.bk_shown.specs.Rows.{KeepsRows, RowEntries, has_entry, value_among}
use Rattle.bk_shown.specs.Steps.{Commits, SamePoints}
use Rattle.bk_shown.specs.Writes.{LetsGo, Settles, has_write, lacks_entry, others_of, own_of, row_of, spent, value_after}
use Rattle.bk_shown.specs.declared.shown.Shown.{Shown}
use Rattle.bk_shown.specs.declared.shown.Written.{Written}
use Rattle.bk_shown.proofs.Lists.{filter-joined, take-next}

-- ---- a list whose first elements are spent

abbrev pub partly : (Written → Written) → List Written → ℕ → List Written
partly f xs i = map f (take i xs) ++ drop i xs

pub item-is : (f : Written → Written) (xs : List Written) (i : ℕ) (d : Written) → i < length xs → get_or (partly f xs i) i d ≡ get_or xs i d
item-is f [] i d lt = absurd (omega (arith, lt))
item-is f (x ∷ xs) zero d lt = refl
item-is f (x ∷ xs) (suc i) d lt = let less : i < length xs = omega (arith, lt) in item-is f xs i d less

set-suc : (f : Written → Written) (xs : List Written) (i : ℕ) (d : Written) → i < length xs → set (partly f xs i) i (f (get_or xs i d)) ≡ partly f xs (suc i)
set-suc f [] i d lt = absurd (omega (arith, lt))
set-suc f (x ∷ xs) zero d lt = refl
set-suc f (x ∷ xs) (suc i) d lt = let less : i < length xs = omega (arith, lt) in ap (λ (ys : List Written). f x ∷ ys) (set-suc f xs i d less)

pub set-next : (f : Written → Written) (xs : List Written) (i : ℕ) (d : Written) → i < length xs → set (partly f xs i) i (f (get_or xs i d)) ≡ partly f xs (i + 1)
set-next f xs i d lt = set-suc f xs i d lt ∙ ap (partly f xs) (sym (add-one i))

pub own-next : (begin : ℕ) (xs : List Written) (i : ℕ) (d : Written) → i < length xs → own_of begin (take (i + 1) xs) ≡ own_of begin (take i xs) ++ own_of begin (get_or xs i d ∷ [])
own-next begin xs i d lt = ap (own_of begin) (take-next xs i d lt) ∙ filter-joined (λ (w : Written). w.begin == begin) (take i xs) (get_or xs i d ∷ [])

-- ---- writes are committed

after-joined : (id : RowId) (xs ys : List Written) (v : Option (List ℕ)) → value_after id (xs ++ ys) v ≡ value_after id ys (value_after id xs v)
after-joined id [] ys v = refl
after-joined id (x ∷ xs) ys v = after-joined id xs ys (cond (is_row (row_of x) id) x.value v)

pub settles-both : (xs ys : List Written) (a b c : RowEntries) → Settles xs a b → Settles ys b c → Settles (xs ++ ys) a c
settles-both xs ys a b c s t = record {
  values = λ id. t.values id ∙ ap (value_after id ys) (s.values id) ∙ sym (after-joined id xs ys (value_among a id));
  entries = λ id. t.entries id ∙ s.entries id;
}

spent-none : (begin : ℕ) (w : Written) → (w.begin == begin) ≡ false → w ≡ spent begin w
spent-none begin w isnt = ap (λ t. record w { value = cond t None w.value }) (sym isnt)

-- what one of some lacks, they lack
pub lacks-among : (begin : ℕ) (old now : RowEntries) (xs : List Written) (i : ℕ) (d : Written) → i < length xs → ((id : RowId) → has_entry now id ≡ has_entry old id) → lacks_entry begin now (get_or xs i d ∷ []) ≡ true
    → lacks_entry begin old xs ≡ true
lacks-among begin old now [] i d lt same lacks = absurd (omega (arith, lt))
lacks-among begin old now (x ∷ xs) zero d lt same lacks =
    ap (λ b. ((x.begin == begin) && not b) || lacks_entry begin old xs) (sym (same (row_of x))) ∙ by ((x.begin == begin) && not (has_entry now (row_of x))) lacks
  where
    by : (t : Bool) → (t || false) ≡ true → (t || lacks_entry begin old xs) ≡ true
    by true e = refl
    by false e = absurd (cc)
lacks-among begin old now (x ∷ xs) (suc i) d lt same lacks =
    let less : i < length xs = omega (arith, lt) in
    by ((x.begin == begin) && not (has_entry old (row_of x))) (lacks-among begin old now xs i d less same lacks)
  where
    by : (t : Bool) → lacks_entry begin old xs ≡ true → (t || lacks_entry begin old xs) ≡ true
    by true e = refl
    by false e = e

-- writes that are spent are of the same rows
others-spent : (begin : ℕ) (ws : List Written) → others_of begin (map (spent begin) ws) ≡ others_of begin ws
others-spent begin [] = refl
others-spent begin (w ∷ ws) = by (w.begin == begin) refl (others-spent begin ws)
  where
    by : (t : Bool) → (w.begin == begin) ≡ t → others_of begin (map (spent begin) ws) ≡ others_of begin ws
        → cond (not t) (spent begin w ∷ others_of begin (map (spent begin) ws)) (others_of begin (map (spent begin) ws)) ≡ cond (not t) (w ∷ others_of begin ws) (others_of begin ws)
    by true is rest = rest
    by false isnt rest = ap (λ (v : Written). v ∷ others_of begin (map (spent begin) ws)) (sym (spent-none begin w isnt)) ∙ ap (λ (vs : List Written). w ∷ vs) rest

has-spent : (begin : ℕ) (ws : List Written) (id : RowId) → has_write (own_of begin (map (spent begin) ws)) id ≡ has_write (own_of begin ws) id
has-spent begin [] id = refl
has-spent begin (w ∷ ws) id = by (w.begin == begin) (has-spent begin ws id)
  where
    by : (t : Bool) → has_write (own_of begin (map (spent begin) ws)) id ≡ has_write (own_of begin ws) id
        → has_write (cond t (spent begin w ∷ own_of begin (map (spent begin) ws)) (own_of begin (map (spent begin) ws))) id ≡ has_write (cond t (w ∷ own_of begin ws) (own_of begin ws)) id
    by true rest = ap (λ b. is_row (row_of w) id || b) rest
    by false rest = rest

pub commits : (begin : ℕ) (old new : Shown) (mid : RowEntries) (ws : List Written) → SamePoints old new → ws ≡ map (spent begin) old.written.items → Settles (own_of begin old.written.items) old.rows mid
    → LetsGo (λ id. has_write (own_of begin ws) id) new.rows old.groups new.groups → KeepsRows (λ id. has_write (own_of begin ws) id) mid new.rows → new.written.items ≡ others_of begin ws → Commits begin old new
commits begin old new mid ws same is settles goes keeps left = record {
  same = same;
  written = left ∙ ap (others_of begin) is ∙ others-spent begin old.written.items;
  rows = λ id. keeps.values id ∙ settles.values id;
  entries = λ id none. keeps.entries id (owns id ∙ none) ∙ settles.entries id;
  groups = record {
    rooms = goes.rooms;
    tables = goes.tables;
    places = λ id. goes.places id ∙ ap (λ t. cond (t && not (is_some (value_among new.rows id))) None (space_place old.groups id.0 id.1)) (owns id);
  };
}
  where
    owns : (id : RowId) → has_write (own_of begin ws) id ≡ has_write (own_of begin old.written.items) id
    owns id = ap (λ (vs : List Written). has_write (own_of begin vs) id) is ∙ has-spent begin old.written.items id
