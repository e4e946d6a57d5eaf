-- Who has written a row, and how much a transaction has written.
use Rattle.std.proofs.Common.{◌≡◌, ℕ, suc, Bool, true, false, cond, not, List, [], ◌∷◌, map, length, Option, Some, None, refl, sym, ◌∙◌, ap, arith}
use Rattle.std.specs.Prelude.{◌==◌, ◌&&◌, ◌||◌, is_some, IfSome}
use Rattle.std.specs.List.{AllByRecursion, find, list_any}
use Rattle.std.proofs.lemmas.Bool.Decides.{nat_tests}
use Rattle.bk_machine.specs.World.{World, log_of}
use Rattle.bk_machine.specs.statements.Target.{holder, own_open, writes_of}
use Rattle.bk_shown.specs.Shown.{Shows, pending_of}
use Rattle.bk_shown.specs.Writes.{own_of}
use Rattle.bk_shown.specs.declared.shown.Written.{Written}
use Rattle.bk_world.specs.declared.transaction.Open.{Open}
use Rattle.bk_world.specs.Pending.{Pending, of_transaction, pending}
use Rattle.bk_world.specs.Places.{last_of, later}
use Rattle.bk_world.specs.Records.{Logged, RowId, id_of, is_row}
use Rattle.bk_kept.specs.declared.kept.Database.{Database as KeptDatabase}
use Rattle.bk_kept.specs.declared.kept.Kept.{Kept}
use Rattle.bk_kept.specs.Keeps.{Sees, ShowsLog, database_of}
use Rattle.std.proofs.Math.Bool.{and-false}

-- Pending writes of a row.

-- a transaction has written the row
abbrev has_written : List Pending → RowId → ℕ → Bool
has_written ws id begin = list_any (λ w. is_row (id_of w.change) id) (of_transaction begin ws)

-- all writes of the row are of one transaction
abbrev AreOf : List Pending → RowId → ℕ → Type 0
AreOf ws id begin = AllByRecursion (λ w. is_row (id_of w.change) id ≡ true → w.begin ≡ begin) ws

later-some : (o : Option Pending) (w : Pending) → is_some (later o (Some w)) ≡ true
later-some None w = refl
later-some (Some v) w = refl

later-none : (o : Option Pending) → is_some (later o None) ≡ is_some o
later-none None = refl
later-none (Some v) = refl

-- where no write is of the row, none of a transaction's is
none-written : (ws : List Pending) (id : RowId) (begin : ℕ) → is_some (last_of id ws) ≡ false → has_written ws id begin ≡ false
none-written [] id begin none = refl
none-written (w ∷ ws) id begin none = by (is_row (id_of w.change) id) refl (w.begin == begin) none (none-written ws id begin)
  where
    by : (r : Bool) → is_row (id_of w.change) id ≡ r → (b : Bool) → is_some (later (last_of id ws) (cond r (Some w) None)) ≡ false → (is_some (last_of id ws) ≡ false → has_written ws id begin ≡ false)
        → list_any (λ v. is_row (id_of v.change) id) (cond b (w ∷ of_transaction begin ws) (of_transaction begin ws)) ≡ false
    by true is b isnt ih = let wrong : true ≡ false = sym (later-some (last_of id ws) w) ∙ isnt in absurd (cc (wrong))
    by false is true isnt ih = ap (λ r. r || has_written ws id begin) is ∙ ih (sym (later-none (last_of id ws)) ∙ isnt)
    by false is false isnt ih = ih (sym (later-none (last_of id ws)) ∙ isnt)

-- the transaction of all writes of the row has written it, where there are any
own-written : (ws : List Pending) (id : RowId) (begin : ℕ) → AreOf ws id begin → has_written ws id begin ≡ is_some (last_of id ws)
own-written [] id begin are = refl
own-written (w ∷ ws) id begin are = by (is_row (id_of w.change) id) refl (w.begin == begin) refl (own-written ws id begin are.1)
  where
    by : (r : Bool) → is_row (id_of w.change) id ≡ r → (b : Bool) → (w.begin == begin) ≡ b → has_written ws id begin ≡ is_some (last_of id ws)
        → list_any (λ v. is_row (id_of v.change) id) (cond b (w ∷ of_transaction begin ws) (of_transaction begin ws)) ≡ is_some (later (last_of id ws) (cond r (Some w) None))
    by true is true own ih = ap (λ r. r || has_written ws id begin) is ∙ sym (later-some (last_of id ws) w)
    by true is false other ih = let same : w.begin ≡ begin = are.0 is in absurd (grind (arith, nat_tests, other, same))
    by false is true own ih = ap (λ r. r || has_written ws id begin) is ∙ ih ∙ sym (later-none (last_of id ws))
    by false is false other ih = ih ∙ sym (later-none (last_of id ws))

-- and no other one has
other-written : (ws : List Pending) (id : RowId) (begin b : ℕ) → AreOf ws id begin → (b == begin) ≡ false → has_written ws id b ≡ false
other-written [] id begin b are differs = refl
other-written (w ∷ ws) id begin b are differs = by (is_row (id_of w.change) id) refl (w.begin == b) refl (other-written ws id begin b are.1 differs)
  where
    by : (r : Bool) → is_row (id_of w.change) id ≡ r → (t : Bool) → (w.begin == b) ≡ t → has_written ws id b ≡ false
        → list_any (λ v. is_row (id_of v.change) id) (cond t (w ∷ of_transaction b ws) (of_transaction b ws)) ≡ false
    by true is true own ih = let same : w.begin ≡ begin = are.0 is in absurd (grind (arith, nat_tests, differs, own, same))
    by false is true own ih = ap (λ r. r || has_written ws id b) is ∙ ih
    by true is false other ih = ih
    by false is false other ih = ih

-- so a transaction has written the row exactly where it is that one
writer-is : (ws : List Pending) (id : RowId) (begin b : ℕ) → is_some (last_of id ws) ≡ true → AreOf ws id begin → has_written ws id b ≡ (b == begin)
writer-is ws id begin b some are = by (b == begin) refl
  where
    by : (t : Bool) → (b == begin) ≡ t → has_written ws id b ≡ t
    by true is = let same : b ≡ begin = grind (arith, nat_tests, is) in ap (has_written ws id) same ∙ own-written ws id begin are ∙ some
    by false differs = other-written ws id begin b are differs

-- The transaction that holds it.

find-alike : (p q : Open → Bool) (ts : List Open) → ((t : Open) → p t ≡ q t) → find p ts ≡ find q ts
find-alike p q [] alike = refl
find-alike p q (t ∷ ts) alike = ap (λ b. cond b (Some t) (find p ts)) (alike t) ∙ ap (cond (q t) (Some t)) (find-alike p q ts alike)

find-none : (p : Open → Bool) (ts : List Open) → ((t : Open) → p t ≡ false) → find p ts ≡ None
find-none p [] none = refl
find-none p (t ∷ ts) none = ap (λ b. cond b (Some t) (find p ts)) (none t) ∙ find-none p ts none

module _ (w : World) (k : Kept) (d : KeptDatabase) (id : RowId) where
  abbrev ws : List Pending
  ws = pending (log_of w.history (database_of d))

  -- what is known of the first writer
  abbrev pub IsFirst : Option ℕ → Type 0
  IsFirst first = ((rs : List Logged) → Shows d.files rs d.shown → is_some first ≡ is_some (last_of id (pending rs)))
      × ((rs : List Logged) → Shows d.files rs d.shown → (begin : ℕ) → IfSome first (λ b. b ≡ begin) → AreOf (pending rs) id begin)

  pub holder-none : IsFirst None → Sees w k → ShowsLog w.history d → None ≡ holder w (database_of d) id
  unfolding holder log_of
  holder-none first sees shows =
      let none : is_some (last_of id (pending (log_of w.history (database_of d)))) ≡ false = sym (first.0 _ shows) in
      sym (find-none _ d.transactions (λ t. ap (λ b. not (t.session == w.session) && b) (none-written ws id t.begin none) ∙ and-false (not (t.session == w.session))))

  pub holder-is : (begin : ℕ) (found : Option Open) → IsFirst (Some begin) → found ≡ find (λ t. not (t.session == k.session) && t.begin == begin) d.transactions → Sees w k → ShowsLog w.history d
      → found ≡ holder w (database_of d) id
  unfolding holder log_of
  holder-is begin found first is sees shows =
      let some : is_some (last_of id (pending (log_of w.history (database_of d)))) ≡ true = sym (first.0 _ shows) in
      is
      ∙ ap (λ n. find (λ (t : Open). not (t.session == n) && t.begin == begin) d.transactions) (sym sees.session)
      ∙ find-alike _ _ d.transactions (λ t. ap (λ b. not (t.session == w.session) && b) (sym (writer-is ws id begin t.begin some (first.1 _ shows begin refl))))

-- How much is written.

same-count : (begin : ℕ) (ws : List Written) → length (own_of begin ws) ≡ length (of_transaction begin (map pending_of ws))
same-count begin [] = refl
same-count begin (w ∷ ws) = by (w.begin == begin) (same-count begin ws)
  where
    by : (b : Bool) → length (own_of begin ws) ≡ length (of_transaction begin (map pending_of ws)) → length (cond b (w ∷ own_of begin ws) (own_of begin ws)) ≡ length (cond b (pending_of w ∷ of_transaction begin (map pending_of ws)) (of_transaction begin (map pending_of ws)))
    by true ih = ap suc ih
    by false ih = ih

-- the writes that are kept are those that are pending
abbrev pub AreWritten : KeptDatabase → List Written → Type 0
AreWritten d ws = (rs : List Logged) → Shows d.files rs d.shown → map pending_of ws ≡ pending rs

pub writes-none : (w : World) (d : KeptDatabase) → None ≡ own_open w (database_of d) → 0 ≡ writes_of (log_of w.history (database_of d)) (own_open w (database_of d))
writes-none w d none = ap (writes_of (log_of w.history (database_of d))) none

pub writes-are : (w : World) (d : KeptDatabase) (t : Open) (ws : List Written) (n : ℕ) → Some t ≡ own_open w (database_of d) → AreWritten d ws → n ≡ length (own_of t.begin ws) → ShowsLog w.history d
    → n ≡ writes_of (log_of w.history (database_of d)) (own_open w (database_of d))
unfolding log_of
writes-are w d t ws n own are is shows =
    is ∙ same-count t.begin ws ∙ ap (λ ps. length (of_transaction t.begin ps)) (are _ shows) ∙ ap (writes_of (log_of w.history (database_of d))) own
