-- Each row with a pending write has an entry.
use Rattle.std.proofs.Common.{◌≡◌, ℕ, Bool, true, false, not, cond, List, [], ◌∷◌, ◌++◌, map, refl, sym, ◌∙◌, ap, subst, append_assoc}
use Rattle.std.specs.Prelude.{◌==◌, ◌&&◌, ◌||◌}
use Rattle.std.specs.List.{filter, AllByRecursion}
use Rattle.std.proofs.lemmas.Bool.{eqb-true, eq-eqb}
use Rattle.bk_lemmas.specs.Lists.{all_joined, all_mapped}
use Rattle.bk_lemmas.specs.Tests.{clash}
use Rattle.bk_world.specs.Pending.{Pending}
use Rattle.bk_world.specs.Records.{RowId, id_of, is_row}
use Rattle.bk_world.specs.RowLaws.{row-itself}
use Rattle.bk_shown.specs.Rows.{KeepsRows, RowEntries, has_entry}
use Rattle.bk_shown.specs.Shown.{OneWriter, pending_of}
use Rattle.bk_shown.specs.Writes.{HaveEntries, has_write, lacks_entry, others_of, own_of, row_of}
use Rattle.bk_shown.specs.declared.shown.Written.{Written}

-- one write more, whose row gets an entry
pub entries-more : (old new : RowEntries) (ws : List Written) (w : Written) → ((id : RowId) → has_entry new id ≡ (is_row (row_of w) id || has_entry old id)) → HaveEntries old ws → HaveEntries new (ws ++ w ∷ [])
entries-more old new ws w are have =
    all_joined (λ (v : Written). has_entry new (row_of v) ≡ true) ws (w ∷ [])
    (all_mapped (λ (v : Written). has_entry old (row_of v) ≡ true) (λ (v : Written). has_entry new (row_of v) ≡ true) (λ v there. are (row_of v) ∙ either (is_row (row_of w) (row_of v)) (has_entry old (row_of v)) there) ws have)
    (are (row_of w) ∙ ap (λ b. b || has_entry old (row_of w)) (row-itself (row_of w)), tt)
  where
    either : (a b : Bool) → b ≡ true → (a || b) ≡ true
    either true b e = refl
    either false b e = e

module _ (old new : RowEntries) (p : Written → Bool) (ws : List Written) (keeps : KeepsRows (λ id. not (has_write (filter p ws) id)) old new) where
  either : (a b : Bool) → b ≡ true → (a || b) ≡ true
  either true b e = refl
  either false b e = e

  here : (w : Written) → has_entry old (row_of w) ≡ true → has_write (filter p ws) (row_of w) ≡ true → has_entry new (row_of w) ≡ true
  here w there its = keeps.entries (row_of w) (ap not its) ∙ there

  abbrev Within : List Written → Type 0
  Within vs = (id : RowId) → has_write vs id ≡ true → has_write (filter p ws) id ≡ true

  among-left : (vs : List Written) → HaveEntries old vs → Within (filter p vs) → HaveEntries new (filter p vs)
  among-left [] have within = tt
  among-left (v ∷ vs) have within = on (p v) within (λ less. among-left vs have.1 less)
    where
      on : (t : Bool) → Within (cond t (v ∷ filter p vs) (filter p vs)) → (Within (filter p vs) → HaveEntries new (filter p vs)) → HaveEntries new (cond t (v ∷ filter p vs) (filter p vs))
      on true within rest = (
        here v have.0 (within (row_of v) (ap (λ b. b || has_write (filter p vs) (row_of v)) (row-itself (row_of v)))),
        rest (λ id is. within id (either (is_row (row_of v) id) (has_write (filter p vs) id) is)),
      )
      on false within rest = rest within

  -- writes of which some are gone, and rows that keep their entries where a write is left
  pub entries-left : HaveEntries old ws → HaveEntries new (filter p ws)
  entries-left have = among-left ws have (λ id is. is)

-- ---- a transaction's writes

-- no write of another transaction is of a row that one of its own is of
none-own : (begin : ℕ) (id : RowId) (theirs : ℕ) (ws : List Written) → AllByRecursion (λ (v : Pending). is_row (id_of v.change) id ≡ true → v.begin ≡ theirs) (map pending_of ws) → (begin == theirs) ≡ false
    → has_write (own_of begin ws) id ≡ false
none-own begin id theirs [] all isnt = refl
none-own begin id theirs (w ∷ ws) all isnt = by (w.begin == begin) refl (is_row (row_of w) id) refl (none-own begin id theirs ws all.1 isnt)
  where
    by : (t : Bool) → (w.begin == begin) ≡ t → (r : Bool) → is_row (row_of w) id ≡ r → has_write (own_of begin ws) id ≡ false → has_write (cond t (w ∷ own_of begin ws) (own_of begin ws)) id ≡ false
    by false its r is rest = rest
    by true its false is rest = ap (λ b. b || has_write (own_of begin ws) id) is ∙ rest
    by true its true is rest = clash (begin == theirs) (eq-eqb begin theirs (sym (eqb-true _ _ its) ∙ all.0 is)) isnt

-- where another transaction writes a row, none of its own does
other-alone : (begin : ℕ) (ws : List Written) (w : Written) → OneWriter (map pending_of ws) (row_of w) → (front back : List Written) → ws ≡ front ++ w ∷ back → (w.begin == begin) ≡ false → has_write (own_of begin ws) (row_of w) ≡ false
other-alone begin ws w one front back e isnt =
    none-own begin (row_of w) one.0 ws one.1 (turned begin one.0 (ap (λ (k : ℕ). k == begin) (sym (its ws front e one.1)) ∙ isnt))
  where
    turned : (a b : ℕ) → (b == a) ≡ false → (a == b) ≡ false
    turned a b e = by (a == b) refl
      where
        by : (t : Bool) → (a == b) ≡ t → (a == b) ≡ false
        by false is = is
        by true is = clash (b == a) (eq-eqb b a (sym (eqb-true _ _ is))) e

    its : (ws front : List Written) → ws ≡ front ++ w ∷ back → AllByRecursion (λ (v : Pending). is_row (id_of v.change) (row_of w) ≡ true → v.begin ≡ one.0) (map pending_of ws) → w.begin ≡ one.0
    its ws front e all = on front (subst (λ (vs : List Written). AllByRecursion (λ (v : Pending). is_row (id_of v.change) (row_of w) ≡ true → v.begin ≡ one.0) (map pending_of vs)) e all)
      where
        on : (front : List Written) → AllByRecursion (λ (v : Pending). is_row (id_of v.change) (row_of w) ≡ true → v.begin ≡ one.0) (map pending_of (front ++ w ∷ back)) → w.begin ≡ one.0
        on [] all = all.0 (row-itself (row_of w))
        on (f ∷ front) all = on front all.1

module _ (begin : ℕ) (old new : RowEntries) (ws : List Written) (one : (id : RowId) → OneWriter (map pending_of ws) id)
    (kept : (id : RowId) → has_write (own_of begin ws) id ≡ false → has_entry new id ≡ has_entry old id) where
  others-on : (front vs : List Written) → ws ≡ front ++ vs → HaveEntries old vs → HaveEntries new (others_of begin vs)
  others-on front [] e have = tt
  others-on front (v ∷ vs) e have = on (v.begin == begin) refl (others-on (front ++ v ∷ []) vs (e ∙ sym (append_assoc front (v ∷ []) vs)) have.1)
    where
      on : (t : Bool) → (v.begin == begin) ≡ t → HaveEntries new (others_of begin vs) → HaveEntries new (cond (not t) (v ∷ others_of begin vs) (others_of begin vs))
      on true is rest = rest
      on false isnt rest = (kept (row_of v) (other-alone begin ws v (one (row_of v)) front vs e isnt) ∙ have.0, rest)

  -- what others wrote keeps its entries at a commit
  pub entries-others : HaveEntries old ws → HaveEntries new (others_of begin ws)
  entries-others have = others-on [] ws refl have

-- none of its own lacks an entry
pub none-lacks : (begin : ℕ) (rows : RowEntries) (ws : List Written) → HaveEntries rows ws → lacks_entry begin rows ws ≡ false
none-lacks begin rows [] have = refl
none-lacks begin rows (w ∷ ws) have =
    ap (λ b. ((w.begin == begin) && not b) || lacks_entry begin rows ws) have.0 ∙ by (w.begin == begin) (none-lacks begin rows ws have.1)
  where
    by : (t : Bool) → lacks_entry begin rows ws ≡ false → ((t && not true) || lacks_entry begin rows ws) ≡ false
    by true rest = rest
    by false rest = rest
