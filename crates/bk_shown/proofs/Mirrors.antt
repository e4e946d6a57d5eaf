-- Pending writes as they are kept say what those of the log say.
use Rattle.std.proofs.Common.{◌≡◌, ℕ, Bool, true, false, not, cond, List, [], ◌∷◌, ◌++◌, map, Option, Some, None, refl, sym, ◌∙◌, ap}
use Rattle.std.specs.Prelude.{◌==◌, ◌||◌, is_some, option_map, IfSome}
use Rattle.std.specs.List.{find, AllByRecursion}
use Rattle.std.proofs.lemmas.Bool.{eqb-true, eq-eqb}
use Rattle.bk_world.specs.LastLaws.{one}
use Rattle.bk_lemmas.specs.Lists.{all_mapped}
use Rattle.bk_world.specs.Pending.{Pending, changes_of, of_others, of_transaction}
use Rattle.bk_world.specs.Places.{last_of, later}
use Rattle.bk_world.specs.Records.{RowId, id_of, is_row}
use Rattle.bk_world.specs.RowLaws.{value_behind}
use Rattle.bk_lemmas.specs.Tests.{clash}
use Rattle.bk_shown.specs.Shown.{OneWriter, pending_of}
use Rattle.bk_shown.specs.Steps.{row_numbered}
use Rattle.bk_shown.specs.Writes.{own_of, others_of, row_of, value_after, has_write, writer_of}
use Rattle.bk_shown.specs.declared.shown.Written.{Written}
use Rattle.bk_shown.proofs.Lists.{filter-mapped}

pub own-mirror : (begin : ℕ) (ws : List Written) → map pending_of (own_of begin ws) ≡ of_transaction begin (map pending_of ws)
own-mirror begin ws = filter-mapped pending_of (λ v. v.begin == begin) ws

pub others-mirror : (begin : ℕ) (ws : List Written) → map pending_of (others_of begin ws) ≡ of_others begin (map pending_of ws)
others-mirror begin ws = filter-mapped pending_of (λ v. not (v.begin == begin)) ws

pub value-mirror : (id : RowId) (ws : List Written) (value : Option (List ℕ)) → value_after id ws value ≡ value_behind id (changes_of (map pending_of ws)) value
value-mirror id [] value = refl
value-mirror id (w ∷ ws) value = value-mirror id ws (cond (is_row (row_of w) id) w.value value)

pub has-mirror : (id : RowId) (ws : List Written) → has_write ws id ≡ is_some (last_of id (map pending_of ws))
has-mirror id [] = refl
has-mirror id (w ∷ ws) = ap (λ b. is_row (row_of w) id || b) (has-mirror id ws) ∙ by (is_row (row_of w) id) (last_of id (map pending_of ws))
  where
    by : (t : Bool) (l : Option Pending) → (t || is_some l) ≡ is_some (later l (one t (pending_of w)))
    by true None = refl
    by true (Some u) = refl
    by false None = refl
    by false (Some u) = refl

-- where one write alone has a number, its row is found by it
pub found-mirror : (ws : List Written) (n : ℕ) (w : Pending) (front back : List Pending) → map pending_of ws ≡ front ++ w ∷ back → w.lsn ≡ n
    → AllByRecursion (λ v. v.lsn ≡ n → v ≡ w) (map pending_of ws) → row_numbered ws n ≡ Some (id_of w.change)
found-mirror [] n w [] back e number each = absurd (cc)
found-mirror [] n w (f ∷ front) back e number each = absurd (cc)
found-mirror (x ∷ ws) n w front back e number each = by (x.lsn == n) refl front e (λ less rest. found-mirror ws n w less back rest number each.1)
  where
    by : (t : Bool) → (x.lsn == n) ≡ t → (front : List Pending) → pending_of x ∷ map pending_of ws ≡ front ++ w ∷ back
        → ((less : List Pending) → map pending_of ws ≡ less ++ w ∷ back → row_numbered ws n ≡ Some (id_of w.change))
        → option_map row_of (cond t (Some x) (find (λ (v : Written). v.lsn == n) ws)) ≡ Some (id_of w.change)
    by true is front e rest = ap (λ (v : Pending). Some (id_of v.change)) (each.0 (eqb-true _ _ is))
    by false isnt [] e rest = let same : pending_of x ≡ w = cc in clash (x.lsn == n) (eq-eqb x.lsn n (ap (λ (v : Pending). v.lsn) same ∙ number)) isnt
    by false isnt (f ∷ front) e rest = let less : map pending_of ws ≡ front ++ w ∷ back = cc in rest front less

-- ---- the transaction of a row's writes

none-written : (ws : List Written) (id : RowId) → writer_of ws id ≡ None → AllByRecursion (λ w. is_row (id_of w.change) id ≡ false) (map pending_of ws)
none-written [] id none = tt
none-written (w ∷ ws) id none = by (is_row (row_of w) id) refl none (λ rest. none-written ws id rest)
  where
    by : (t : Bool) → is_row (row_of w) id ≡ t → option_map (λ (v : Written). v.begin) (cond t (Some w) (find (λ (v : Written). is_row (row_of v) id) ws)) ≡ None
        → (writer_of ws id ≡ None → AllByRecursion (λ v. is_row (id_of v.change) id ≡ false) (map pending_of ws)) → AllByRecursion (λ v. is_row (id_of v.change) id ≡ false) (map pending_of (w ∷ ws))
    by true is none rest = absurd (cc)
    by false isnt none rest = (isnt, rest none)

some-writer : (ws : List Written) (id : RowId) (b theirs : ℕ) → writer_of ws id ≡ Some b → AllByRecursion (λ w. is_row (id_of w.change) id ≡ true → w.begin ≡ theirs) (map pending_of ws) → b ≡ theirs
some-writer [] id b theirs e all = absurd (cc)
some-writer (w ∷ ws) id b theirs e all = by (is_row (row_of w) id) refl e (λ rest. some-writer ws id b theirs rest all.1)
  where
    by : (t : Bool) → is_row (row_of w) id ≡ t → option_map (λ (v : Written). v.begin) (cond t (Some w) (find (λ (v : Written). is_row (row_of v) id) ws)) ≡ Some b → (writer_of ws id ≡ Some b → b ≡ theirs) → b ≡ theirs
    by true is e rest = let same : w.begin ≡ b = cc in sym same ∙ all.0 is
    by false isnt e rest = rest e

pub writer-mirror : (ws : List Written) (id : RowId) → is_some (writer_of ws id) ≡ is_some (last_of id (map pending_of ws))
writer-mirror ws id = found ws ∙ has-mirror id ws
  where
    found : (ws : List Written) → is_some (writer_of ws id) ≡ has_write ws id
    found [] = refl
    found (w ∷ ws) = by (is_row (row_of w) id) (found ws)
      where
        by : (t : Bool) → is_some (writer_of ws id) ≡ has_write ws id → is_some (option_map (λ (v : Written). v.begin) (cond t (Some w) (find (λ (v : Written). is_row (row_of v) id) ws))) ≡ (t || has_write ws id)
        by true rest = refl
        by false rest = rest

pub alone-mirror : (ws : List Written) (id : RowId) (begin : ℕ) → OneWriter (map pending_of ws) id → IfSome (writer_of ws id) (λ b. b ≡ begin)
    → AllByRecursion (λ w. is_row (id_of w.change) id ≡ true → w.begin ≡ begin) (map pending_of ws)
alone-mirror ws id begin single given = by (writer_of ws id) refl given
  where
    by : (o : Option ℕ) → writer_of ws id ≡ o → IfSome o (λ b. b ≡ begin) → AllByRecursion (λ w. is_row (id_of w.change) id ≡ true → w.begin ≡ begin) (map pending_of ws)
    by None none given = all_mapped (λ w. is_row (id_of w.change) id ≡ false) (λ w. is_row (id_of w.change) id ≡ true → w.begin ≡ begin) (λ w isnt its. clash (is_row (id_of w.change) id) its isnt) (map pending_of ws) (none-written ws id none)
    by (Some b) is given = all_mapped (λ w. is_row (id_of w.change) id ≡ true → w.begin ≡ single.0) (λ w. is_row (id_of w.change) id ≡ true → w.begin ≡ begin)
        (λ w same its. same its ∙ sym (some-writer ws id b single.0 is single.1) ∙ given) (map pending_of ws) single.1
