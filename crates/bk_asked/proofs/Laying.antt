-- Rows with pending writes over them.
use Rattle.std.proofs.Common.{◌≡◌, ◌≢◌, ◌<◌, ◌+◌, ℕ, zero, suc, Bool, true, false, cond, ltb, eqb, List, [], ◌∷◌, ◌++◌, map, length, get_or, take, Some, None, refl, sym, ◌∙◌, ap, arith}
use Rattle.std.specs.Prelude.{◌==◌, ◌&&◌, if◌then◌else◌, nat_le, set}
use Rattle.std.specs.List.{insert, position, position_or_len, remove}
use Rattle.std.specs.BTreeMap.{insert_entry, is_at}
use Rattle.std.specs.Map.{remove_entry}
use Rattle.std.specs.Ordering.{match_ordering, nat_cmp}
use Rattle.std.specs.declared.cmp.Ordering.TheVariants.{Less, Equal, Greater}
use Rattle.std.proofs.lemmas.Bool.{lt-ltb}
use Rattle.std.proofs.lemmas.Bool.Decides.{nat_tests}
use Rattle.std.proofs.lemmas.List.{take_more}
use Rattle.std.proofs.lemmas.List.Quantifiers.{position-Some}
use Rattle.bk_machine.specs.Seen.{visible, visible_by}
use Rattle.bk_machine.specs.World.{World, log_of}
use Rattle.bk_machine.specs.statements.Target.{own_open}
use Rattle.bk_shown.specs.Shown.{Shows, pending_of}
use Rattle.bk_shown.specs.declared.shown.Written.{Written}
use Rattle.bk_world.specs.declared.database.TableSpec.{TableSpec}
use Rattle.bk_world.specs.declared.transaction.Open.{Open}
use Rattle.bk_world.specs.Entry.{RowChange}
use Rattle.bk_world.specs.Lines.{log_below}
use Rattle.bk_world.specs.Pending.{changes_of, of_transaction, pending}
use Rattle.bk_world.specs.Records.{Logged}
use Rattle.bk_world.specs.RowLaws.{at_is}
use Rattle.bk_world.specs.Rows.{Rows, rows_changed, with_row}
use Rattle.bk_world.specs.Telling.{rows, seen}
use Rattle.bk_kept.specs.declared.kept.Database.{Database as KeptDatabase}
use Rattle.bk_kept.specs.Keeps.{ShowsLog, database_of}

-- Rows by their keys.

-- how a row comes before or behind a key
abbrev placed : Rows → ℕ → List ℕ → (ℕ × List ℕ) → Bool → Bool → Rows
placed es k v e less same = match_ordering (cond less Less (cond same Equal Greater)) ((k, v) ∷ e ∷ es) ((e.0, v) ∷ es) (e ∷ insert_entry nat_cmp es k v)

-- behind rows with lesser keys
passed : (e : ℕ × List ℕ) (es : Rows) (k : ℕ) (v : List ℕ) → nat_le k e.0 ≡ false → e ∷ insert_entry nat_cmp es k v ≡ insert_entry nat_cmp (e ∷ es) k v
passed e es k v before =
    let less : ltb k e.0 ≡ false = grind (arith, nat_tests, before) in
    let same : eqb k e.0 ≡ false = grind (arith, nat_tests, before) in
    sym (ap (λ b. placed es k v e b (eqb k e.0)) less ∙ ap (placed es k v e false) same)

put-between : (es : Rows) (i k : ℕ) (v : List ℕ) (x : ℕ × List ℕ) → i < length es → k < (get_or es i x).0 → ((j : ℕ) → j < i → nat_le k (get_or es j x).0 ≡ false)
    → insert es i (k, v) ≡ insert_entry nat_cmp es k v
put-between [] i k v x lt here before = absurd (omega (arith, lt))
put-between (e ∷ es) zero k v x lt here before =
    let less : ltb k e.0 ≡ true = lt-ltb k e.0 here in
    sym (ap (λ b. placed es k v e b (eqb k e.0)) less)
put-between (e ∷ es) (suc i) k v x lt here before =
    ap (λ rest. e ∷ rest) (put-between es i k v x (omega (arith, lt)) here (λ j less. before (suc j) (omega (arith, less))))
    ∙ passed e es k v (before 0 (omega arith))

put-over : (es : Rows) (i k : ℕ) (v : List ℕ) (x : ℕ × List ℕ) → i < length es → (get_or es i x).0 ≡ k → ((j : ℕ) → j < i → nat_le k (get_or es j x).0 ≡ false)
    → set es i (k, v) ≡ insert_entry nat_cmp es k v
put-over [] i k v x lt here before = absurd (omega (arith, lt))
put-over (e ∷ es) zero k v x lt here before =
    let less : ltb k e.0 ≡ false = grind (arith, nat_tests, here) in
    let same : eqb k e.0 ≡ true = grind (arith, nat_tests, here) in
    ap (λ (n : ℕ). (n, v) ∷ es) (sym here) ∙ sym (ap (λ b. placed es k v e b (eqb k e.0)) less ∙ ap (placed es k v e false) same)
put-over (e ∷ es) (suc i) k v x lt here before =
    ap (λ rest. e ∷ rest) (put-over es i k v x (omega (arith, lt)) here (λ j less. before (suc j) (omega (arith, less))))
    ∙ passed e es k v (before 0 (omega arith))

-- the test for a key that isn't less
abbrev pub reaches : ℕ → (ℕ × List ℕ) → Bool
reaches k row = nat_le k row.0

pub put-there : (es : Rows) (i k : ℕ) (v : List ℕ) (x : ℕ × List ℕ) → position (reaches k) es ≡ Some i → x ≡ get_or es i x → x.0 ≡ k → set es i (k, v) ≡ insert_entry nat_cmp es k v
put-there es i k v x is at own =
    let found = position-Some (reaches k) es i x is in
    put-over es i k v x found.0 (ap (λ (r : ℕ × List ℕ). r.0) (sym at) ∙ own) found.2

pub put-before : (es : Rows) (i k : ℕ) (v : List ℕ) (x : ℕ × List ℕ) → position (reaches k) es ≡ Some i → x ≡ get_or es i x → x.0 ≢ k → insert es i (k, v) ≡ insert_entry nat_cmp es k v
put-before es i k v x is at other =
    let found = position-Some (reaches k) es i x is in
    let reached : nat_le k (get_or es i x).0 ≡ true = found.1 in
    let same : x.0 ≡ (get_or es i x).0 = ap (λ (r : ℕ × List ℕ). r.0) at in
    let less : k < (get_or es i x).0 = grind (arith, nat_tests, reached, other, same) in
    put-between es i k v x found.0 less found.2

-- Where none is found.

none-rest : (p : ℕ × List ℕ → Bool) (e : ℕ × List ℕ) (es : Rows) → p e ≡ false → position p (e ∷ es) ≡ None → position p es ≡ None
none-rest p e es other none = later (ltb (position_or_len p es) (length es)) refl (rw other at none)
  where
    later : (t : Bool) → ltb (position_or_len p es) (length es) ≡ t → cond (ltb (1 + position_or_len p es) (suc (length es))) (Some (1 + position_or_len p es)) None ≡ None
        → cond t (Some (position_or_len p es)) None ≡ None
    later false is n = refl
    later true is n =
        let more : ltb (1 + position_or_len p es) (suc (length es)) ≡ true = grind (arith, nat_tests, is) in
        let found : Some (1 + position_or_len p es) ≡ None = sym (ap (λ t. cond t (Some (1 + position_or_len p es)) None) more) ∙ n in
        absurd (cc (found))

none-here : (p : ℕ × List ℕ → Bool) (e : ℕ × List ℕ) (es : Rows) → position p (e ∷ es) ≡ None → p e ≡ false
none-here p e es none = by (p e) refl
  where
    by : (t : Bool) → p e ≡ t → p e ≡ false
    by false is = is
    by true is =
        let first : ltb 0 (suc (length es)) ≡ true = lt-ltb _ _ (omega arith) in
        let found : Some 0 ≡ None = sym (ap (λ t. cond t (Some 0) None) first) ∙ (rw is at none) in
        absurd (cc (found))

pub put-last : (es : Rows) (k : ℕ) (v : List ℕ) → position (reaches k) es ≡ None → es ++ (k, v) ∷ [] ≡ insert_entry nat_cmp es k v
put-last [] k v none = refl
put-last (e ∷ es) k v none =
    let before : nat_le k e.0 ≡ false = none-here (reaches k) e es none in
    ap (λ rest. e ∷ rest) (put-last es k v (none-rest (reaches k) e es before none)) ∙ passed e es k v before

-- Rows that are gone.

-- the test for a key
abbrev pub has_key : ℕ → (ℕ × List ℕ) → Bool
has_key k row = row.0 == k

-- behind a row of another key
left : (e : ℕ × List ℕ) (es : Rows) (k : ℕ) → (e.0 == k) ≡ false → e ∷ remove_entry (is_at (nat_cmp k)) es ≡ remove_entry (is_at (nat_cmp k)) (e ∷ es)
left e es k other = sym (ap (λ t. cond t es (e ∷ remove_entry (is_at (nat_cmp k)) es)) (at_is k e.0 ∙ other))

gone : (es : Rows) (i k : ℕ) (x : ℕ × List ℕ) → i < length es → has_key k (get_or es i x) ≡ true → ((j : ℕ) → j < i → has_key k (get_or es j x) ≡ false)
    → remove es i ≡ remove_entry (is_at (nat_cmp k)) es
gone [] i k x lt here before = absurd (omega (arith, lt))
gone (e ∷ es) zero k x lt here before = sym (ap (λ t. cond t es (e ∷ remove_entry (is_at (nat_cmp k)) es)) (at_is k e.0 ∙ here))
gone (e ∷ es) (suc i) k x lt here before =
    ap (λ rest. e ∷ rest) (gone es i k x (omega (arith, lt)) here (λ j less. before (suc j) (omega (arith, less)))) ∙ left e es k (before 0 (omega arith))

pub gone-at : (es : Rows) (i k : ℕ) (x : ℕ × List ℕ) → position (has_key k) es ≡ Some i → remove es i ≡ remove_entry (is_at (nat_cmp k)) es
gone-at es i k x is = let found = position-Some (has_key k) es i x is in gone es i k x found.0 found.1 found.2

pub gone-none : (es : Rows) (k : ℕ) → position (has_key k) es ≡ None → es ≡ remove_entry (is_at (nat_cmp k)) es
gone-none [] k none = refl
gone-none (e ∷ es) k none =
    let other : (e.0 == k) ≡ false = none-here (has_key k) e es none in
    ap (λ rest. e ∷ rest) (gone-none es k (none-rest (has_key k) e es other none)) ∙ left e es k other

-- Writes over rows.

changed-more : (table : ℕ) (rs : Rows) (cs : List RowChange) (c : RowChange) → rows_changed table rs (cs ++ c ∷ []) ≡ cond (c.table == table) (with_row (rows_changed table rs cs) c.key c.value) (rows_changed table rs cs)
changed-more table rs [] c = refl
changed-more table rs (d ∷ cs) c = changed-more table (cond (d.table == table) (with_row rs d.key d.value) rs) cs c

-- the changes that a transaction's writes among some make
abbrev pub changes_by : ℕ → List Written → List RowChange
changes_by begin ws = changes_of (of_transaction begin (map pending_of ws))

-- with one write more
by-more : (begin : ℕ) (ws : List Written) (w : Written) → changes_by begin (ws ++ w ∷ []) ≡ cond (w.begin == begin) (changes_by begin ws ++ (pending_of w).change ∷ []) (changes_by begin ws)
by-more begin [] w = by (w.begin == begin)
  where
    by : (b : Bool) → changes_of (cond b (pending_of w ∷ []) []) ≡ cond b ((pending_of w).change ∷ []) []
    by true = refl
    by false = refl
by-more begin (v ∷ ws) w = by (v.begin == begin) (by-more begin ws w)
  where
    joined : (b : Bool) → (pending_of v).change ∷ cond b (changes_by begin ws ++ (pending_of w).change ∷ []) (changes_by begin ws)
        ≡ cond b (((pending_of v).change ∷ changes_by begin ws) ++ (pending_of w).change ∷ []) ((pending_of v).change ∷ changes_by begin ws)
    joined true = refl
    joined false = refl

    by : (b : Bool) → changes_by begin (ws ++ w ∷ []) ≡ cond (w.begin == begin) (changes_by begin ws ++ (pending_of w).change ∷ []) (changes_by begin ws)
        → changes_of (cond b (pending_of v ∷ of_transaction begin (map pending_of (ws ++ w ∷ []))) (of_transaction begin (map pending_of (ws ++ w ∷ []))))
        ≡ cond (w.begin == begin) (changes_of (cond b (pending_of v ∷ of_transaction begin (map pending_of ws)) (of_transaction begin (map pending_of ws))) ++ (pending_of w).change ∷ [])
        (changes_of (cond b (pending_of v ∷ of_transaction begin (map pending_of ws)) (of_transaction begin (map pending_of ws))))
    by true later = ap (λ cs. (pending_of v).change ∷ cs) later ∙ joined (w.begin == begin)
    by false later = later

-- rows that are laid over so far
abbrev pub laid : ℕ → ℕ → Rows → List Written → Rows
laid begin table rs ws = rows_changed table rs (changes_by begin ws)

laid-more : (begin table : ℕ) (rs : Rows) (ws : List Written) (w : Written)
    → laid begin table rs (ws ++ w ∷ []) ≡ cond (w.begin == begin) (cond (w.table == table) (with_row (laid begin table rs ws) w.key w.value) (laid begin table rs ws)) (laid begin table rs ws)
laid-more begin table rs ws w = ap (rows_changed table rs) (by-more begin ws w) ∙ by (w.begin == begin)
  where
    by : (b : Bool) → rows_changed table rs (cond b (changes_by begin ws ++ (pending_of w).change ∷ []) (changes_by begin ws))
        ≡ cond b (cond (w.table == table) (with_row (laid begin table rs ws) w.key w.value) (laid begin table rs ws)) (laid begin table rs ws)
    by true = changed-more table rs (changes_by begin ws) (pending_of w).change
    by false = refl

-- rows behind one write
abbrev pub row_behind : ℕ → ℕ → Rows → Written → Rows
row_behind begin table rs w = if w.begin == begin && w.table == table then with_row rs w.key w.value else rs

pub laid-next : (begin table : ℕ) (rs now new : Rows) (ws : List Written) (i : ℕ) (x : Written) → i < length ws → now ≡ laid begin table rs (take i ws) → new ≡ row_behind begin table now (get_or ws i x)
    → new ≡ laid begin table rs (take (i + 1) ws)
laid-next begin table rs now new ws i x lt so is =
    is ∙ ap (λ r. row_behind begin table r (get_or ws i x)) so
    ∙ sym (ap (laid begin table rs) (take_more ws i x lt) ∙ laid-more begin table rs (take i ws) (get_or ws i x) ∙ by ((get_or ws i x).begin == begin) ((get_or ws i x).table == table) _ _)
  where
    by : (a b : Bool) (r s : Rows) → cond a (cond b r s) s ≡ cond (a && b) r s
    by true true r s = refl
    by true false r s = refl
    by false b r s = refl

-- What is seen.

pub sees-committed : (w : World) (d : KeptDatabase) (table : TableSpec) → None ≡ own_open w (database_of d) → rows (log_below w.history d.path d.shown.«end») table.number ≡ visible w (database_of d) table
unfolding visible log_of
sees-committed w d table none = ap (λ o. visible_by (log_below w.history d.path d.shown.«end») o table.number) none

pub sees-own : (w : World) (d : KeptDatabase) (t : Open) (table : TableSpec) → Some t ≡ own_open w (database_of d)
    → seen (log_below w.history d.path d.shown.«end») t.begin table.number ≡ visible w (database_of d) table
unfolding visible log_of
sees-own w d t table own = ap (λ o. visible_by (log_below w.history d.path d.shown.«end») o table.number) own

-- committed rows with the writes of the transaction laid over them
pub sees-laid : (w : World) (d : KeptDatabase) (t : Open) (table : TableSpec) (old new : Rows) (ws : List Written) → Some t ≡ own_open w (database_of d) → ShowsLog w.history d
    → ((rs : List Logged) → Shows d.files rs d.shown → old ≡ rows rs table.number) → ((rs : List Logged) → Shows d.files rs d.shown → map pending_of ws ≡ pending rs)
    → new ≡ laid t.begin table.number old ws → new ≡ visible w (database_of d) table
unfolding seen
sees-laid w d t table old new ws own shows rows-are pending-are is =
    is
    ∙ ap (λ r. rows_changed table.number r (changes_by t.begin ws)) (rows-are _ shows)
    ∙ ap (λ ps. rows_changed table.number (rows (log_below w.history d.path d.shown.«end») table.number) (changes_of (of_transaction t.begin ps))) (pending-are _ shows)
    ∙ sees-own w d t table own
